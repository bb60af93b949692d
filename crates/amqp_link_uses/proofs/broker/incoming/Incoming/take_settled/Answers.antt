use Rattle.std.proofs.Common.{◌≡◌, ◌∙◌, Err, Option, [], ap, subst}
use Rattle.std.specs.Prelude.{IsSomeAnd, MatchOption, drop, if◌then◌else◌}
use Rattle.amqp_link.specs.Bodies.{whole_message}
use Rattle.amqp_link.specs.Completing.{IsDelivery}
use Rattle.amqp_link.specs.Deliveries.{Delivered}
use Rattle.amqp_link.specs.Held.{held_bytes}
use Rattle.amqp_link.specs.Merging.{first}
use Rattle.amqp_link.specs.declared.types.Whole.{Whole}
use Rattle.amqp_link_uses.specs.Brokers.{TakesFirst}
use Rattle.amqp_link_uses.proofs.BrokerLemmas.{not_taken, refused_as, takes_first}
use Rattle.amqp_link_uses.proofs.broker.incoming.Incoming.take_settled.Goals as goal

pub returns-in-Err-clause-refused : goal.returns-in-Err-clause-refused
returns-in-Err-clause-refused c =
    rw (← c.self.view_is) (refused_as (Option (Delivered Whole)) _ (first c.self.inside.inbox.settled) c.in-Err.refused c.in-Err.ensures.refused
    (λ u is. c.in-Err.ensures.undecoded u (ap (λ e. Err e) is)))

pub returns-in-Err-clause-left : goal.returns-in-Err-clause-left
returns-in-Err-clause-left c =
    let inbox = c.self.inside.inbox in
    ap (λ i. record { inbox = i; messages = c.self.inside.messages.entries }) (c.in-Err.ensures.after
    ∙ ap (λ b. record inbox { settled = if b then drop 1 inbox.settled else inbox.settled })
    (not_taken (Option (Delivered Whole)) (first inbox.settled) c.in-Err.refused (λ u is. c.in-Err.ensures.undecoded u (ap (λ e. Err e) is))))
    ∙ c.self.view_is

pub returns-clause-taken : goal.returns-clause-taken
returns-clause-taken c =
    let inbox = c.self.inside.inbox in
    let messages = c.self.inside.messages.entries in
    let given = subst (λ o. MatchOption o (inbox.settled ≡ []) (λ d. IsSomeAnd (first inbox.settled) (λ held.
    IsDelivery inbox.link held.performative (whole_message (held_bytes held)) d))) c.in-Some.is c.in-Ok.ensures.delivered in
    subst (λ s. TakesFirst c.args.link c.args.number s c.message_of.result (record { inbox = c.take_settled.new.self; messages = messages }))
    c.self.view_is (takes_first c.args.link c.args.number inbox c.take_settled.new.self messages c.in-Some.delivery c.message_of.result
    given c.in-Ok.ensures.after c.message_of.ensures)
