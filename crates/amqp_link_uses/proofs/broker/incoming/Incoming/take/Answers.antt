use Rattle.std.proofs.Common.{◌≡◌, ◌∙◌, ap, Err, if◌then◌else◌}
use Rattle.amqp_link.specs.Deliveries.{Delivered}
use Rattle.amqp_link.specs.Entries.{entry_at}
use Rattle.amqp_link.specs.Storing.{stage_at}
use Rattle.amqp_link.specs.Taking.{complete_of, take_refusal, with_taken}
use Rattle.amqp_link.specs.declared.types.Whole.{Whole}
use Rattle.amqp_link_uses.proofs.BrokerLemmas.{not_taken, refused_as}
use Rattle.amqp_link_uses.proofs.broker.incoming.Incoming.take.Goals as goal

pub returns-in-Err-clause-refused : goal.returns-in-Err-clause-refused
returns-in-Err-clause-refused c =
    let inbox = c.self.inside.inbox in
    let held = complete_of (entry_at inbox.deliveries c.args.tag.now) in
    let why = take_refusal (stage_at inbox.deliveries c.args.tag.now) inbox.link.output_handle in
    rw (← c.self.view_is) (refused_as (Delivered Whole) why held c.in-Err.refused c.in-Err.ensures.refused
    (λ u is. c.in-Err.ensures.undecoded u (ap (λ e. Err e) is)))

pub returns-in-Err-clause-left : goal.returns-in-Err-clause-left
returns-in-Err-clause-left c =
    let inbox = c.self.inside.inbox in
    let tag = c.args.tag.now in
    let held = complete_of (entry_at inbox.deliveries tag) in
    let same : c.take.new.self ≡ inbox = c.in-Err.ensures.after
    ∙ ap (λ b. record inbox { deliveries = if b then with_taken tag inbox.deliveries else inbox.deliveries })
    (not_taken (Delivered Whole) held c.in-Err.refused (λ u is. c.in-Err.ensures.undecoded u (ap (λ e. Err e) is))) in
    ap (λ i. record { inbox = i; messages = c.reserve.new.self.entries }) same
    ∙ ap (λ m. record { inbox = inbox; messages = m }) c.reserve.ensures.entries ∙ c.self.view_is
