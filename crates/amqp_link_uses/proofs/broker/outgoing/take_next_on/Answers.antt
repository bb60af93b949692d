use Rattle.std.proofs.Common.{◌≡◌, Some, inr, refl, rules, subst, sym}
use Rattle.std.specs.Prelude.{IsSomeAnd, slice_get}
use Rattle.amqp_link_uses.specs.Brokers.{StopsNext}
use Rattle.amqp_link_uses.proofs.BrokerLemmas.{found_at, steps_at}
use Rattle.amqp_link_uses.proofs.broker.outgoing.take_next_on.Goals as goal

pub returns-in-Ok-clause-step : goal.returns-in-Ok-clause-step
returns-in-Ok-clause-step c =
    let is : slice_get c.args.outgoing.now.items c.args.link ≡ Some c.in-Some.on.now = search (rules, found_at) in
    steps_at c.args.link c.args.is_sent c.args.outgoing.now.items c.in-Some.on.now c.take_next.new.self c.in-Ok.step is c.in-Ok.ensures.step

pub returns-in-Err-clause-refused : goal.returns-in-Err-clause-refused
returns-in-Err-clause-refused c =
    let is : slice_get c.args.outgoing.now.items c.args.link ≡ Some c.in-Some.on.now = search (rules, found_at) in
    inr (c.in-Err.error, refl, subst (λ x. IsSomeAnd x (λ o. StopsNext c.args.is_sent c.in-Err.error o)) (sym is) c.in-Err.ensures.refused)
