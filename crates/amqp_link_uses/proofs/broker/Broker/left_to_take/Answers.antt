use Rattle.std.proofs.Common.{◌≡◌, ◌∙◌, ◌-◌, ◌<◌, ap, length, rules}
use Rattle.std.specs.Prelude.{get_or}
use Rattle.amqp_link_uses.specs.Brokers.{credit_of}
use Rattle.amqp_link_uses.proofs.BrokerLemmas.{left_beside_next}
use Rattle.amqp_link_uses.proofs.broker.Broker.left_to_take.Goals as goal

pub loop-from-preserved : goal.loop-from-preserved
loop-from-preserved c =
    let b = c.args.self.now in
    let i = c.loop-from.from-index in
    let x = c.from-item.result in
    let within : i < length b.incoming = search rules in
    let is : x ≡ get_or b.incoming i x = search rules in
    c.saturating_sub-left.ensures ∙ ap (λ n. c.loop-from.left - n) c.credit_of.ensures
    ∙ ap (λ n. n - credit_of x) c.loop-from.invariant ∙ left_beside_next credit_of b i x within is
