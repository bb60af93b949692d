use Rattle.std.proofs.Common.{◌≡◌, ◌∙◌, ◌-◌, ◌<◌, ap, length, rules}
use Rattle.std.specs.Prelude.{get_or}
use Rattle.amqp_link_uses.specs.Brokers.{claimed}
use Rattle.amqp_link_uses.proofs.BrokerLemmas.{left_beside_next}
use Rattle.amqp_link_uses.proofs.broker.Broker.free.Goals as goal

pub loop-from-preserved : goal.loop-from-preserved
loop-from-preserved c =
    let b = c.args.self.now in
    let i = c.loop-from.from-index in
    let x = c.from-item.result in
    let within : i < length b.incoming = search rules in
    let is : x ≡ get_or b.incoming i x = search rules in
    c.left_beside-left.ensures ∙ ap (λ n. n - claimed x) c.loop-from.invariant ∙ left_beside_next claimed b i x within is
