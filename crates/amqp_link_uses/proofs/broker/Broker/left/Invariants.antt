use Rattle.std.proofs.Common.{◌≡◌, ◌+◌, ◌-◌, length, take}
use Rattle.std.specs.Prelude.{sum_by}
use Rattle.amqp_link_uses.proofs.broker.Broker.left.Given as goal

-- what is left beside the queue and the links so far
abbrev pub invariant-loop-outgoing : goal.invariant-loop-outgoing
invariant-loop-outgoing l = l.left
    ≡ l.self.room - (length l.self.queue + sum_by (λ o. length o.under_way) (take l.outgoing-index l.self.outgoing))
