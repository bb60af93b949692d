use Rattle.std.proofs.Common.{◌≡◌, ◌+◌, ◌-◌, take}
use Rattle.std.specs.Prelude.{sum_by}
use Rattle.amqp_link_uses.specs.Brokers.{credit_of, held}
use Rattle.amqp_link_uses.proofs.broker.Broker.left_to_take.Given as goal

-- what is left beside what is held and the credit of the links so far
abbrev pub invariant-loop-from : goal.invariant-loop-from
invariant-loop-from l = l.left ≡ l.self.room - (held l.self + sum_by credit_of (take l.from-index l.self.incoming))
