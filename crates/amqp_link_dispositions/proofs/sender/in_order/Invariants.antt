use Rattle.std.proofs.Common.{◌≡◌, ◌++◌, map, drop}
use Rattle.amqp_link_dispositions.proofs.sender.in_order.Given as goal

-- what is taken up and what is left make the whole
abbrev pub invariant-loop-id : goal.invariant-loop-id
invariant-loop-id l = map (λ pair. (pair.0, pair.1.now)) l.sorted.items ++ drop l.id-index l.listed ≡ l.listed
