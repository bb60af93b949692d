use Rattle.std.proofs.Common.{◌≡◌, map, take}
use Rattle.amqp_link_ledger.specs.Disposing.{settled_outcome}
use Rattle.amqp_link_ledger.proofs.ledger.disposing.settled_copies.Given as goal

abbrev pub invariant-loop-tag : goal.invariant-loop-tag
invariant-loop-tag l = l.copies.items ≡ map (λ pair. settled_outcome l.unsettled pair.1) (take l.tag-index l.listed)
