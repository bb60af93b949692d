use Rattle.std.proofs.Common.{◌≡◌, ◌+◌, length, take}
use Rattle.std.specs.List.{concat}
use Rattle.amqp_link_core.proofs.incomplete_transfer.pieces.cut_at.Given as goal

abbrev pub invariant-loop-i : goal.invariant-loop-i
invariant-loop-i l = length (concat (take l.i l.pieces)) + l.rest ≡ l.size
