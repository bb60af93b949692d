use Rattle.std.proofs.Common.{take}
use Rattle.std.specs.List.{concat}
use Rattle.amqp_link_core.specs.Carries.{HasPushed}
use Rattle.amqp_link_core.proofs.incomplete_transfer.pieces.carry_of.Given as goal

abbrev pub invariant-loop-piece : goal.invariant-loop-piece
invariant-loop-piece l = HasPushed l.carry (concat (take l.piece-index l.pieces))
