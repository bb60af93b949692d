use Rattle.std.proofs.Common.{take}
use Rattle.amqp_link_payloads.proofs.PieceLemmas.{FoundIn}
use Rattle.amqp_link_payloads.proofs.message.join.only_full.Given as goal

abbrev pub invariant-loop-piece : goal.invariant-loop-piece
invariant-loop-piece l = FoundIn l.only (take l.piece-index l.pieces)
