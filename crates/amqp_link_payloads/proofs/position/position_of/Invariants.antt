use Rattle.std.proofs.Common.{take}
use Rattle.std.specs.List.{concat}
use Rattle.amqp_link_payloads.specs.Counts.{HasCounted}
use Rattle.amqp_link_payloads.specs.Scan.{Keeps}
use Rattle.amqp_link_payloads.specs.Tail.{IsTailOf, blanked}
use Rattle.amqp_link_payloads.proofs.position.position_of.Given as goal

abbrev pub invariant-loop-piece : goal.invariant-loop-piece
invariant-loop-piece l = record {
  tail : IsTailOf l.tail (concat (take l.piece-index l.pieces));
  counts : Keeps HasCounted l.counts (blanked (concat (take l.piece-index l.pieces))) 0;
}
