use Rattle.std.proofs.Common.{take}
use Rattle.std.specs.List.{concat}
use Rattle.amqp_link_payloads.specs.Scan.{Keeps}
use Rattle.amqp_link_payloads.specs.Seek.{Seeks}
use Rattle.amqp_link_payloads.specs.Tail.{IsTailOf, blanked}
use Rattle.amqp_link_payloads.proofs.position.place_in.Given as goal

abbrev pub invariant-loop-piece : goal.invariant-loop-piece
invariant-loop-piece l = record {
  tail : IsTailOf l.tail (concat (take l.piece-index l.pieces));
  seek : Keeps (Seeks l.section_number) l.seek (blanked (concat (take l.piece-index l.pieces))) 0;
}
