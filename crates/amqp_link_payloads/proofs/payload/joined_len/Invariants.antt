use Rattle.std.proofs.Common.{◌≡◌, ◌+◌, ◌<◌, ◌^◌, drop, length}
use Rattle.std.specs.List.{concat}
use Rattle.amqp_link_payloads.proofs.payload.joined_len.Given as goal

-- what is counted and what is left make the whole
abbrev pub invariant-loop-piece : goal.invariant-loop-piece
invariant-loop-piece l = record {
  whole : l.joined + length (concat (drop l.piece-index l.pieces)) ≡ length (concat l.pieces);
  fits : l.joined < 2 ^ 64;
}
