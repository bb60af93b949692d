use Rattle.std.proofs.Common.{◌≡◌, ◌*◌, ◌++◌, drop}
use Rattle.line_text.specs.Hex.{hex_bytes}
use Rattle.line_text.proofs.hex.pairs.Given as goal

abbrev pub invariant-loop-at : goal.invariant-loop-at
invariant-loop-at l = l.bytes.items ++ hex_bytes (drop (2 * l.at) l.text) ≡ hex_bytes l.text
