use Rattle.std.proofs.Common.{arith, ◌≡◌, ◌+◌, ◌*◌, slice_index}
use Rattle.std.specs.Char.{digit_value}
use Rattle.line_text.proofs.DigitLemmas.{AllDigits-at, bytes_of-step}
use Rattle.line_text.proofs.hex.pairs.Goals as goal

pub hex_value-high-requires : goal.hex_value-high-requires
hex_value-high-requires c =
    AllDigits-at 16 c.args.text.now (2 * c.loop-at.at) c.requires.digits (omega arith)

pub hex_value-low-requires : goal.hex_value-low-requires
hex_value-low-requires c =
    AllDigits-at 16 c.args.text.now (2 * c.loop-at.at + 1) c.requires.digits (omega arith)

pub loop-at-preserved : goal.loop-at-preserved
loop-at-preserved c =
    let value : c.hex_value-high.result * 16 + c.hex_value-low.result
    ≡ digit_value (slice_index c.args.text.now (2 * c.loop-at.at)) * 16 + digit_value (slice_index c.args.text.now (2 * c.loop-at.at + 1)) =
    cc (c.hex_value-high.ensures.value, c.hex_value-low.ensures.value) in
    rw (c.in_ok-push.ensures.items)
    (bytes_of-step c.args.text.now c.loop-at.bytes.items c.loop-at.at _ (omega arith) value c.loop-at.invariant)
