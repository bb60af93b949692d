use Rattle.std.proofs.Common.{rules}
use Rattle.std.specs.Str.{IsUtf8}
use Rattle.std.proofs.lemmas.Fmt.{IsAscii-from_digits}
use Rattle.std.proofs.lemmas.Str.{IsUtf8-from_ascii}
use Rattle.line_text.proofs.number.parse_unsigned.Goals as goal

pub returns-in_default : goal.returns-in_default
returns-in_default c = λ number.
    let refused : ¬ (IsUtf8 c.args.text.now) = search rules in
    absurd (refused (IsUtf8-from_ascii _ (IsAscii-from_digits _ number.0.1)))
