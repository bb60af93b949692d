use Rattle.std.proofs.Common.{rules, ◌<◌, ◌↔◌, IsTrue}
use Rattle.std.specs.Prelude.{All}
use Rattle.std.specs.Char.{digit_value}
use Rattle.line_text.proofs.DigitLemmas.{AllDigits-from_All, All-from_AllDigits}
use Rattle.line_text.proofs.digits.are_digits.Goals as goal

pub returns : goal.returns
returns c =
    let each : IsTrue c.all.result ↔ All (λ x. digit_value x < c.args.radix) c.args.text.now = search rules in
    (λ t. AllDigits-from_All c.args.radix c.args.text.now (each.0 t), λ digits. each.1 (All-from_AllDigits c.args.radix c.args.text.now digits))
