-- Signed numbers in a line.
use Rattle.std.specs.Prelude.{ℕ, List, cond, drop, FitsSigned}
use Rattle.std.specs.Str.Parse.{IsNumeral, starts_with_minus, signed_digits_value}
use mir.Syntax.{w64}

-- decimal digits after an optional minus, whose number fits 64 bits
abbrev pub IsSignedNumeral : List ℕ → Type 0
IsSignedNumeral text =
    IsNumeral 10 (drop (cond (starts_with_minus text) 1 0) text) × FitsSigned w64 (signed_digits_value 10 text)
