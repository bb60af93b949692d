-- Bytes in a line: hexadecimal digits, two a byte, the high four bits first.
use Rattle.std.specs.Prelude.{◌≡◌, ℕ, ◌+◌, ◌*◌, ◌%◌, ◌⊎◌, List, [], ◌∷◌, length, codes}
use Rattle.std.specs.Char.{digit_value}
use Rattle.std.specs.Str.Parse.{IsNumeral}

-- the bytes of pairs of digits
abbrev pub hex_bytes : List ℕ → List ℕ
hex_bytes [] = []
hex_bytes (digit ∷ []) = []
hex_bytes (high ∷ low ∷ rest) = (digit_value high * 16 + digit_value low) ∷ hex_bytes rest

-- the text states bytes: pairs of digits of either case, one pair or more, or `-` for no byte
abbrev pub IsHexText : List ℕ → Type 0
IsHexText text = (text ≡ codes "-") ⊎ (IsNumeral 16 text × (length text % 2 ≡ 0))
