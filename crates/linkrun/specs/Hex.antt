-- Bytes as they are printed: hexadecimal digits, two a byte, the high four bits first.
use Rattle.std.specs.Prelude.{ℕ, ◌/◌, ◌%◌, List, [], ◌∷◌, codes, flat_map}
use Rattle.std.specs.Char.{digit_char}

-- a byte in two digits, letters in lower case
abbrev pub digits_of : ℕ → List ℕ
digits_of byte = digit_char (byte / 16) ∷ digit_char (byte % 16) ∷ []

-- the text that is printed for bytes
abbrev pub hex_text : List ℕ → List ℕ
hex_text [] = codes "-"
hex_text (byte ∷ bytes) = flat_map digits_of (byte ∷ bytes)
