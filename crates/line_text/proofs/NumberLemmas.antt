-- Decimal digits behind a minus or nothing are plain text.
use Rattle.std.proofs.Common.{◌≡◌, ℕ, zero, suc, ◌<◌, Bool, true, false, cond, List, [], ◌∷◌, drop, slice_index, refl, rules}
use Rattle.std.specs.Str.{IsAscii}
use Rattle.std.specs.Str.Parse.{AllDigits, starts_with_minus}
use Rattle.std.proofs.lemmas.Fmt.{IsAscii-from_digits}

-- digits behind one plain byte
ascii_behind : (c : ℕ) (cs : List ℕ) → c < 128 → AllDigits 10 cs → (i : ℕ) → slice_index (c ∷ cs) i < 128
ascii_behind c cs low digits zero = low
ascii_behind c cs low digits (suc i) = IsAscii-from_digits cs digits i

ascii_at_sign : (text : List ℕ) (minus : Bool) → starts_with_minus text ≡ minus → AllDigits 10 (drop (cond minus 1 0) text)
    → IsAscii text
ascii_at_sign text false is digits = IsAscii-from_digits text digits
ascii_at_sign [] true is digits = IsAscii-from_digits [] tt
ascii_at_sign (c ∷ cs) true is digits =
    let low : c < 128 = search rules in
    ascii_behind c cs low digits

pub IsAscii-from_signed : (text : List ℕ) → AllDigits 10 (drop (cond (starts_with_minus text) 1 0) text) → IsAscii text
IsAscii-from_signed text digits = ascii_at_sign text (starts_with_minus text) refl digits
