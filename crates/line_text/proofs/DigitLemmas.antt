-- Digits of a text, one by one and in pairs.
use Rattle.std.proofs.Common.{◌≡◌, ℕ, zero, suc, ◌+◌, ◌*◌, ◌<◌, List, [], ◌∷◌, ◌++◌, length, drop, slice_index, slice_index_or, refl, ap, arith}
use Rattle.std.specs.Prelude.{All}
use Rattle.std.specs.Char.{digit_value}
use Rattle.std.specs.Str.Parse.{AllDigits}
use Rattle.std.proofs.lemmas.List.{append_assoc, drop_more}
use Rattle.line_text.specs.Hex.{hex_bytes}

-- the digit at an index
pub AllDigits-at : (radix : ℕ) (text : List ℕ) (k : ℕ) → AllDigits radix text → k < length text
    → digit_value (slice_index text k) < radix
AllDigits-at radix [] k digits within = absurd (omega arith)
AllDigits-at radix (c ∷ cs) zero digits within = digits.0
AllDigits-at radix (c ∷ cs) (suc k) digits within = AllDigits-at radix cs k digits.1 (omega arith)

-- digits at every index
pub AllDigits-from_All : (radix : ℕ) (text : List ℕ) → All (λ c. digit_value c < radix) text → AllDigits radix text
AllDigits-from_All radix [] each = tt
AllDigits-from_All radix (c ∷ cs) each =
    (each 0 0 (omega arith), AllDigits-from_All radix cs (λ k d within. each (suc k) d (omega arith)))

pub All-from_AllDigits : (radix : ℕ) (text : List ℕ) → AllDigits radix text
    → (k d : ℕ) → k < length text → digit_value (slice_index_or text k d) < radix
All-from_AllDigits radix [] digits k d within = absurd (omega arith)
All-from_AllDigits radix (c ∷ cs) digits zero d within = digits.0
All-from_AllDigits radix (c ∷ cs) digits (suc k) d within = All-from_AllDigits radix cs digits.1 k d (omega arith)

-- what is left of a text, at a whole pair
pub drop-pair : (text : List ℕ) (i : ℕ) → 2 * i + 1 < length text
    → drop (2 * i) text ≡ slice_index text (2 * i) ∷ slice_index text (2 * i + 1) ∷ drop (2 * (i + 1)) text
drop-pair text i within =
    let a = drop_more text (2 * i) 0 (omega arith) in
    let b = drop_more text (2 * i + 1) 0 (omega arith) in
    let two : 2 * i + 1 + 1 ≡ 2 * (i + 1) = omega arith in
    rw (a, b, two) refl

-- one pair more is read
pub bytes_of-step : (text bytes : List ℕ) (i byte : ℕ) → 2 * i + 1 < length text
    → byte ≡ digit_value (slice_index text (2 * i)) * 16 + digit_value (slice_index text (2 * i + 1))
    → bytes ++ hex_bytes (drop (2 * i) text) ≡ hex_bytes text
    → (bytes ++ byte ∷ []) ++ hex_bytes (drop (2 * (i + 1)) text) ≡ hex_bytes text
bytes_of-step text bytes i byte within value read =
    let pair = ap hex_bytes (drop-pair text i within) in
    rw (append_assoc, value) (rw pair at read)
