-- What is printed for a byte is its two digits.
use Rattle.std.proofs.Common.{◌≡◌, ℕ, zero, suc, ◌+◌, ◌/◌, ◌%◌, ◌<◌, ◌++◌, length, slice_index, sym, take, Bool, true, false, ◌&&◌, List, [], ◌∷◌, inl, inr, refl, arith}
use Rattle.std.specs.Char.{digit_char}
use Rattle.std.specs.Prelude.{flat_map}
use Rattle.std.specs.Str.{bytes_eq}
use Rattle.std.specs.Fmt.{digits}
use Rattle.std.proofs.lemmas.Bool.{and_parts, cases_lt}
use Rattle.std.proofs.lemmas.Slice.Eq.{bytes_eq-Decides}
use Rattle.std.proofs.lemmas.List.{take_more}
use Rattle.std.proofs.lemmas.Grind.{flat_map-append}
use Rattle.linkrun.specs.Hex.{digits_of}

-- the first n digits are printed as their characters
all_shown : ℕ → Bool
all_shown zero = true
all_shown (suc n) = bytes_eq (digits 16 false n) (digit_char n ∷ []) && all_shown n

all_shown-at : (n digit : ℕ) → all_shown n ≡ true → digit < n → digits 16 false digit ≡ digit_char digit ∷ []
unfolding all_shown
all_shown-at zero digit all below = absurd (omega arith)
all_shown-at (suc n) digit all below =
    let parts = and_parts (bytes_eq (digits 16 false n) (digit_char n ∷ [])) (all_shown n) all in
    elim (cases_lt digit n) [
      | inl less ↦ all_shown-at n digit parts.1 less
      | inr most ↦
          let last : digit ≡ n = omega arith in
          rw last ((bytes_eq-Decides (digits 16 false n) (digit_char n ∷ [])).0 parts.0)
    ]

pub shown-digit : (digit : ℕ) → digit < 16 → digits 16 false digit ≡ digit_char digit ∷ []
unfolding all_shown digits
shown-digit digit below = all_shown-at 16 digit refl below

-- one byte more is printed
pub shown-more : (bytes : List ℕ) (i : ℕ) → slice_index bytes i < 256 → i < length bytes
    → flat_map digits_of (take i bytes)
    ++ (digits 16 false (slice_index bytes i / 16) ++ digits 16 false (slice_index bytes i % 16))
    ≡ flat_map digits_of (take (i + 1) bytes)
shown-more bytes i fits within =
    let more = take_more bytes i 0 within in
    let high = shown-digit (slice_index bytes i / 16) (omega arith) in
    let low = shown-digit (slice_index bytes i % 16) (omega arith) in
    rw (more, high, low) (sym (flat_map-append digits_of (take i bytes) (slice_index bytes i ∷ [])))
