-- A walk over pieces that looks for the one which holds bytes.
use Rattle.std.proofs.Common.{◌≡◌, ℕ, ◌+◌, ◌<◌, true, false, List, [], ◌++◌, length, get_or, take, sym, ap, ◌∙◌, nat_lt, arith, Some, None, Option, is_some, Bor}
use Rattle.std.proofs.lemmas.Bool.{lt-ltb}
use Rattle.std.proofs.lemmas.List.{append-nil}
use Rattle.std.proofs.lemmas.List.Sums.{count_by_more_no, count_by_more_yes}
use Rattle.std.specs.List.{concat}
use Rattle.amqp_link_payloads.specs.Pieces.{full_count}
use Rattle.amqp_link_payloads.proofs.PositionLemmas.{concat_next}

-- the pieces that were seen hold no bytes, or those of the one that was found
abbrev pub FoundIn : Option (Bor (List ℕ)) → List (List ℕ) → Type 0
FoundIn None seen = (concat seen ≡ []) × (full_count seen ≡ 0)
FoundIn (Some piece) seen = (concat seen ≡ piece.now) × (full_count seen ≡ 1) × (0 < length piece.now)

nothing_more : (xss : List (List ℕ)) (i : ℕ) (xs : List ℕ) → i < length xss → xs ≡ get_or xss i xs → xs ≡ []
    → (concat (take (i + 1) xss) ≡ concat (take i xss)) × (full_count (take (i + 1) xss) ≡ full_count (take i xss))
nothing_more xss i xs lt is none = (
  concat_next xss i xs lt is ∙ ap (λ t. concat (take i xss) ++ t) none ∙ append-nil (concat (take i xss)),
  count_by_more_no (λ piece. nat_lt 0 (length piece)) xss i xs lt (ap (λ t. nat_lt 0 (length t)) (sym is ∙ none)),
)

-- a piece without bytes changes nothing
pub found-empty : (only : Option (Bor (List ℕ))) (xss : List (List ℕ)) (i : ℕ) (xs : List ℕ) → i < length xss → xs ≡ get_or xss i xs
    → xs ≡ [] → FoundIn only (take i xss) → FoundIn only (take (i + 1) xss)
found-empty None xss i xs lt is none h =
    let more = nothing_more xss i xs lt is none in (more.0 ∙ h.0, more.1 ∙ h.1)
found-empty (Some piece) xss i xs lt is none h =
    let more = nothing_more xss i xs lt is none in (more.0 ∙ h.0, more.1 ∙ h.1, h.2)

-- the first that holds bytes is the one
pub found-first : (only : Option (Bor (List ℕ))) (xss : List (List ℕ)) (i : ℕ) (xs : List ℕ) → i < length xss → xs ≡ get_or xss i xs
    → 0 < length xs → is_some only ≡ false → FoundIn only (take i xss)
    → (concat (take (i + 1) xss) ≡ xs) × (full_count (take (i + 1) xss) ≡ 1) × (0 < length xs)
found-first None xss i xs lt is some none h =
    let full : nat_lt 0 (length (get_or xss i xs)) ≡ true = ap (λ t. nat_lt 0 (length t)) (sym is) ∙ lt-ltb 0 (length xs) some in (
      concat_next xss i xs lt is ∙ ap (λ t. t ++ xs) h.0,
      omega (arith, count_by_more_yes (λ piece. nat_lt 0 (length piece)) xss i xs lt full, h.1),
      some,
    )
found-first (Some piece) xss i xs lt is some none h = absurd (cc)
