-- Bytes with a blank in place of the first.
use Rattle.std.proofs.Common.{◌≡◌, ℕ, suc, ◌+◌, ◌-◌, ◌<◌, ◌≤◌, Bool, true, false, List, [], ◌∷◌, ◌++◌, ◌&&◌, length, get_or, drop, refl, sym, ap, ◌∙◌, subst, inl, inr, arith, Option, Some, None, if◌then◌else◌, ltb, leb, not}
use Rattle.std.specs.Prelude.{IfSome}
use Rattle.std.proofs.lemmas.Bool.{cases_lt, le-ltb, leb-true, and_parts}
use Rattle.amqp_link_payloads.specs.Header.{header_len}
use Rattle.amqp_link_payloads.specs.Position.{starts, position, passes_next, place}
use Rattle.amqp_link_payloads.specs.Tail.{blanked}
use Rattle.amqp_link_payloads.proofs.HeaderLemmas.{header_first, header_whole}
use Rattle.amqp_link_payloads.proofs.StartsLemmas.{starts_blanked, blanked_length, drop_blanked, start_header}

pub position_blanked : (F : List ℕ) → position (blanked F) ≡ position F
position_blanked F =
    ap (λ xs. (length xs - 1, length (blanked F) - get_or xs (length xs - 1) 0)) (starts_blanked F)
    ∙ ap (λ n. (length (starts F) - 1, n - get_or (starts F) (length (starts F) - 1) 0)) (blanked_length F)

-- bytes that follow others are left as they are
pub blanked_append : (F xs : List ℕ) → 0 < length F → blanked (F ++ xs) ≡ blanked F ++ xs
blanked_append [] xs some = absurd (omega arith)
blanked_append (x ∷ F) xs some = refl

-- ---- places

-- whether place i is past the header of length h at the next of these starts
abbrev passes : List ℕ → ℕ → ℕ → ℕ → Bool
passes xs h s i = ltb (s + 1) (length xs) && leb (get_or xs (s + 1) 0 + h) i

no_first : (P : List ℕ) → 0 < header_len (blanked P) → ⊥
no_first [] h = omega (arith, h, header_whole [])
no_first (x ∷ P) h = omega (arith, header_first (0xff ∷ P) h)

-- the header at a later start is not that at the first byte
later_header : (P : List ℕ) (s : ℕ) → s + 1 < length (starts P)
    → header_len (drop (get_or (starts P) (s + 1) 0) (blanked P)) ≡ header_len (drop (get_or (starts P) (s + 1) 0) P)
later_header P s lt = elim (cases_lt 0 (get_or (starts P) (s + 1) 0)) [
  | inl pos ↦ ap header_len (drop_blanked P (get_or (starts P) (s + 1) 0) (omega arith))
  | inr none ↦
      let first : get_or (starts (blanked P)) (suc s) 0 ≡ 0
      = ap (λ xs. get_or xs (suc s) 0) (starts_blanked P)
      ∙ ap (λ k. get_or (starts P) k 0) (let next : suc s ≡ s + 1 = omega arith in next)
      ∙ omega (arith, none) in
      absurd (no_first P (subst (λ i. 0 < header_len (drop i (blanked P))) first
      (start_header (blanked P) s (omega (arith, lt, ap length (starts_blanked P))))))
]

passes_blanked : (P : List ℕ) (s i : ℕ) → passes_next (blanked P) s i ≡ passes_next P s i
passes_blanked P s i =
    ap (λ xs. passes xs (header_len (drop (get_or xs (s + 1) 0) (blanked P))) s i) (starts_blanked P)
    ∙ elim (cases_lt (s + 1) (length (starts P))) [
      | inl lt ↦ ap (λ h. passes (starts P) h s i) (later_header P s lt)
      | inr past ↦ rw (le-ltb (s + 1) (length (starts P)) past) refl
    ]

abbrev given : List ℕ → ℕ → ℕ → ℕ → Bool → Option ℕ
given xs s o n past = if ltb s (length xs) && leb (get_or xs s 0 + o) n && not past then Some (get_or xs s 0 + o) else None

pub place_blanked : (P : List ℕ) (s o : ℕ) → place (blanked P) s o ≡ place P s o
place_blanked P s o =
    ap (λ xs. given xs s o (length (blanked P)) (passes_next (blanked P) s (get_or xs s 0 + o))) (starts_blanked P)
    ∙ ap (λ n. given (starts P) s o n (passes_next (blanked P) s (get_or (starts P) s 0 + o))) (blanked_length P)
    ∙ ap (given (starts P) s o (length P)) (passes_blanked P s (get_or (starts P) s 0 + o))

if_some : (b : Bool) (x y : ℕ) → (if b then Some x else None) ≡ Some y → (b ≡ true) × (x ≡ y)
if_some true x y h = (refl, cc)
if_some false x y h = cc

-- a place is within the bytes
pub place_within_all : (P : List ℕ) (s o p : ℕ) → place P s o ≡ Some p → p ≤ length P
place_within_all P s o p e =
    let i : ℕ = get_or (starts P) s 0 + o in
    let front : Bool = ltb s (length (starts P)) && leb i (length P) in
    let both = if_some (front && not (passes_next P s i)) i p e in
    let inside : i ≤ length P
    = leb-true i (length P) (and_parts (ltb s (length (starts P))) (leb i (length P)) (and_parts front (not (passes_next P s i)) both.0).0).1 in
    omega (arith, both.1)

pub if_within : (P : List ℕ) (s q : ℕ) (o : Option ℕ) → o ≡ place P s q → IfSome o (λ p. p ≤ length P)
if_within P s q None e = tt
if_within P s q (Some p) e = place_within_all P s q p (sym e)
