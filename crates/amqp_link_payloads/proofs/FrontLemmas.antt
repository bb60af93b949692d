-- The positions of the fronts of one list.
use Rattle.std.proofs.Common.{◌≡◌, ℕ, zero, suc, ◌+◌, ◌-◌, ◌<◌, ◌≤◌, ◌⊎◌, List, [], ◌∷◌, ◌++◌, length, get_or, take, drop, refl, sym, ap, ◌∙◌, subst, inl, inr, arith, append_assoc, Some}
use Rattle.std.proofs.lemmas.Bool.{cases_lt, cases_eq, lt-ltb, le-ltb, le-leb, lt-leb}
use Rattle.std.proofs.lemmas.List.{length_push, get_or_append_left, get_or-append_right, append-nil, length-append, take-append-drop, length-take-le, take-take, length-drop}
use Rattle.amqp_link_payloads.specs.Header.{header_len}
use Rattle.amqp_link_payloads.specs.Position.{starts, position, place, IsBefore}
use Rattle.amqp_link_payloads.specs.Tail.{EndsAt}
use Rattle.amqp_link_payloads.proofs.StartsLemmas.{starts_new, starts_old, starts_some, last_start, kept_at}
use Rattle.amqp_link_payloads.proofs.PositionLemmas.{last_within, position_push, position_stay}

-- some header past 0 ends where G ends, or none does
end_case : (G : List ℕ) → ((n : ℕ) × (1 ≤ n) × EndsAt G n) ⊎ ((n : ℕ) → 1 ≤ n → EndsAt G n → ⊥)
end_case G = elim (below (length G)) [
  | inl found ↦ inl found
  | inr none ↦ inr (λ n pos at. none n pos (omega (arith, at.whole, at.ends)) at)
]
  where
    below : (m : ℕ) → ((n : ℕ) × (1 ≤ n) × EndsAt G n) ⊎ ((n : ℕ) → 1 ≤ n → n < m → EndsAt G n → ⊥)
    below zero = inr (λ n pos lt at. omega arith)
    below (suc m) = elim (below m) [
      | inl found ↦ inl found
      | inr none ↦ elim (cases_lt 0 m) [
        | inr z ↦ inr (λ n pos lt at. omega arith)
        | inl pos' ↦ elim (cases_lt 0 (header_len (drop m G))) [
          | inr no_header ↦ inr (λ n pos lt at. elim (cases_eq n m) [
            | inl e ↦ omega (arith, at.whole, ap (λ k. header_len (drop k G)) e)
            | inr ne ↦ none n pos (omega arith) at
          ])
          | inl some ↦ elim (cases_eq (m + header_len (drop m G)) (length G)) [
            | inl e ↦ inl (m, pos', record { whole = some; ends = e })
            | inr ne ↦ inr (λ n pos lt at. elim (cases_eq n m) [
              | inl e ↦ ne (subst (λ k. k + header_len (drop k G) ≡ length G) e at.ends)
              | inr ne' ↦ none n pos (omega arith) at
            ])
          ]
        ]
      ]
    ]

IsBefore_trans : (a b c : ℕ × ℕ) → IsBefore a b → IsBefore b c → IsBefore a c
IsBefore_trans a b c p q = grind arith

before_push : (F : List ℕ) (b : ℕ) → IsBefore (position F) (position (F ++ b ∷ []))
before_push F b = elim (end_case (F ++ b ∷ [])) [
  | inl found ↦ subst (λ p. IsBefore (position F) p)
      (sym (position_push F b found.0 (starts_new F b found.0 found.1 found.2))) (inl (omega arith))
  | inr none ↦ subst (λ p. IsBefore (position F) p)
      (sym (position_stay F (b ∷ []) (starts_old F b none))) (inr (refl, omega arith))
]

pub before_append : (F : List ℕ) (b : ℕ) (G : List ℕ) → IsBefore (position F) (position (F ++ b ∷ G))
before_append F b [] = before_push F b
before_append F b (c ∷ G) =
    IsBefore_trans _ _ _ (before_push F b)
    (subst (λ P. IsBefore (position (F ++ b ∷ [])) (position P)) (append_assoc F (b ∷ []) (c ∷ G)) (before_append (F ++ b ∷ []) c G))

-- the starts of a longer list: those of its front, and later ones, the first with a header that the
-- front does not hold whole
pub record StartsAfter (F G : List ℕ) : Type 0 where
  pub later : List ℕ
  pub joined : starts (F ++ G) ≡ starts F ++ later
  pub cut : 0 < length later → length F < get_or later 0 0 + header_len (drop (get_or later 0 0) (F ++ G))

starts_after : (F G : List ℕ) → StartsAfter F G
starts_after F [] = record {
  later = [];
  joined = ap starts (append-nil F) ∙ sym (append-nil (starts F));
  cut = λ lt. absurd (omega arith);
}
starts_after F (b ∷ G) =
    let rest : StartsAfter (F ++ b ∷ []) G = starts_after (F ++ b ∷ []) G in
    let same : (F ++ b ∷ []) ++ G ≡ F ++ b ∷ G = append_assoc F (b ∷ []) G in
    let size : length (F ++ b ∷ []) ≡ length F + 1 = length_push F b in
    elim (end_case (F ++ b ∷ [])) [
      | inr none ↦ record {
        later = rest.later;
        joined = ap starts (sym same) ∙ rest.joined ∙ ap (λ t. t ++ rest.later) (starts_old F b none);
        cut = λ lt. let h = subst (λ P. length (F ++ b ∷ []) < get_or rest.later 0 0 + header_len (drop (get_or rest.later 0 0) P)) same (rest.cut lt) in omega arith;
      }
      | inl found ↦ record {
        later = found.0 ∷ rest.later;
        joined = ap starts (sym same) ∙ rest.joined ∙ ap (λ t. t ++ rest.later) (starts_new F b found.0 found.1 found.2)
            ∙ append_assoc (starts F) (found.0 ∷ []) rest.later;
        cut = λ lt.
            let kept : header_len (drop found.0 ((F ++ b ∷ []) ++ G)) ≡ header_len (drop found.0 (F ++ b ∷ []))
            = kept_at (F ++ b ∷ []) G found.0 (omega (arith, found.2.ends)) found.2.whole in
            omega (arith, found.2.ends, ap (λ P. header_len (drop found.0 P)) same);
      }
    ]

-- when a place is there
place_when : (P : List ℕ) (k o i : ℕ) → get_or (starts P) k 0 + o ≡ i → k < length (starts P) → i ≤ length P
    → (k + 1 < length (starts P) → i < get_or (starts P) (k + 1) 0 + header_len (drop (get_or (starts P) (k + 1) 0) P))
    → place P k o ≡ Some i
place_when P k o i e lt le near = elim (cases_lt (k + 1) (length (starts P))) [
  | inl more ↦
      rw e (rw (
        lt-ltb k (length (starts P)) lt,
        le-leb i (length P) le,
        lt-ltb (k + 1) (length (starts P)) more,
        lt-leb (get_or (starts P) (k + 1) 0 + header_len (drop (get_or (starts P) (k + 1) 0) P)) i (near more),
      ))
  | inr last ↦
      rw e (rw (lt-ltb k (length (starts P)) lt, le-leb i (length P) le, le-ltb (k + 1) (length (starts P)) last))
]

place_front : (F G : List ℕ) → place (F ++ G) (position F).0 (position F).1 ≡ Some (length F)
place_front F G =
    let after : StartsAfter F G = starts_after F G in
    let some : 0 < length (starts F) = starts_some F in
    let inside : last_start F + header_len (drop (last_start F) F) ≤ length F = last_within F in
    let size : length (F ++ G) ≡ length F + length G = length-append F G in
    let count : length (starts (F ++ G)) ≡ length (starts F) + length after.later = ap length after.joined ∙ length-append (starts F) after.later in
    let start : get_or (starts (F ++ G)) (length (starts F) - 1) 0 ≡ last_start F
    = ap (λ xs. get_or xs (length (starts F) - 1) 0) after.joined ∙ get_or_append_left (starts F) after.later 0 (length (starts F) - 1) (omega arith) in
    let next : get_or (starts (F ++ G)) (length (starts F) - 1 + 1) 0 ≡ get_or after.later 0 0
    = ap (λ xs. get_or xs (length (starts F) - 1 + 1) 0) after.joined ∙ get_or-append_right (starts F) after.later (length (starts F)) (length (starts F) - 1 + 1) 0 refl (omega arith) ∙ ap (λ k. get_or after.later k 0) (omega arith) in
    let at : get_or (starts (F ++ G)) (length (starts F) - 1) 0 + (length F - last_start F) ≡ length F = omega arith in
    place_when (F ++ G) (position F).0 (position F).1 (length F) at (omega arith) (omega arith)
    (λ lt. omega (arith, after.cut (omega arith), ap (λ k. header_len (drop k (F ++ G))) next))

before_longer : (F X : List ℕ) → 0 < length X → IsBefore (position F) (position (F ++ X))
before_longer F [] lt = absurd (omega arith)
before_longer F (b ∷ G) lt = before_append F b G

pub position_rises : (P : List ℕ) (m n : ℕ) → m < n → n ≤ length P
    → IsBefore (position (take m P)) (position (take n P))
position_rises P m n lt le =
    let front : take m (take n P) ≡ take m P = take-take m n P (omega arith) in
    let whole : take m P ++ drop m (take n P) ≡ take n P
    = ap (λ t. t ++ drop m (take n P)) (sym front) ∙ take-append-drop m (take n P) in
    let some : 0 < length (drop m (take n P)) = omega (arith, length-drop m (take n P), length-take-le n P le) in
    subst (λ Q. IsBefore (position (take m P)) (position Q)) whole (before_longer (take m P) (drop m (take n P)) some)

pub place_of_front : (P : List ℕ) (n : ℕ) → n ≤ length P → place P (position (take n P)).0 (position (take n P)).1 ≡ Some n
place_of_front P n le =
    let e : place (take n P ++ drop n P) (position (take n P)).0 (position (take n P)).1 ≡ Some (length (take n P)) = place_front (take n P) (drop n P) in
    ap (λ Q. place Q (position (take n P)).0 (position (take n P)).1) (sym (take-append-drop n P)) ∙ e ∙ ap Some (length-take-le n P le)
