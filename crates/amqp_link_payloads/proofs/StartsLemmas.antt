-- The starts of a byte list, as one more byte comes.
use Rattle.std.proofs.Common.{◌≡◌, ℕ, zero, suc, ◌+◌, ◌-◌, ◌<◌, ◌≤◌, ◌⊎◌, Bool, true, false, cond, List, [], ◌∷◌, ◌++◌, length, get_or, drop, refl, sym, ap, ◌∙◌, subst, inl, inr, arith, length-drop, filter, ltb, All}
use Rattle.std.specs.List.{range_with_len}
use Rattle.std.proofs.lemmas.Bool.{lt-ltb, ltb-true, cases_lt, cases_eq}
use Rattle.std.proofs.lemmas.List.{drop-append-le, drop-drop, length_push}
use Rattle.std.proofs.lemmas.List.Elements.{All-get_or, filter_passes}
use Rattle.amqp_link_payloads.specs.Header.{header_len}
use Rattle.amqp_link_payloads.specs.Position.{is_header_at, starts}
use Rattle.amqp_link_payloads.specs.Tail.{EndsAt, blanked}
use Rattle.amqp_link_payloads.proofs.HeaderLemmas.{header_whole, header_more, header_front, headers_apart}

-- ---- filters of a range

-- the last number of a range fails the test
filter_last : (p : ℕ → Bool) (a n : ℕ) → p (a + n) ≡ false
    → filter p (range_with_len a (suc n)) ≡ filter p (range_with_len a n)
filter_last p a zero h =
    let here : p a ≡ false = subst (λ i. p i ≡ false) (omega arith) h in
    rw here
filter_last p a (suc n) h =
    let later : p ((a + 1) + n) ≡ false = subst (λ i. p i ≡ false) (omega arith) h in
    ap (λ t. cond (p a) (a ∷ t) t) (filter_last p (a + 1) n later)

filter_same : (p q : ℕ → Bool) (a n : ℕ) → ((i : ℕ) → a ≤ i → i < a + n → p i ≡ q i)
    → filter p (range_with_len a n) ≡ filter q (range_with_len a n)
filter_same p q a zero h = refl
filter_same p q a (suc n) h =
    let here : p a ≡ q a = h a (omega arith) (omega arith) in
    let rest : filter p (range_with_len (a + 1) n) ≡ filter q (range_with_len (a + 1) n)
    = filter_same p q (a + 1) n (λ i lo hi. h i (omega arith) (omega arith)) in
    cc

filter_none : (p : ℕ → Bool) (a n : ℕ) → ((i : ℕ) → a ≤ i → i < a + n → p i ≡ false)
    → filter p (range_with_len a n) ≡ []
filter_none p a zero h = refl
filter_none p a (suc n) h =
    rw (h a (omega arith) (omega arith)) (filter_none p (a + 1) n (λ i lo hi. h i (omega arith) (omega arith)))

-- p is q, but for m, the last number that passes p
filter_added : (p q : ℕ → Bool) (a n m : ℕ) → a ≤ m → m < a + n → p m ≡ true → q m ≡ false
    → ((i : ℕ) → a ≤ i → i < m → p i ≡ q i)
    → ((i : ℕ) → m < i → i < a + n → p i ≡ false)
    → ((i : ℕ) → m < i → i < a + n → q i ≡ false)
    → filter p (range_with_len a n) ≡ filter q (range_with_len a n) ++ m ∷ []
filter_added p q a zero m lo hi passes fails before after after' = absurd (omega arith)
filter_added p q a (suc n) m lo hi passes fails before after after' = elim (cases_eq a m) [
  | inl e ↦
      let passes' : p a ≡ true = subst (λ i. p i ≡ true) (sym e) passes in
      let fails' : q a ≡ false = subst (λ i. q i ≡ false) (sym e) fails in
      let none : filter p (range_with_len (a + 1) n) ≡ []
      = filter_none p (a + 1) n (λ i l h. after i (omega arith) (omega arith)) in
      let none' : filter q (range_with_len (a + 1) n) ≡ []
      = filter_none q (a + 1) n (λ i l h. after' i (omega arith) (omega arith)) in
      rw (passes', fails', none, none', e)
  | inr ne ↦
      let here : p a ≡ q a = before a (omega arith) (omega arith) in
      let rest : filter p (range_with_len (a + 1) n) ≡ filter q (range_with_len (a + 1) n) ++ m ∷ []
      = filter_added p q (a + 1) n m (omega arith) (omega arith) passes fails
      (λ i l h. before i (omega arith) h) (λ i l h. after i l (omega arith)) (λ i l h. after' i l (omega arith)) in
      rw (here, rest) (grown (q a) a m (filter q (range_with_len (a + 1) n)))
]
  where
    grown : (b : Bool) (a m : ℕ) (xs : List ℕ) → cond b (a ∷ (xs ++ m ∷ [])) (xs ++ m ∷ []) ≡ cond b (a ∷ xs) xs ++ m ∷ []
    grown true a m xs = refl
    grown false a m xs = refl

-- ---- one more byte

-- a header at i within F ++ b is one of F, unless it ends in b
same_header : (F : List ℕ) (b i : ℕ) → i ≤ length F → (EndsAt (F ++ b ∷ []) i → ⊥)
    → header_len (drop i (F ++ b ∷ [])) ≡ header_len (drop i F)
same_header F b i le not_end = elim (cases_lt 0 (header_len (drop i F))) [
  | inl here ↦ rw (drop-append-le i F (b ∷ []) le) (header_more (drop i F) (b ∷ []) here)
  | inr none ↦ elim (cases_lt 0 (header_len (drop i F ++ b ∷ []))) [
    | inr none' ↦ rw (drop-append-le i F (b ∷ []) le) (omega arith)
    | inl some ↦ elim (cases_lt (length (drop i F)) (header_len (drop i F ++ b ∷ []))) [
      | inr fits ↦ rw (drop-append-le i F (b ∷ []) le) (header_front (drop i F) (b ∷ []) some fits)
      | inl long ↦
          let whole : header_len (drop i F ++ b ∷ []) ≤ length (drop i F ++ b ∷ []) = header_whole (drop i F ++ b ∷ []) in
          let size : length (drop i F ++ b ∷ []) ≡ length (drop i F) + 1 = length_push (drop i F) b in
          let size' : length (F ++ b ∷ []) ≡ length F + 1 = length_push F b in
          let left : length (drop i F) ≡ length F - i = length-drop i F in
          let at : EndsAt (F ++ b ∷ []) i = record {
            whole = rw (drop-append-le i F (b ∷ []) le) some;
            ends = rw (drop-append-le i F (b ∷ []) le) (omega arith);
          } in
          absurd (not_end at)
    ]
  ]
]

test_same : (a b : ℕ) → a ≡ b → ltb 0 a ≡ ltb 0 b
test_same a b e = rw e

-- no header begins within another
pub apart_at : (P : List ℕ) (i j : ℕ) → i < j → j < i + header_len (drop i P) → header_len (drop j P) ≡ 0
apart_at P i j lt near =
    let there : drop (j - i) (drop i P) ≡ drop j P
    = drop-drop (j - i) i P ∙ ap (λ k. drop k P) (omega arith) in
    sym (ap header_len there) ∙ headers_apart (drop i P) (j - i) (omega arith) (omega arith)

-- a header of F is one of F and what follows
pub kept_at : (F G : List ℕ) (i : ℕ) → i ≤ length F → 0 < header_len (drop i F)
    → header_len (drop i (F ++ G)) ≡ header_len (drop i F)
kept_at F G i le some = rw (drop-append-le i F G le) (header_more (drop i F) G some)

-- a header lies within its list
pub whole_at : (P : List ℕ) (i : ℕ) → header_len (drop i P) ≤ length P - i
whole_at P i = omega (arith, header_whole (drop i P), length-drop i P)

module _ (F : List ℕ) (b n : ℕ) (at : EndsAt (F ++ b ∷ []) n) where
  at_size : length (F ++ b ∷ []) ≡ suc (length F)
  at_size = omega (arith, length_push F b)

  -- a header that begins earlier does not end in the last byte
  earlier : (i : ℕ) → i < n → EndsAt (F ++ b ∷ []) i → ⊥
  earlier i lt e =
      let none : header_len (drop n (F ++ b ∷ [])) ≡ 0 = apart_at (F ++ b ∷ []) i n lt (omega (arith, at.whole, at.ends, e.ends)) in
      omega (arith, at.whole)

  within : (i : ℕ) → n < i → header_len (drop i (F ++ b ∷ [])) ≡ 0
  within i lt = elim (cases_lt i (length (F ++ b ∷ []))) [
    | inl l ↦ apart_at (F ++ b ∷ []) n i lt (omega (arith, at.ends))
    | inr past ↦ omega (arith, whole_at (F ++ b ∷ []) i)
  ]

  -- F has no header from n on
  cut : (i : ℕ) → n ≤ i → i ≤ length F → header_len (drop i F) ≡ 0
  cut i le le' = elim (cases_lt 0 (header_len (drop i F))) [
    | inr none ↦ omega arith
    | inl some ↦
        let kept : header_len (drop i (F ++ b ∷ [])) ≡ header_len (drop i F) = kept_at F (b ∷ []) i le' some in
        let whole : header_len (drop i F) ≤ length F - i = whole_at F i in
        elim (cases_eq n i) [
          | inl e ↦
              let same : header_len (drop n (F ++ b ∷ [])) ≡ header_len (drop i (F ++ b ∷ [])) = ap (λ k. header_len (drop k (F ++ b ∷ []))) e in
              absurd (omega (arith, at.ends, at_size))
          | inr ne ↦ absurd (omega (arith, within i (omega arith)))
        ]
  ]

-- a header that ends in the new byte is the new last start
pub starts_new : (F : List ℕ) (b n : ℕ) → 1 ≤ n → EndsAt (F ++ b ∷ []) n
    → starts (F ++ b ∷ []) ≡ starts F ++ n ∷ []
unfolding starts
starts_new F b n pos at =
    let whole : 0 < header_len (drop n (F ++ b ∷ [])) = at.whole in
    let ends : n + header_len (drop n (F ++ b ∷ [])) ≡ length (F ++ b ∷ []) = at.ends in
    let size : length (F ++ b ∷ []) ≡ suc (length F) = at_size F b n at in
    let before : (i : ℕ) → 1 ≤ i → i < n → is_header_at (F ++ b ∷ []) i ≡ is_header_at F i
    = λ i lo hi. test_same _ _ (same_header F b i (omega arith) (earlier F b n at i hi)) in
    let after : (i : ℕ) → n < i → is_header_at (F ++ b ∷ []) i ≡ false
    = λ i lt. test_same _ _ (within F b n at i lt) in
    let old : (i : ℕ) → n ≤ i → i ≤ length F → is_header_at F i ≡ false
    = λ i le le'. test_same _ _ (cut F b n at i le le') in
    ap (λ t. 0 ∷ t)
    (ap (λ k. filter (is_header_at (F ++ b ∷ [])) (range_with_len 1 k)) size
    ∙ filter_last (is_header_at (F ++ b ∷ [])) 1 (length F) (after (1 + length F) (omega arith))
    ∙ filter_added (is_header_at (F ++ b ∷ [])) (is_header_at F) 1 (length F) n pos (omega arith)
    (lt-ltb 0 _ whole) (old n (omega arith) (omega arith)) before
    (λ i lt hi. after i lt) (λ i lt hi. old i (omega arith) (omega arith)))

-- where no header past 0 ends in the new byte, the starts stay
pub starts_old : (F : List ℕ) (b : ℕ) → ((n : ℕ) → 1 ≤ n → EndsAt (F ++ b ∷ []) n → ⊥)
    → starts (F ++ b ∷ []) ≡ starts F
unfolding starts
starts_old F b none =
    let size : length (F ++ b ∷ []) ≡ suc (length F) = omega (arith, length_push F b) in
    let last : header_len (drop (1 + length F) (F ++ b ∷ [])) ≡ 0
    = omega (arith, whole_at (F ++ b ∷ []) (1 + length F)) in
    ap (λ t. 0 ∷ t)
    (ap (λ k. filter (is_header_at (F ++ b ∷ [])) (range_with_len 1 k)) size
    ∙ filter_last (is_header_at (F ++ b ∷ [])) 1 (length F) (test_same _ _ last)
    ∙ filter_same (is_header_at (F ++ b ∷ [])) (is_header_at F) 1 (length F)
    (λ i lo hi. test_same _ _ (same_header F b i (omega arith) (none i lo))))

-- ---- another first byte

pub blanked_length : (P : List ℕ) → length (blanked P) ≡ length P
blanked_length [] = refl
blanked_length (x ∷ P) = refl

pub drop_blanked : (P : List ℕ) (i : ℕ) → 1 ≤ i → drop i (blanked P) ≡ drop i P
drop_blanked [] i pos = refl
drop_blanked (x ∷ P) zero pos = absurd (omega arith)
drop_blanked (x ∷ P) (suc i) pos = refl

-- the starts do not see the first byte
pub starts_blanked : (P : List ℕ) → starts (blanked P) ≡ starts P
unfolding starts
starts_blanked P =
    ap (λ t. 0 ∷ t)
    (ap (λ k. filter (is_header_at (blanked P)) (range_with_len 1 k)) (blanked_length P)
    ∙ filter_same (is_header_at (blanked P)) (is_header_at P) 1 (length P)
    (λ i lo hi. ap (λ xs. ltb 0 (header_len xs)) (drop_blanked P i lo)))

-- there is a first start, and the last is 0 or a header
pub starts_some : (P : List ℕ) → 0 < length (starts P)
unfolding starts
starts_some P = omega arith

abbrev pub last_start : List ℕ → ℕ
last_start P = get_or (starts P) (length (starts P) - 1) 0

header_or_zero : (P xs : List ℕ) → All (λ i. is_header_at P i ≡ true) xs → (k : ℕ) → k < length (0 ∷ xs)
    → (get_or (0 ∷ xs) k 0 ≡ 0) ⊎ (0 < header_len (drop (get_or (0 ∷ xs) k 0) P))
header_or_zero P xs h zero lt = inl refl
header_or_zero P xs h (suc k) lt =
    inr (ltb-true 0 _ (All-get_or (λ i. is_header_at P i ≡ true) xs k 0 (omega arith) h))

pub start_case : (P : List ℕ) (k : ℕ) → k < length (starts P)
    → (get_or (starts P) k 0 ≡ 0) ⊎ (0 < header_len (drop (get_or (starts P) k 0) P))
unfolding starts
start_case P k lt =
    header_or_zero P (filter (is_header_at P) (range_with_len 1 (length P)))
    (filter_passes (is_header_at P) (range_with_len 1 (length P))) k lt

pub start_within : (P : List ℕ) (k : ℕ) → k < length (starts P)
    → get_or (starts P) k 0 + header_len (drop (get_or (starts P) k 0) P) ≤ length P
start_within P k lt = elim (start_case P k lt) [
  | inl z ↦ omega (arith, whole_at P (get_or (starts P) k 0))
  | inr some ↦ omega (arith, whole_at P (get_or (starts P) k 0))
]

-- each start past the first has a header
pub start_header : (P : List ℕ) (k : ℕ) → suc k < length (starts P) → 0 < header_len (drop (get_or (starts P) (suc k) 0) P)
unfolding starts
start_header P k lt =
    ltb-true 0 _ (All-get_or (λ i. is_header_at P i ≡ true) (filter (is_header_at P) (range_with_len 1 (length P))) k 0 (omega arith)
    (filter_passes (is_header_at P) (range_with_len 1 (length P))))
