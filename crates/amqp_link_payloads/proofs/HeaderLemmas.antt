-- What the rest of the proofs use of headers. Only this file reads the forms.
use Rattle.std.proofs.Common.{◌≡◌, ℕ, zero, suc, ◌+◌, ◌<◌, ◌≤◌, ◌⊎◌, Bool, true, false, List, [], ◌∷◌, ◌++◌, length, get_or, drop, refl, sym, ap, ◌∙◌, inl, inr, arith, get_or-drop, ◌&&◌, ◌==◌, leb}
use Rattle.std.proofs.lemmas.Bool.{and_parts, leb-true, cases_lt, cases_eq, eq-eqb, ne_eqb, and_from, le-leb, both_ways}
use Rattle.amqp_link_payloads.specs.Header.{begins_with, small_form, large_form, header_len, may_end, ending}

begins_with_long : (f : List (ℕ × ℕ)) (xs : List ℕ) → begins_with f xs ≡ true → length f ≤ length xs
begins_with_long [] xs h = omega arith
begins_with_long (r ∷ f) [] h = cc
begins_with_long (r ∷ f) (x ∷ xs) h =
    let rest : length f ≤ length xs = begins_with_long f xs (and_parts (leb r.0 x && leb x r.1) (begins_with f xs) h).1 in
    omega arith

begins_with_more : (f : List (ℕ × ℕ)) (xs ys : List ℕ) → length f ≤ length xs
    → begins_with f (xs ++ ys) ≡ begins_with f xs
begins_with_more [] xs ys h = refl
begins_with_more (r ∷ f) [] ys h = absurd (omega arith)
begins_with_more (r ∷ f) (x ∷ xs) ys h =
    ap (λ t. leb r.0 x && leb x r.1 && t) (begins_with_more f xs ys (omega arith))

-- each byte of a form lies in its range
begins_with_at : (f : List (ℕ × ℕ)) (xs : List ℕ) (i : ℕ) → begins_with f xs ≡ true → i < length f
    → ((get_or f i (0, 0)).0 ≤ get_or xs i 0) × (get_or xs i 0 ≤ (get_or f i (0, 0)).1)
begins_with_at [] xs i h lt = absurd (omega arith)
begins_with_at (r ∷ f) [] i h lt = cc
begins_with_at (r ∷ f) (x ∷ xs) zero h lt =
    let here : (leb r.0 x && leb x r.1) ≡ true = (and_parts (leb r.0 x && leb x r.1) (begins_with f xs) h).0 in
    let both = and_parts (leb r.0 x) (leb x r.1) here in
    (leb-true r.0 x both.0, leb-true x r.1 both.1)
begins_with_at (r ∷ f) (x ∷ xs) (suc i) h lt =
    begins_with_at f xs i (and_parts (leb r.0 x && leb x r.1) (begins_with f xs) h).1 (omega arith)

small_len : (xs : List ℕ) → begins_with small_form xs ≡ true → header_len xs ≡ length small_form
unfolding header_len
small_len xs h = rw h

large_len : (xs : List ℕ) → begins_with small_form xs ≡ false → begins_with large_form xs ≡ true
    → header_len xs ≡ length large_form
unfolding header_len
large_len xs n h = rw (n, h)

-- the cases of a header's length
data HeaderCase (xs : List ℕ) : Type 0 where
  is_small : begins_with small_form xs ≡ true → header_len xs ≡ length small_form → HeaderCase xs
  is_large : begins_with small_form xs ≡ false → begins_with large_form xs ≡ true → header_len xs ≡ length large_form → HeaderCase xs
  is_none : begins_with small_form xs ≡ false → begins_with large_form xs ≡ false → header_len xs ≡ 0 → HeaderCase xs

header_case : (xs : List ℕ) → HeaderCase xs
unfolding header_len
header_case xs = go (begins_with small_form xs) (begins_with large_form xs) refl refl
  where
    go : (s l : Bool) → begins_with small_form xs ≡ s → begins_with large_form xs ≡ l → HeaderCase xs
    go true l es el = is_small es (rw es)
    go false true es el = is_large es el (rw (es, el))
    go false false es el = is_none es el (rw (es, el))

-- a header stands whole
pub header_whole : (xs : List ℕ) → header_len xs ≤ length xs
header_whole xs = elim (header_case xs) [
  | is_small h e ↦ omega (arith, begins_with_long small_form xs h)
  | is_large _ h e ↦ omega (arith, begins_with_long large_form xs h)
  | is_none _ _ e ↦ omega arith
]

-- bytes after a header leave it
pub header_more : (xs ys : List ℕ) → 0 < header_len xs → header_len (xs ++ ys) ≡ header_len xs
header_more xs ys lt = elim (header_case xs) [
  | is_small h e ↦
      let long : length small_form ≤ length xs = begins_with_long small_form xs h in
      small_len (xs ++ ys) (begins_with_more small_form xs ys long ∙ h) ∙ sym e
  | is_large n h e ↦
      let long : length large_form ≤ length xs = begins_with_long large_form xs h in
      large_len (xs ++ ys) (begins_with_more small_form xs ys (omega arith) ∙ n)
      (begins_with_more large_form xs ys long ∙ h) ∙ sym e
  | is_none _ _ e ↦ absurd (omega arith)
]

-- a header needs only the bytes that it has
pub header_front : (xs ys : List ℕ) → 0 < header_len (xs ++ ys) → header_len (xs ++ ys) ≤ length xs
    → header_len (xs ++ ys) ≡ header_len xs
header_front xs ys lt fits = elim (header_case (xs ++ ys)) [
  | is_small h e ↦
      let front : begins_with small_form xs ≡ true = sym (begins_with_more small_form xs ys (omega arith)) ∙ h in
      e ∙ sym (small_len xs front)
  | is_large n h e ↦
      let not_small : begins_with small_form xs ≡ false = sym (begins_with_more small_form xs ys (omega arith)) ∙ n in
      let front : begins_with large_form xs ≡ true = sym (begins_with_more large_form xs ys (omega arith)) ∙ h in
      e ∙ sym (large_len xs not_small front)
  | is_none _ _ e ↦ absurd (omega arith)
]

-- the first two bytes of a header
header_bytes : (xs : List ℕ) → 0 < header_len xs
    → (get_or xs 0 0 ≡ 0) × ((get_or xs 1 0 ≡ 0x53) ⊎ (get_or xs 1 0 ≡ 0x80))
header_bytes xs lt = elim (header_case xs) [
  | is_small h e ↦
      let first = begins_with_at small_form xs 0 h (omega arith) in
      let second = begins_with_at small_form xs 1 h (omega arith) in
      (omega arith, inl (omega arith))
  | is_large _ h e ↦
      let first = begins_with_at large_form xs 0 h (omega arith) in
      let second = begins_with_at large_form xs 1 h (omega arith) in
      (omega arith, inr (omega arith))
  | is_none _ _ e ↦ absurd (omega arith)
]

-- two headers never overlap
pub headers_apart : (xs : List ℕ) (k : ℕ) → 0 < k → k < header_len xs → header_len (drop k xs) ≡ 0
headers_apart xs k above lt = elim (cases_lt 0 (header_len (drop k xs))) [
  | inr h ↦ omega arith
  | inl h ↦ absurd (clash (header_bytes (drop k xs) h) (header_case xs))
]
  where
    clash : (get_or (drop k xs) 0 0 ≡ 0) × ((get_or (drop k xs) 1 0 ≡ 0x53) ⊎ (get_or (drop k xs) 1 0 ≡ 0x80)) → HeaderCase xs → ⊥
    clash b (is_small h e) = small k above (omega arith) (rw get_or-drop at b.0)
      where
        small : (k : ℕ) → 0 < k → k < 3 → get_or xs (k + 0) 0 ≡ 0 → ⊥
        small zero a l z = omega arith
        small (suc zero) a l z = omega (arith, begins_with_at small_form xs 1 h (omega arith))
        small (suc (suc zero)) a l z = omega (arith, begins_with_at small_form xs 2 h (omega arith))
        small (suc (suc (suc n))) a l z = omega arith
    clash b (is_large n h e) = large k above (omega arith) (rw get_or-drop at b.0) (rw get_or-drop at b.1)
      where
        large : (k : ℕ) → 0 < k → k < 10 → get_or xs (k + 0) 0 ≡ 0
            → (get_or xs (k + 1) 0 ≡ 0x53) ⊎ (get_or xs (k + 1) 0 ≡ 0x80) → ⊥
        large zero a l z y = omega arith
        large (suc zero) a l z y = omega (arith, begins_with_at large_form xs 1 h (omega arith))
        large (suc (suc zero)) a l z y = omega (arith, begins_with_at large_form xs 2 h (omega arith), begins_with_at large_form xs 3 h (omega arith))
        large (suc (suc (suc zero))) a l z y = omega (arith, begins_with_at large_form xs 3 h (omega arith), begins_with_at large_form xs 4 h (omega arith))
        large (suc (suc (suc (suc zero)))) a l z y = omega (arith, begins_with_at large_form xs 4 h (omega arith), begins_with_at large_form xs 5 h (omega arith))
        large (suc (suc (suc (suc (suc zero))))) a l z y = omega (arith, begins_with_at large_form xs 5 h (omega arith), begins_with_at large_form xs 6 h (omega arith))
        large (suc (suc (suc (suc (suc (suc zero)))))) a l z y = omega (arith, begins_with_at large_form xs 6 h (omega arith), begins_with_at large_form xs 7 h (omega arith))
        large (suc (suc (suc (suc (suc (suc (suc zero))))))) a l z y = omega (arith, begins_with_at large_form xs 7 h (omega arith), begins_with_at large_form xs 8 h (omega arith))
        large (suc (suc (suc (suc (suc (suc (suc (suc zero)))))))) a l z y = omega (arith, begins_with_at large_form xs 8 h (omega arith), begins_with_at large_form xs 9 h (omega arith))
        large (suc (suc (suc (suc (suc (suc (suc (suc (suc zero))))))))) a l z y = omega (arith, begins_with_at large_form xs 9 h (omega arith))
        large (suc (suc (suc (suc (suc (suc (suc (suc (suc (suc n)))))))))) a l z y = omega arith
    clash b (is_none _ _ e) = omega arith

-- what the code's pattern tests: a header's bytes, one by one
begins_with_from : (f : List (ℕ × ℕ)) (xs : List ℕ) → length f ≤ length xs
    → ((i : ℕ) → i < length f → ((get_or f i (0, 0)).0 ≤ get_or xs i 0) × (get_or xs i 0 ≤ (get_or f i (0, 0)).1))
    → begins_with f xs ≡ true
begins_with_from [] xs long at = refl
begins_with_from (r ∷ f) [] long at = absurd (omega arith)
begins_with_from (r ∷ f) (x ∷ xs) long at =
    and_from (leb r.0 x && leb x r.1) (begins_with f xs)
    (and_from (leb r.0 x) (leb x r.1) (le-leb r.0 x (at 0 (omega arith)).0) (le-leb x r.1 (at 0 (omega arith)).1))
    (begins_with_from f xs (omega arith) (λ i lt. at (suc i) (omega arith)))

-- the lengths that a header has
pub header_lengths : (xs : List ℕ) → (header_len xs ≡ 0) ⊎ ((header_len xs ≡ 3) ⊎ (header_len xs ≡ 10))
header_lengths xs = elim (header_case xs) [
  | is_small h e ↦ inr (inl e)
  | is_large n h e ↦ inr (inr e)
  | is_none _ _ e ↦ inl e
]

pub header_first : (xs : List ℕ) → 0 < header_len xs → get_or xs 0 0 ≡ 0
header_first xs lt = (header_bytes xs lt).0

-- the bytes that the code's pattern names
abbrev pub SmallBytes : List ℕ → Type 0
SmallBytes xs = (3 ≤ length xs) × (get_or xs 0 0 ≡ 0) × (get_or xs 1 0 ≡ 0x53) × (0x70 ≤ get_or xs 2 0) × (get_or xs 2 0 ≤ 0x78)

abbrev pub LargeBytes : List ℕ → Type 0
LargeBytes xs = (10 ≤ length xs) × (get_or xs 0 0 ≡ 0) × (get_or xs 1 0 ≡ 0x80) × (get_or xs 2 0 ≡ 0) × (get_or xs 3 0 ≡ 0) × (get_or xs 4 0 ≡ 0) × (get_or xs 5 0 ≡ 0) × (get_or xs 6 0 ≡ 0) × (get_or xs 7 0 ≡ 0) × (get_or xs 8 0 ≡ 0) × (0x70 ≤ get_or xs 9 0) × (get_or xs 9 0 ≤ 0x78)

pub header_tests : (xs : List ℕ) → ((header_len xs ≡ 0) × (SmallBytes xs → ⊥) × (LargeBytes xs → ⊥))
    ⊎ (((header_len xs ≡ 3) × SmallBytes xs) ⊎ ((header_len xs ≡ 10) × LargeBytes xs))
header_tests xs = elim (header_case xs) [
  | is_small h e ↦ inr (inl (
    e,
    (
      begins_with_long small_form xs h,
      omega (arith, begins_with_at small_form xs 0 h (omega arith)),
      omega (arith, begins_with_at small_form xs 1 h (omega arith)),
      (begins_with_at small_form xs 2 h (omega arith)).0,
      (begins_with_at small_form xs 2 h (omega arith)).1,
    ),
  ))
  | is_large n h e ↦ inr (inr (
    e,
    (
      begins_with_long large_form xs h,
      omega (arith, begins_with_at large_form xs 0 h (omega arith)),
      omega (arith, begins_with_at large_form xs 1 h (omega arith)),
      omega (arith, begins_with_at large_form xs 2 h (omega arith)),
      omega (arith, begins_with_at large_form xs 3 h (omega arith)),
      omega (arith, begins_with_at large_form xs 4 h (omega arith)),
      omega (arith, begins_with_at large_form xs 5 h (omega arith)),
      omega (arith, begins_with_at large_form xs 6 h (omega arith)),
      omega (arith, begins_with_at large_form xs 7 h (omega arith)),
      omega (arith, begins_with_at large_form xs 8 h (omega arith)),
      (begins_with_at large_form xs 9 h (omega arith)).0,
      (begins_with_at large_form xs 9 h (omega arith)).1,
    ),
  ))
  | is_none n m e ↦ inl (
    e,
    (λ b. both_ways (begins_with small_form xs) n (begins_with_from small_form xs b.0 (small b))),
    (λ b. both_ways (begins_with large_form xs) m (begins_with_from large_form xs b.0 (large b))),
  )
]
  where
    small : SmallBytes xs → (i : ℕ) → i < 3
        → ((get_or small_form i (0, 0)).0 ≤ get_or xs i 0) × (get_or xs i 0 ≤ (get_or small_form i (0, 0)).1)
    small b zero lt = (omega arith, omega arith)
    small b (suc zero) lt = (omega arith, omega arith)
    small b (suc (suc zero)) lt = (omega arith, omega arith)
    small b (suc (suc (suc n))) lt = absurd (omega arith)

    large : LargeBytes xs → (i : ℕ) → i < 10
        → ((get_or large_form i (0, 0)).0 ≤ get_or xs i 0) × (get_or xs i 0 ≤ (get_or large_form i (0, 0)).1)
    large b zero lt = (omega arith, omega arith)
    large b (suc zero) lt = (omega arith, omega arith)
    large b (suc (suc zero)) lt = (omega arith, omega arith)
    large b (suc (suc (suc zero))) lt = (omega arith, omega arith)
    large b (suc (suc (suc (suc zero)))) lt = (omega arith, omega arith)
    large b (suc (suc (suc (suc (suc zero))))) lt = (omega arith, omega arith)
    large b (suc (suc (suc (suc (suc (suc zero)))))) lt = (omega arith, omega arith)
    large b (suc (suc (suc (suc (suc (suc (suc zero))))))) lt = (omega arith, omega arith)
    large b (suc (suc (suc (suc (suc (suc (suc (suc zero)))))))) lt = (omega arith, omega arith)
    large b (suc (suc (suc (suc (suc (suc (suc (suc (suc zero))))))))) lt = (omega arith, omega arith)
    large b (suc (suc (suc (suc (suc (suc (suc (suc (suc (suc n)))))))))) lt = absurd (omega arith)

-- ---- ten bytes that end in a header

may_end_from : (first last : ℕ) → first ≡ 0 → 0x70 ≤ last → last ≤ 0x78 → may_end first last ≡ true
may_end_from first last z lo hi =
    and_from (first == 0 && leb 0x70 last) (leb last 0x78)
    (and_from (first == 0) (leb 0x70 last) (eq-eqb first 0 z) (le-leb 0x70 last lo)) (le-leb last 0x78 hi)

small_may_end : (w : List ℕ) → header_len (drop 7 w) ≡ 3 → may_end (get_or w 7 0) (get_or w 9 0) ≡ true
small_may_end w e = elim (header_tests (drop 7 w)) [
  | inl none ↦ absurd (omega (arith, none.0))
  | inr some ↦ elim some [
    | inl small ↦
        let first : get_or (drop 7 w) 0 0 ≡ get_or w 7 0 = get_or-drop 7 w 0 0 in
        let last : get_or (drop 7 w) 2 0 ≡ get_or w 9 0 = get_or-drop 7 w 2 0 in
        may_end_from (get_or w 7 0) (get_or w 9 0) (omega (arith, small.1, first)) (omega (arith, small.1, last)) (omega (arith, small.1, last))
    | inr large ↦ absurd (omega (arith, large.0))
  ]
]

large_may_end : (w : List ℕ) → header_len w ≡ 10 → may_end (get_or w 7 0) (get_or w 9 0) ≡ true
large_may_end w e = elim (header_tests w) [
  | inl none ↦ absurd (omega (arith, none.0))
  | inr some ↦ elim some [
    | inl small ↦ absurd (omega (arith, small.0))
    | inr large ↦ may_end_from (get_or w 7 0) (get_or w 9 0) (omega (arith, large.1)) (omega (arith, large.1)) (omega (arith, large.1))
  ]
]

-- by which of the two forms
pub data Ending (w : List ℕ) : Type 0 where
  ends_small : header_len (drop 7 w) ≡ 3 → ending w ≡ 3 → Ending w
  ends_large : (header_len (drop 7 w) ≡ 3 → ⊥) → header_len w ≡ 10 → ending w ≡ 10 → Ending w
  ends_none : (header_len (drop 7 w) ≡ 3 → ⊥) → (header_len w ≡ 10 → ⊥) → ending w ≡ 0 → Ending w

pub ending_small : (w : List ℕ) → header_len (drop 7 w) ≡ 3 → ending w ≡ 3
ending_small w e = rw (eq-eqb (header_len (drop 7 w)) 3 e)

pub ending_large : (w : List ℕ) → (header_len (drop 7 w) ≡ 3 → ⊥) → header_len w ≡ 10 → ending w ≡ 10
ending_large w ne e = rw (ne_eqb (header_len (drop 7 w)) 3 ne, eq-eqb (header_len w) 10 e)

pub ending_none : (w : List ℕ) → (header_len (drop 7 w) ≡ 3 → ⊥) → (header_len w ≡ 10 → ⊥) → ending w ≡ 0
ending_none w ne ne' = rw (ne_eqb (header_len (drop 7 w)) 3 ne, ne_eqb (header_len w) 10 ne')

pub ending_case : (w : List ℕ) → Ending w
ending_case w = elim (cases_eq (header_len (drop 7 w)) 3) [
  | inl e ↦ ends_small e (ending_small w e)
  | inr ne ↦ elim (cases_eq (header_len w) 10) [
    | inl e ↦ ends_large ne e (ending_large w ne e)
    | inr ne' ↦ ends_none ne ne' (ending_none w ne ne')
  ]
]

-- where the quick test fails they end in none
pub ending_never : (w : List ℕ) → may_end (get_or w 7 0) (get_or w 9 0) ≡ false → ending w ≡ 0
ending_never w never =
    ending_none w (λ e. both_ways (may_end (get_or w 7 0) (get_or w 9 0)) never (small_may_end w e))
    (λ e. both_ways (may_end (get_or w 7 0) (get_or w 9 0)) never (large_may_end w e))
