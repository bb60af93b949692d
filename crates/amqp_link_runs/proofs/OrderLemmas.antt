-- A stable sort by a number gives the one list by rising numbers.
use Rattle.std.proofs.Common.{◌≡◌, ◌∙◌, sym, ap, subst, ℕ, suc, zero, ◌+◌, ◌<◌, ◌≤◌, Bool, true, false, cond, ◌&&◌, not, List, [], ◌∷◌, map, length, refl, nat_le, nat_eq, arith, inl, inr}
use Rattle.std.specs.List.{filter, AllByRecursion}
use Rattle.std.proofs.lemmas.Bool.Decides.{nat_tests}
use Rattle.std.proofs.lemmas.Bool.{cases_lt}
use Rattle.std.specs.List.Sorted.{IsNonDecreasingBy, IsSortedByKey, IsStableByKey, IsPermutation, ties}
use Rattle.std.specs.Ordering.{is_lt, nat_cmp}
use Rattle.std.specs.Cmp.{nat_cmp_is}
use Rattle.std.specs.declared.cmp.Ordering.TheVariants.{Less, Equal, Greater}
use Rattle.std.proofs.lemmas.List.Sorted.{IsNonDecreasingBy-from_sort, IsPermutation-refl, IsPermutation-trans, IsPermutation-cons, IsPermutation-append_comm, IsPermutation-append_left}
use Rattle.std.specs.Prelude.{get_or, Result, Ok, Err, OnOk}
use Rattle.amqp_link_runs.specs.Order.{placed, sorted_by}

not_both : (k m l : ℕ) → nat_le m l ≡ false → nat_eq m k ≡ true → nat_eq l k ≡ true → ⊥
not_both k m l h p q = grind (arith, nat_tests)

apart : {A : Type 0} (p q : Bool) → (p ≡ true → q ≡ true → ⊥) → (a b : A) (cs : List A)
    → cond q (b ∷ cond p (a ∷ cs) cs) (cond p (a ∷ cs) cs) ≡ cond p (a ∷ cond q (b ∷ cs) cs) (cond q (b ∷ cs) cs)
apart true true never a b cs = absurd (never refl refl)
apart true false never a b cs = refl
apart false q never a b cs = refl

same : (k : ℕ) → nat_eq k k ≡ true
same k = grind (arith, nat_tests)

tie_of : (a b : ℕ) → not (is_lt (nat_cmp a b)) && not (is_lt (nat_cmp b a)) ≡ nat_eq b a
tie_of a b = elim (cases_lt a b) [
  | inl lt ↦
      let other : nat_eq b a ≡ false = grind (arith, nat_tests, lt) in
      ap (λ r. not (is_lt r) && not (is_lt (nat_cmp b a))) (sym (nat_cmp_is a b Less lt)) ∙ sym other
  | inr le ↦ elim (cases_lt b a) [
    | inl lt ↦
        let other : nat_eq b a ≡ false = grind (arith, nat_tests, lt) in
        ap (λ r. not (is_lt r) && not (is_lt (nat_cmp b a))) (sym (nat_cmp_is a b Greater lt))
        ∙ ap (λ r. not (is_lt r)) (sym (nat_cmp_is b a Less lt)) ∙ sym other
    | inr ge ↦
        let level : a ≡ b = omega (arith, le, ge) in
        let here : nat_eq b a ≡ true = grind (arith, nat_tests, level) in
        ap (λ r. not (is_lt r) && not (is_lt (nat_cmp b a))) (sym (nat_cmp_is a b Equal level))
        ∙ ap (λ r. not (is_lt r)) (sym (nat_cmp_is b a Equal (sym level))) ∙ sym here
  ]
]

not_less : (a b : ℕ) → b ≤ a → is_lt (nat_cmp a b) ≡ false
not_less a b h = elim (cases_lt b a) [
  | inl lt ↦ ap is_lt (sym (nat_cmp_is a b Greater lt))
  | inr ge ↦ let level : a ≡ b = omega (arith, ge, h) in ap is_lt (sym (nat_cmp_is a b Equal level))
]

cons_heads : {A : Type 0} {x y : A} {xs ys : List A} → x ∷ xs ≡ y ∷ ys → x ≡ y
cons_heads h = cc

cons_tails : {A : Type 0} {x y : A} {xs ys : List A} → x ∷ xs ≡ y ∷ ys → xs ≡ ys
cons_tails h = cc

no_cons : {A : Type 0} {x : A} {xs : List A} → x ∷ xs ≡ [] → ⊥
no_cons h = cc

module _ {A : Type 0} (n : A → ℕ) where
  -- no element is smaller than one before it
  abbrev pub Rises : List A → Type 0
  Rises [] = Unit {0}
  Rises (a ∷ more) = AllByRecursion (λ b. n a ≤ n b) more × Rises more

  -- those of one number
  abbrev pub alike : ℕ → List A → List A
  alike k xs = filter (λ x. nat_eq (n x) k) xs

  le_all : (k m : ℕ) (bs : List A) → k ≤ m → AllByRecursion (λ b. m ≤ n b) bs → AllByRecursion (λ b. k ≤ n b) bs
  le_all k m [] h all = tt
  le_all k m (b ∷ bs) h all = (omega (arith, all.0), le_all k m bs h all.1)

  placed-all : (k : ℕ) (a : A) (bs : List A) → k ≤ n a → AllByRecursion (λ b. k ≤ n b) bs → AllByRecursion (λ b. k ≤ n b) (placed n a bs)
  placed-all k a [] h all = (h, tt)
  placed-all k a (b ∷ bs) h all =
      elim (nat_le (n a) (n b)) as (λ t. AllByRecursion (λ b. k ≤ n b) (cond t (a ∷ b ∷ bs) (b ∷ placed n a bs))) [
        | true ↦ (h, all)
        | false ↦ (all.0, placed-all k a bs h all.1)
      ]

  placed-rises : (a : A) (bs : List A) → Rises bs → Rises (placed n a bs)
  placed-rises a [] r = (tt, tt)
  placed-rises a (b ∷ bs) r =
      elim (nat_le (n a) (n b)) as (λ t. (nat_le (n a) (n b) ≡ t) → Rises (cond t (a ∷ b ∷ bs) (b ∷ placed n a bs))) [
        | true ↦ λ h. let le : n a ≤ n b = grind (arith, nat_tests) in ((le, le_all (n a) (n b) bs le r.0), r)
        | false ↦ λ h. let ge : n b ≤ n a = grind (arith, nat_tests) in (placed-all (n b) a bs ge r.0, placed-rises a bs r.1)
      ] refl

  pub sorted_by-rises : (xs : List A) → Rises (sorted_by n xs)
  sorted_by-rises [] = tt
  sorted_by-rises (x ∷ xs) = placed-rises x (sorted_by n xs) (sorted_by-rises xs)

  alike-placed : (k : ℕ) (a : A) (bs : List A) → alike k (placed n a bs) ≡ alike k (a ∷ bs)
  alike-placed k a [] = refl
  alike-placed k a (b ∷ bs) =
      elim (nat_le (n a) (n b)) as (λ t. (nat_le (n a) (n b) ≡ t) → alike k (cond t (a ∷ b ∷ bs) (b ∷ placed n a bs)) ≡ alike k (a ∷ b ∷ bs)) [
        | true ↦ λ h. refl
        | false ↦ λ h.
            ap (λ rest. cond (nat_eq (n b) k) (b ∷ rest) rest) (alike-placed k a bs)
            ∙ apart (nat_eq (n a) k) (nat_eq (n b) k) (not_both k (n a) (n b) h) a b (alike k bs)
      ] refl

  pub alike-sorted : (k : ℕ) (xs : List A) → alike k (sorted_by n xs) ≡ alike k xs
  alike-sorted k [] = refl
  alike-sorted k (x ∷ xs) = alike-placed k x (sorted_by n xs) ∙ ap (λ rest. cond (nat_eq (n x) k) (x ∷ rest) rest) (alike-sorted k xs)

  -- a list whose numbers are all greater has none of this one
  none_alike : (k : ℕ) (xs : List A) → AllByRecursion (λ x. k < n x) xs → alike k xs ≡ []
  none_alike k [] all = refl
  none_alike k (x ∷ xs) all =
      let other : nat_eq (n x) k ≡ false = grind (arith, nat_tests, all.0) in
      ap (λ t. cond t (x ∷ alike k xs) (alike k xs)) other ∙ none_alike k xs all.1

  lt_all : (k m : ℕ) (bs : List A) → k < m → AllByRecursion (λ b. m ≤ n b) bs → AllByRecursion (λ b. k < n b) bs
  lt_all k m [] h all = tt
  lt_all k m (b ∷ bs) h all = (omega (arith, all.0), lt_all k m bs h all.1)

  own : (x : A) (xs : List A) → alike (n x) (x ∷ xs) ≡ x ∷ alike (n x) xs
  own x xs = ap (λ t. cond t (x ∷ alike (n x) xs) (alike (n x) xs)) (same (n x))

  -- the first of one list is not below the first of the other
  not_below : (x y : A) (xs ys : List A) → Rises (y ∷ ys) → alike (n x) (x ∷ xs) ≡ alike (n x) (y ∷ ys) → n x < n y → ⊥
  not_below x y xs ys r same_x h = no_cons (sym (own x xs) ∙ same_x ∙ none_alike (n x) (y ∷ ys) (h, lt_all (n x) (n y) ys h r.0))

  -- what is left of both where one element is taken off
  rest_alike : (x : A) (xs ys : List A) (k : ℕ) → alike k (x ∷ xs) ≡ alike k (x ∷ ys) → alike k xs ≡ alike k ys
  rest_alike x xs ys k e =
      elim (nat_eq (n x) k) as (λ t. cond t (x ∷ alike k xs) (alike k xs) ≡ cond t (x ∷ alike k ys) (alike k ys) → alike k xs ≡ alike k ys) [
        | true ↦ λ h. cons_tails h
        | false ↦ λ h. h
      ] e

  -- two lists by rising numbers that have the same of each number are one
  pub one_order : (xs ys : List A) → Rises xs → Rises ys → ((z : A) → alike (n z) xs ≡ alike (n z) ys) → xs ≡ ys
  one_order [] [] r s e = refl
  one_order [] (y ∷ ys) r s e = absurd (no_cons (sym (e y ∙ own y ys)))
  one_order (x ∷ xs) [] r s e = absurd (no_cons (sym (own x xs) ∙ e x))
  one_order (x ∷ xs) (y ∷ ys) r s e = elim (cases_lt (n x) (n y)) [
    | inl below ↦ absurd (not_below x y xs ys s (e x) below)
    | inr up ↦ elim (cases_lt (n y) (n x)) [
      | inl below ↦ absurd (not_below y x ys xs r (sym (e y)) below)
      | inr down ↦
          let level : n x ≡ n y = omega (arith, up, down) in
          let heads : x ∷ alike (n x) xs ≡ y ∷ alike (n x) ys =
          sym (own x xs) ∙ e x ∙ ap (λ k. alike k (y ∷ ys)) level ∙ own y ys ∙ ap (λ k. y ∷ alike k ys) (sym level) in
          let first : x ≡ y = cons_heads heads in
          ap (λ z. z ∷ xs) first ∙ ap (λ zs. y ∷ zs) (one_order xs ys r.1 s.1
          (λ z. rest_alike y xs ys (n z) (ap (λ w. alike (n z) (w ∷ xs)) (sym first) ∙ e z)))
    ]
  ]

  -- the library's words
  all_from : (P : A → Type 0) (xs : List A) → ((j : ℕ) (d : A) → j < length xs → P (get_or xs j d)) → AllByRecursion P xs
  all_from P [] h = tt
  all_from P (x ∷ xs) h = (h 0 x (omega arith), all_from P xs (λ j d below. h (suc j) d (omega (arith, below))))

  rises_from : (xs : List A) → IsNonDecreasingBy n xs → Rises xs
  rises_from [] h = tt
  rises_from (x ∷ xs) h = (
    all_from (λ b. n x ≤ n b) xs (λ j d below. h 0 (suc j) d (omega arith) (omega (arith, below))),
    rises_from xs (λ i j d le below. h (suc i) (suc j) d (omega (arith, le)) (omega (arith, below))),
  )

  tie : (x y : A) → ties (λ a b. is_lt (nat_cmp (n a) (n b))) x y ≡ nat_eq (n y) (n x)
  tie x y = tie_of (n x) (n y)

  pub sorted_is : (xs ys : List A) → IsSortedByKey n nat_cmp ys → IsStableByKey n nat_cmp xs ys → ys ≡ sorted_by n xs
  sorted_is xs ys up stable = one_order ys (sorted_by n xs)
      (rises_from ys (IsNonDecreasingBy-from_sort n ys up))
      (sorted_by-rises xs)
      (λ z. sym (λ i. filter (λ x. tie z x i) ys) ∙ stable z ∙ (λ i. filter (λ x. tie z x i) xs) ∙ sym (alike-sorted (n z) xs))

  -- what a stable sort by the number ensures, of each key that its closure computes
  pub sorted_where_ok : {E : Type 0} (C : (A → ℕ) → Type 0) (r : Result (Unit {0}) E) (xs ys : List A) → C n
      → OnOk r ((key : A → ℕ) → C key → IsSortedByKey key nat_cmp ys)
      → ((key : A → ℕ) → C key → IsStableByKey key nat_cmp xs ys) → OnOk r (ys ≡ sorted_by n xs)
  sorted_where_ok C (Ok u) xs ys c up stable = sorted_is xs ys (up n c) (stable n c)
  sorted_where_ok C (Err e) xs ys c up stable = tt

  -- the list by rising numbers in the library's words
  rising : (xs : List A) → Rises xs → IsSortedByKey n nat_cmp xs
  rising [] r k d low below = absurd (omega (arith, below))
  rising (x ∷ []) r k d low below = absurd (omega (arith, below))
  rising (x ∷ y ∷ xs) r zero d low below = not_less (n y) (n x) r.0.0
  rising (x ∷ y ∷ xs) r (suc k) d low below =
      let step : suc (k + 1) ≡ suc k + 1 = omega arith in
      subst (λ m. is_lt (nat_cmp (n (get_or (x ∷ y ∷ xs) m d)) (n (get_or (x ∷ y ∷ xs) (suc k) d))) ≡ false) step
      (rising (y ∷ xs) r.1 k d (omega arith) (omega (arith, below)))

  pub sorted_by-sorted : (xs : List A) → IsSortedByKey n nat_cmp (sorted_by n xs)
  sorted_by-sorted xs = rising (sorted_by n xs) (sorted_by-rises xs)

  pub sorted_by-stable : (xs : List A) → IsStableByKey n nat_cmp xs (sorted_by n xs)
  sorted_by-stable xs z = (λ i. filter (λ x. tie z x i) (sorted_by n xs)) ∙ alike-sorted (n z) xs ∙ sym (λ i. filter (λ x. tie z x i) xs)

  placed-permutes : (a : A) (bs : List A) → IsPermutation (a ∷ bs) (placed n a bs)
  placed-permutes a [] = IsPermutation-refl (a ∷ [])
  placed-permutes a (b ∷ bs) =
      elim (nat_le (n a) (n b)) as (λ t. IsPermutation (a ∷ b ∷ bs) (cond t (a ∷ b ∷ bs) (b ∷ placed n a bs))) [
        | true ↦ IsPermutation-refl (a ∷ b ∷ bs)
        | false ↦ IsPermutation-trans (a ∷ b ∷ bs) (b ∷ a ∷ bs) (b ∷ placed n a bs)
            (IsPermutation-append_left bs (a ∷ b ∷ []) (b ∷ a ∷ []) (IsPermutation-append_comm (a ∷ []) (b ∷ [])))
            (IsPermutation-cons b (a ∷ bs) (placed n a bs) (placed-permutes a bs))
      ]

  pub sorted_by-permutes : (xs : List A) → IsPermutation xs (sorted_by n xs)
  sorted_by-permutes [] = IsPermutation-refl []
  sorted_by-permutes (x ∷ xs) = IsPermutation-trans (x ∷ xs) (x ∷ sorted_by n xs) (placed n x (sorted_by n xs))
      (IsPermutation-cons x xs (sorted_by n xs) (sorted_by-permutes xs)) (placed-permutes x (sorted_by n xs))

-- a list whose elements are changed and keep their numbers is sorted alike
module _ {A B : Type 0} (f : A → B) (n : B → ℕ) where
  placed-map : (a : A) (xs : List A) → map f (placed (λ x. n (f x)) a xs) ≡ placed n (f a) (map f xs)
  placed-map a [] = refl
  placed-map a (x ∷ xs) =
      elim (nat_le (n (f a)) (n (f x))) as (λ b. map f (cond b (a ∷ x ∷ xs) (x ∷ placed (λ y. n (f y)) a xs)) ≡ cond b (f a ∷ f x ∷ map f xs) (f x ∷ placed n (f a) (map f xs))) [
        | true ↦ refl
        | false ↦ ap (λ l. f x ∷ l) (placed-map a xs)
      ]

  pub sorted-map : (xs : List A) → map f (sorted_by (λ x. n (f x)) xs) ≡ sorted_by n (map f xs)
  sorted-map [] = refl
  sorted-map (x ∷ xs) = placed-map x (sorted_by (λ y. n (f y)) xs) ∙ ap (placed n (f x)) (sorted-map xs)
