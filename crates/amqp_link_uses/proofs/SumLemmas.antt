-- Sums over a list of which one element is written, and over the values of a map.
use Rattle.std.proofs.Common.{◌≡◌, ◌∙◌, ◌+◌, ◌≤◌, arith, ap, get_or, refl, suc, ℕ, List, [], ◌∷◌, Bool, Option, Some, None, length}
use Rattle.std.specs.Prelude.{slice_get, slice_set, sum_by}
use Rattle.std.specs.Option.{option_map, option_map_or}
use Rattle.std.specs.List.{position}
use Rattle.std.specs.Map.{keys_of, lookup}
use Rattle.std.proofs.lemmas.List.Sums.{sum_by-cons, sum_by-swap_remove, sum_by_push}
use Rattle.std.proofs.lemmas.Option.{none-some, same_Some, slice_get-get_or, slice_get-map}
use Rattle.indexmap.specs.IndexMap.{insert_entry, swap_remove_entry}
use Rattle.indexmap.proofs.MapLemmas.{Found-position, Missing-position, absent_from_lookup, insert_entry-absent, swap_remove_entry-found, swap_remove_entry-missing}
use Prim.Native.Nat.{zero}

-- an element is written in the place of another
pub sum_by_written : {X : Type 0} (f : X → ℕ) (xs : List X) (i : ℕ) (x y : X) → slice_get xs i ≡ Some x
    → sum_by f (slice_set xs i y) + f x ≡ sum_by f xs + f y
sum_by_written f [] i x y is = absurd (none-some x is)
sum_by_written f (z ∷ zs) zero x y is =
    let sums : sum_by f (y ∷ zs) + f x ≡ sum_by f (z ∷ zs) + f y = omega (arith, sum_by-cons f y zs, sum_by-cons f z zs, ap f (same_Some z x is)) in
    sums
sum_by_written f (z ∷ zs) (suc i) x y is =
    let sums : sum_by f (z ∷ slice_set zs i y) + f x ≡ sum_by f (z ∷ zs) + f y =
    omega (arith, sum_by-cons f z (slice_set zs i y), sum_by-cons f z zs, sum_by_written f zs i x y is) in
    sums

-- a sum of the smaller is the smaller
pub sum_by_less : {X : Type 0} (f g : X → ℕ) (xs : List X) → ((x : X) → f x ≤ g x) → sum_by f xs ≤ sum_by g xs
sum_by_less f g [] less = omega arith
sum_by_less f g (x ∷ xs) less = omega (arith, sum_by-cons f x xs, sum_by-cons g x xs, less x, sum_by_less f g xs less)

-- sums of equals
pub sum_by_same : {X : Type 0} (f g : X → ℕ) (xs : List X) → ((x : X) → f x ≡ g x) → sum_by f xs ≡ sum_by g xs
sum_by_same f g [] same = refl
sum_by_same f g (x ∷ xs) same = omega (arith, sum_by-cons f x xs, sum_by-cons g x xs, same x, sum_by_same f g xs same)

-- a length is a sum of ones
pub sum_of_ones : {X : Type 0} (xs : List X) → sum_by (λ x. 1) xs ≡ length xs
sum_of_ones [] = refl
sum_of_ones (x ∷ xs) = omega (arith, sum_by-cons (λ y. 1) x xs, sum_of_ones xs)

module _ {K V : Type 0} (f : V → ℕ) where
  abbrev sum_of : List (K × V) → ℕ
  sum_of es = sum_by (λ e. f e.1) es

  -- an entry is put in whose key the map has not
  pub sum_put : (eq : K → K → Bool) (es : List (K × V)) (k : K) (v : V) → lookup (eq k) es ≡ None → sum_of (insert_entry eq es k v) ≡ sum_of es + f v
  sum_put eq es k v none = ap sum_of (insert_entry-absent eq k v es (absent_from_lookup (eq k) es none)) ∙ sum_by_push (λ e. f e.1) es (k, v)

  by_place : (test : K → Bool) (e : K × V) (es : List (K × V)) (p : Option ℕ) → position test (keys_of (e ∷ es)) ≡ p
      → sum_of (swap_remove_entry test (e ∷ es)) + option_map_or f (lookup test (e ∷ es)) 0 ≡ sum_of (e ∷ es)
  by_place test e es None is = omega (
    arith,
    ap sum_of (swap_remove_entry-missing test (e ∷ es) is),
    ap (λ v. option_map_or f v 0) (Missing-position test (e ∷ es) is).value,
  )
  by_place test e es (Some i) is =
      let found = Found-position test (e ∷ es) i is in
      let value : lookup test (e ∷ es) ≡ Some (get_or (e ∷ es) i e).1 = found.value
      ∙ slice_get-map (λ x. x.1) (e ∷ es) i ∙ ap (λ o. option_map (λ x. x.1) o) (slice_get-get_or (e ∷ es) i e found.within) in
      omega (
        arith,
        ap sum_of (swap_remove_entry-found test (e ∷ es) i e is),
        ap (λ v. option_map_or f v 0) value,
        sum_by-swap_remove (λ x. f x.1) (e ∷ es) i e found.within,
      )

  -- an entry is taken out, if the map has it
  pub sum_taken : (test : K → Bool) (es : List (K × V)) → sum_of (swap_remove_entry test es) + option_map_or f (lookup test es) 0 ≡ sum_of es
  sum_taken test [] = refl
  sum_taken test (e ∷ es) = by_place test e es (position test (keys_of (e ∷ es))) refl
