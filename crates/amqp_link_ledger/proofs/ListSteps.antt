-- Look-ups in lists and maps, by cases.
use Rattle.std.proofs.Common.{◌≡◌, ◌≢◌, ◌∙◌, sym, ap, Bool, true, false, cond, List, [], ◌∷◌, ◌++◌, refl, ℕ, zero, suc, ◌<◌, map, length, Option, Some, None, is_some, slice_get, slice_set, arith}
use Rattle.std.specs.Prelude.{bytes_eq, option_map}
use Rattle.std.proofs.lemmas.Slice.Eq.{bytes_eq-Decides}
use Rattle.amqp_link_types.specs.Entries.{Tag, Entries, entry_at}
use Rattle.amqp_link_types.proofs.MapLemmas.{same_tag, false_is_not_true}

pub some_is : {A : Type 0} {x y : A} → Some x ≡ Some y → x ≡ y
some_is h = cc

pub some_is_none : {A : Type 0} {x : A} → Some x ≡ None → ⊥
some_is_none h = cc

pub false_true : {b : Bool} → b ≡ false → b ≡ true → ⊥
false_true e h = false_is_not_true (sym e ∙ h)

-- by what a test answers
pub by_test : {A : Type 0} (b : Bool) → (b ≡ true → A) → (b ≡ false → A) → A
by_test true here there = here refl
by_test false here there = there refl

-- what follows from a test of tags
pub tag_is : (tag other : Tag) → bytes_eq tag other ≡ true → tag ≡ other
tag_is tag other h = (bytes_eq-Decides tag other).0 h

pub is_tag : (tag other : Tag) → tag ≡ other → bytes_eq tag other ≡ true
is_tag tag other h = (bytes_eq-Decides tag other).1 h

module _ {X : Type 0} where
  pub get_set_same : (xs : List X) (n : ℕ) (x y : X) → slice_get xs n ≡ Some x → slice_get (slice_set xs n y) n ≡ Some y
  get_set_same [] n x y at = absurd (some_is_none (sym at))
  get_set_same (z ∷ zs) zero x y at = refl
  get_set_same (z ∷ zs) (suc n) x y at = get_set_same zs n x y at

  pub get_set_other : (xs : List X) (n k : ℕ) (y : X) → k ≢ n → slice_get (slice_set xs n y) k ≡ slice_get xs k
  get_set_other [] n k y apart = refl
  get_set_other (z ∷ zs) zero zero y apart = absurd (apart refl)
  get_set_other (z ∷ zs) zero (suc k) y apart = refl
  get_set_other (z ∷ zs) (suc n) zero y apart = refl
  get_set_other (z ∷ zs) (suc n) (suc k) y apart = get_set_other zs n k y (λ e. apart (ap suc e))

  pub get_push_old : (xs : List X) (k : ℕ) (y : X) → k < length xs → slice_get (xs ++ y ∷ []) k ≡ slice_get xs k
  get_push_old [] k y h = absurd (omega arith)
  get_push_old (z ∷ zs) zero y h = refl
  get_push_old (z ∷ zs) (suc k) y h = get_push_old zs k y (omega arith)

  pub get_push_new : (xs : List X) (y : X) → slice_get (xs ++ y ∷ []) (length xs) ≡ Some y
  get_push_new [] y = refl
  get_push_new (z ∷ zs) y = get_push_new zs y

  pub nothing_more : (xs : List X) → xs ++ [] ≡ xs
  nothing_more [] = refl
  nothing_more (x ∷ xs) = ap (λ l. x ∷ l) (nothing_more xs)

-- the pair in front
module _ {V : Type 0} where
  pub entry_at-first : (tag : Tag) (v : V) (m : Entries V) → entry_at ((tag, v) ∷ m) tag ≡ Some v
  entry_at-first tag v m = ap (λ b. cond b (Some v) (entry_at m tag)) (same_tag tag)

-- values changed in place
module _ {X Y : Type 0} where
  pub entry_at-map : (f : X → Y) (m : Entries X) (tag : Tag) → entry_at (map (λ e. (e.0, f e.1)) m) tag ≡ option_map f (entry_at m tag)
  entry_at-map f [] tag = refl
  entry_at-map f (e ∷ m) tag =
      elim (bytes_eq tag e.0) as (λ b. cond b (Some (f e.1)) (entry_at (map (λ e. (e.0, f e.1)) m) tag) ≡ option_map f (cond b (Some e.1) (entry_at m tag))) [
        | true ↦ refl
        | false ↦ entry_at-map f m tag
      ]

  pub is_some-option_map : (f : X → Y) (o : Option X) → is_some (option_map f o) ≡ is_some o
  is_some-option_map f None = refl
  is_some-option_map f (Some x) = refl
