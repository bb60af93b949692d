-- Of two parts that may be absent, one that is there and whose copy may be out of memory.
use Rattle.std.proofs.Common.{◌≡◌, ◌⊎◌, inl, inr, ◌||◌, refl, Bool, true, false, Option, Some, None, IsSomeAnd}
use Rattle.std.proofs.lemmas.Bool.{or_left, or_right}
use Rattle.std.specs.Option.{option_map_or}

is_true : (b : Bool) → ¬ (b ≡ false) → b ≡ true
is_true true h = refl
is_true false h = absurd (h refl)

part_carries : {A : Type 0} (X : A → Bool) (o : Option A) → IsSomeAnd o (λ a. ¬ (X a ≡ false)) →
    option_map_or X o false ≡ true
part_carries X None h = absurd h
part_carries X (Some a) h = is_true (X a) h

-- the last two of several parts
pub last_carry : {A B : Type 0} (rest : Bool) (X : A → Bool) (Y : B → Bool) (o : Option A) (p : Option B) →
    (IsSomeAnd o (λ a. ¬ (X a ≡ false)) ⊎ IsSomeAnd p (λ b. ¬ (Y b ≡ false))) →
    ((rest || option_map_or X o false) || option_map_or Y p false) ≡ true
last_carry rest X Y o p (inl h) = or_left _ _ (or_right rest _ (part_carries X o h))
last_carry rest X Y o p (inr h) = or_right _ _ (part_carries Y p h)
