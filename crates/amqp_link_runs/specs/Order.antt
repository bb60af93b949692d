-- Lists sorted by the numbers of their elements.
use Rattle.std.specs.Prelude.{ℕ, nat_le, List, [], ◌∷◌, if◌then◌else◌}

module _ {A : Type 0} (id_of : A → ℕ) where
  -- the list with an element before the first whose number is not smaller
  abbrev pub placed : A → List A → List A
  placed a [] = a ∷ []
  placed a (b ∷ bs) = if nat_le (id_of a) (id_of b) then a ∷ b ∷ bs else b ∷ placed a bs

  -- the list sorted by number; elements of one number as they are listed
  abbrev pub sorted_by : List A → List A
  sorted_by [] = []
  sorted_by (a ∷ more) = placed a (sorted_by more)
