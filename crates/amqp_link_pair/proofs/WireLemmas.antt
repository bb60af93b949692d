-- Facts on lists that the wire needs.
use Rattle.std.proofs.Common.{◌≡◌, suc, List, ◌∷◌, subst, arith, All}

-- what holds of all holds of the rest
pub rest_of_all : {X : Type 0} (P : X → Type 0) (xs : List X) (x : X) (rest : List X) → xs ≡ x ∷ rest → All P xs → All P rest
rest_of_all P xs x rest e all k d h = subst (All P) e all (suc k) d (omega arith)
