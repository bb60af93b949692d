-- Values of the definitions that were worked out by hand: docs/DEFINITIONS.md lists them.
use Rattle.std.proofs.Common.{◌≡◌, [], ◌∷◌, refl}
use Rattle.amqp_link_ledger.specs.declared.fate.Fate.TheVariants.{Pending, Withdrawn}
use Rattle.amqp_link_ledger.specs.Fates.{after_gone, gone, with_released}

one_released : with_released 1 ((1 ∷ [], Withdrawn) ∷ (2 ∷ [], Pending) ∷ []) ≡ gone ∷ (2 ∷ [], Pending) ∷ []
one_released = refl

-- a number past the last releases all
all_released : with_released 9 ((1 ∷ [], Withdrawn) ∷ []) ≡ gone ∷ []
all_released = refl

two_gone : after_gone 2 ((3 ∷ [], Pending) ∷ []) ≡ gone ∷ gone ∷ (3 ∷ [], Pending) ∷ []
two_gone = refl
