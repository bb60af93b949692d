-- Values of the definitions that were worked out by hand: docs/DEFINITIONS.md lists them.
use Rattle.std.proofs.Common.{◌≡◌, ℕ, [], ◌∷◌, refl, arith}
use Rattle.amqp_link_runs.specs.Order.{sorted_by}
use Rattle.amqp_link_runs.specs.Runs.{Runs, written_out}

ids_by_number : sorted_by (λ id. id) (4294967295 ∷ 0 ∷ 4294967294 ∷ []) ≡ 0 ∷ 4294967294 ∷ 4294967295 ∷ []
ids_by_number = refl

pairs_as_listed : sorted_by {A = ℕ × ℕ} (λ pair. pair.0) ((5, 1) ∷ (3, 2) ∷ (5, 3) ∷ []) ≡ (3, 2) ∷ (5, 1) ∷ (5, 3) ∷ []
pairs_as_listed = refl

three_ids : written_out (record { first = 1; last = 3 }) ≡ 1 ∷ 2 ∷ 3 ∷ []
three_ids = refl

-- 2, 5, 1 and 3 are 1 to 3, and 5
two_runs : Runs (2 ∷ 5 ∷ 1 ∷ 3 ∷ []) (record { first = 1; last = 3 } ∷ record { first = 5; last = 5 } ∷ [])
two_runs = record {
  not_empty = (omega arith, (omega arith, tt));
  all = refl;
  longest = ((λ e. absurd (omega (arith, e))), tt);
}
