-- Runs of delivery ids (OASIS AMQP 1.0 core, 2.7.6): a disposition names a first and a last one.
use Rattle.std.specs.Prelude.{◌≡◌, ◌≢◌, ℕ, ◌+◌, ◌-◌, ◌≤◌, List, [], ◌∷◌, flat_map}
use Rattle.std.specs.List.{range_with_len, AllByRecursion}
use Rattle.amqp_link_runs.specs.Order.{sorted_by}
use Rattle.amqp_link_runs.specs.declared.Run.{Run}

-- R holds of each two neighbours
abbrev pub Neighbours : {A : Type 0} → (A → A → Type 0) → List A → Type 0
Neighbours R [] = Unit {0}
Neighbours R (a ∷ []) = Unit {0}
Neighbours R (a ∷ b ∷ more) = R a b × Neighbours R (b ∷ more)

-- the ids from the first to the last, both included
abbrev pub written_out : Run → List ℕ
written_out run = range_with_len run.first (run.last + 1 - run.first)

-- the second run does not begin with the number after the first run's last
abbrev pub Apart : Run → Run → Type 0
Apart run next = next.first ≢ run.last + 1

-- The runs written out are the ids in order, and no two neighbours could be joined.
pub record AreRuns (ids : List ℕ) (runs : List Run) : Type 0 where
  pub not_empty : AllByRecursion (λ run. run.first ≤ run.last) runs
  pub all : flat_map written_out runs ≡ ids
  pub longest : Neighbours Apart runs

-- the same of ids in any order: they are sorted first, each as often as it is listed
abbrev pub Runs : List ℕ → List Run → Type 0
Runs ids runs = AreRuns (sorted_by (λ id. id) ids) runs
