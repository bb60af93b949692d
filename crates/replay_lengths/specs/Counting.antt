-- How rows are counted.
use Rattle.std.specs.Prelude.{◌≡◌, ℕ, ◌+◌, ◌-◌, ◌^◌, ◌<◌, List, Some, min, slice_index_or}
use Rattle.length_rows.specs.declared.row.Compared.{Compared}
use Rattle.replay_lengths.specs.declared.tally.Tally.{Tally}

-- one more, up to the largest number that can be counted
abbrev pub one_more : ℕ → ℕ
one_more n = min (n + 1) (2 ^ 64 - 1)

-- the tally of a type before and after a row: rows of other types are not counted
pub record IsCounted (row : Compared) (before after : Tally) : Type 0 where
  pub kind : after.kind ≡ before.kind
  pub other : ¬ (before.kind ≡ row.kind) → after ≡ before
  pub rows : before.kind ≡ row.kind → after.rows ≡ one_more before.rows
  pub agreeing : before.kind ≡ row.kind → row.computed ≡ Some row.stated → after.agreed ≡ one_more before.agreed
  pub disagreeing : before.kind ≡ row.kind → ¬ (row.computed ≡ Some row.stated) → after.agreed ≡ before.agreed

-- the same of each of the nine tallies
abbrev pub EachCounted : Compared → List Tally → List Tally → Type 0
EachCounted row before after =
    (at : ℕ) → at < 9 → (tally : Tally) → IsCounted row (slice_index_or before at tally) (slice_index_or after at tally)
