use Rattle.std.proofs.Common.{◌<◌, ◌≢◌, ℕ, List, length, slice_index_or, arith, sym, get_or-set_other, get_or-set_same, below_more}
use Rattle.std.proofs.lemmas.List.{get_or_default, length-set}
use Rattle.replay_lengths.specs.Counting.{IsCounted}
use Rattle.length_rows.specs.declared.row.Compared.{Compared}
use Rattle.replay_lengths.specs.declared.tally.Tally.{Tally}
use Rattle.replay_lengths.proofs.tally.Tallies.count.Goals as goal

-- what is read at an index does not depend on the default
counted_at : (row : Compared) (tallies : List Tally) (at : ℕ) (default tally after : Tally) → at < length tallies
    → IsCounted row (slice_index_or tallies at default) after
    → IsCounted row (slice_index_or tallies at tally) after
counted_at row tallies at default tally after within counted = rw (get_or_default tallies at tally default within) counted

pub loop-tally-preserved : goal.loop-tally-preserved
loop-tally-preserved c =
    let within : c.loop-tally.tally-index < length c.loop-tally.tally-items = rw (c.loop-tally.invariant.1) c.loop-tally-test.true in (
      below_more _ _
          (λ at before. λ tally.
          let apart : at ≢ c.loop-tally.tally-index = omega arith in
          rw (get_or-set_other _ _ _ _ _ apart) (c.loop-tally.invariant.0 at before tally))
          (λ tally.
          let ahead = c.loop-tally.invariant.2 c.loop-tally.tally-index (omega arith) tally in
          rw (get_or-set_same _ _ _ _ within, sym ahead) (counted_at _ _ _ _ tally _ within c.with_row.ensures)),
      rw (length-set) c.loop-tally.invariant.1,
      λ at behind. λ tally.
          let apart : at ≢ c.loop-tally.tally-index = omega arith in
          rw (get_or-set_other _ _ _ _ _ apart) (c.loop-tally.invariant.2 at (omega arith) tally),
    )
