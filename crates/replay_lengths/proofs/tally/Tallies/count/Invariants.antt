use Rattle.std.proofs.Common.{◌≡◌, ◌<◌, ◌≤◌, ℕ, length, slice_index_or}
use Rattle.replay_lengths.specs.Counting.{IsCounted}
use Rattle.replay_lengths.specs.declared.tally.Tally.{Tally}
use Rattle.replay_lengths.proofs.tally.Tallies.count.Given as goal

-- what is passed is counted, and what is ahead is as it was
abbrev pub invariant-loop-tally : goal.invariant-loop-tally
invariant-loop-tally l =
    ((at : ℕ) → at < l.tally-index → (tally : Tally) → IsCounted l.compared (slice_index_or l.initial.tally-items at tally) (slice_index_or l.tally-items at tally))
    × (length l.tally-items ≡ 9)
    × ((at : ℕ) → l.tally-index ≤ at → (tally : Tally) → slice_index_or l.tally-items at tally ≡ slice_index_or l.initial.tally-items at tally)
