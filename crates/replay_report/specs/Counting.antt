-- How the rows of a replay are counted.
use Rattle.std.specs.Prelude.{◌≡◌, ℕ, ◌+◌, ◌-◌, ◌^◌, List, [], ◌∷◌, Some, None, min}
use Rattle.replay_report.specs.declared.answer.Answer.{Answer}
use Rattle.replay_report.specs.declared.answer.Answer.TheVariants.{Begun, Taken, Refused, Agrees, Differs, Ended}
use Rattle.replay_report.specs.declared.tally.Tally.{Tally}

-- one more, up to the largest number that can be counted
abbrev pub one_more : ℕ → ℕ
one_more n = min (n + 1) (2 ^ 64 - 1)

-- the counts after a row that has come to this: each row is a row, and of one kind more at most
abbrev pub tally_after : Answer → Tally → Tally
tally_after Begun tally = record tally { rows = one_more tally.rows; traces = one_more tally.traces }
tally_after Taken tally = record tally { rows = one_more tally.rows }
tally_after (Refused reason) tally = record tally { rows = one_more tally.rows; refused = one_more tally.refused }
tally_after Agrees tally = record tally { rows = one_more tally.rows; agreed = one_more tally.agreed }
tally_after (Differs difference) tally = record tally { rows = one_more tally.rows; differing = one_more tally.differing }
tally_after (Ended None) tally = record tally { rows = one_more tally.rows; ended = one_more tally.ended }
tally_after (Ended (Some word)) tally = record tally { rows = one_more tally.rows; left = one_more tally.left }

-- no fact differs, nothing was refused, and each trace has ended with nothing left but flows
pub record AllAgree (tally : Tally) : Type 0 where
  pub differing : tally.differing ≡ 0
  pub refused : tally.refused ≡ 0
  pub left : tally.left ≡ 0
  pub ended : tally.ended ≡ tally.traces

-- the counts before the first row
abbrev pub no_rows : Tally
no_rows = record { rows = 0; refused = 0; agreed = 0; differing = 0; traces = 0; ended = 0; left = 0 }

-- the counts after rows that have come to these, the last of them first
abbrev pub tally_of : List Answer → Tally
tally_of [] = no_rows
tally_of (answer ∷ earlier) = tally_after answer (tally_of earlier)
