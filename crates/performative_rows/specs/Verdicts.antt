-- How a replay of rows ends.
use Rattle.std.specs.Prelude.{ℕ}
use Rattle.performative_rows.specs.declared.verdict.Verdict.{Verdict}
use Rattle.performative_rows.specs.declared.verdict.Verdict.TheVariants.{Agreed, Disagreed, NotARow, Failed}

-- the exit status
abbrev pub status_of : Verdict → ℕ
status_of Agreed = 0
status_of Disagreed = 1
status_of NotARow = 2
status_of Failed = 3
