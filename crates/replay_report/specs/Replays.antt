-- How a replay of lines ends. `comes_to state line answer after` states that a line is run as a row: what it has come to, and the
-- state after it; `stops_at state line error` that it is not.
use Rattle.std.specs.Prelude.{◌≡◌, ◌≢◌, ℕ, ◌⊎◌, Bool, true, ◌==◌, List, [], ◌∷◌, Option, IfSome, MatchBool, option_map}
use Rattle.std.specs.Io.BufRead.{drop_through, first_line}
use Rattle.replay_report.specs.declared.answer.Answer.{Answer}
use Rattle.replay_report.specs.declared.answer.StepError.{StepError}
use Rattle.replay_report.specs.declared.answer.StepError.TheVariants.{OutOfMemory}
use Rattle.replay_report.specs.declared.replay.Report.{Report}
use Rattle.replay_report.specs.declared.tally.Tally.{Tally}
use Rattle.performative_rows.specs.declared.verdict.Verdict.{Verdict}
use Rattle.performative_rows.specs.declared.verdict.Verdict.TheVariants.{Agreed, Disagreed, NotARow, Failed}
use Rattle.replay_report.specs.Answers.{IsAgreement}
use Rattle.replay_report.specs.Counting.{AllAgree, tally_after}

-- a line is no row if it is empty or begins with #
abbrev pub is_skipped : List ℕ → Bool
is_skipped [] = true
is_skipped (byte ∷ rest) = byte == 35

-- how a replay ends whose lines are all run: whether all that they state agrees
abbrev pub Concludes : Verdict → Tally → Type 0
Concludes Agreed tally = AllAgree tally
Concludes Disagreed tally = ¬ AllAgree tally
Concludes _ tally = ⊥

-- how it ends at a line that is not run as a row
abbrev pub Stops : StepError → Verdict → Type 0
Stops OutOfMemory verdict = verdict ≡ Failed
Stops _ verdict = verdict ≡ NotARow

-- The bytes that a reader has left are known, or not. Its next line, without its end, is this one.
abbrev pub IsNext : List ℕ → Option (List ℕ) → Type 0
IsNext line known = IfSome known (λ bytes. (bytes ≢ []) × (line ≡ first_line bytes))

-- no line is left
abbrev pub IsAtEnd : Option (List ℕ) → Type 0
IsAtEnd known = IfSome known (λ bytes. bytes ≡ [])

-- the bytes after the next line
abbrev pub after_line : Option (List ℕ) → Option (List ℕ)
after_line known = option_map (drop_through 10) known

-- From this state and with these counts the lines of a reader are run in order. Each counts as what it has come to, and the report
-- is made at the end of the bytes, or at a line that is not run.
abbrev pub EndsAfter : {S : Type 0} → (S → List ℕ → Answer → S → Type 0) → (S → List ℕ → StepError → Type 0)
    → S → Tally → Option (List ℕ) → List (List ℕ) → Report → Type 0
EndsAfter comes_to stops_at state tally known [] report = IsAtEnd known × (report.tally ≡ tally) × Concludes report.verdict tally
EndsAfter comes_to stops_at state tally known (line ∷ lines) report =
    let rest = after_line known in
    let IsRun = (answer : Answer) × (after : _) × comes_to state line answer after
    × EndsAfter comes_to stops_at after (tally_after answer tally) rest lines report in
    let IsNotRun = (error : StepError) × stops_at state line error × (report.tally ≡ tally) × Stops error report.verdict in
    IsNext line known × MatchBool (is_skipped line) (EndsAfter comes_to stops_at state tally rest lines report) (IsRun ⊎ IsNotRun)

-- the same after the lines that are read, whichever they are
abbrev pub Ends : {S : Type 0} → (S → List ℕ → Answer → S → Type 0) → (S → List ℕ → StepError → Type 0)
    → S → Tally → Option (List ℕ) → Report → Type 0
Ends comes_to stops_at state tally known report =
    (lines : List (List ℕ)) × EndsAfter comes_to stops_at state tally known lines report

-- from this state these lines of a reader, up to its end, are run in order, and each row agrees
abbrev pub EachAgrees : {S : Type 0} → (S → List ℕ → Answer → S → Type 0) → S → Option (List ℕ) → List (List ℕ) → Type 0
EachAgrees comes_to state known [] = IsAtEnd known
EachAgrees comes_to state known (line ∷ lines) =
    let rest = after_line known in
    let Agrees = (answer : Answer) × (after : _) × comes_to state line answer after × IsAgreement answer
    × EachAgrees comes_to after rest lines in
    IsNext line known × MatchBool (is_skipped line) (EachAgrees comes_to state rest lines) Agrees

-- the same of the lines that are read
abbrev pub AllRowsAgree : {S : Type 0} → (S → List ℕ → Answer → S → Type 0) → S → Option (List ℕ) → Type 0
AllRowsAgree comes_to state known = (lines : List (List ℕ)) × EachAgrees comes_to state known lines
