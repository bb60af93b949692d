-- How a replay goes on by one line, and what its counts say of its rows.
use Rattle.std.proofs.Common.{◌≡◌, ◌≢◌, ℕ, ◌↔◌, Bool, true, false, List, [], ◌∷◌, Option, Some, None, IfSome, Result, Ok, Err, IfOk, MatchBool, ◌⊎◌, inl, inr, sym, ◌∙◌, subst, arith}
use Rattle.std.proofs.lemmas.Bool.{true≢false}
use Rattle.std.specs.Io.BufRead.{DropsThrough, first_line}
use Rattle.replay_report.specs.declared.answer.Answer.{Answer}
use Rattle.replay_report.specs.declared.answer.Answer.TheVariants.{Begun, Taken, Refused, Agrees, Differs, Ended}
use Rattle.replay_report.specs.declared.answer.StepError.{StepError}
use Rattle.replay_report.specs.declared.answer.StepError.TheVariants.{NotARow, NoLink, OtherRole, OutOfMemory}
use Rattle.replay_report.specs.declared.replay.Report.{Report}
use Rattle.replay_report.specs.declared.tally.Tally.{Tally}
use Rattle.performative_rows.specs.declared.verdict.Verdict.{Verdict}
use Rattle.performative_rows.specs.declared.verdict.Verdict.TheVariants.{Agreed, Failed}
use Rattle.replay_report.specs.Answers.{IsAgreement}
use Rattle.replay_report.specs.Counting.{AllAgree, tally_after}
use Rattle.replay_report.specs.Replays.{AllRowsAgree, Concludes, EachAgrees, Ends, EndsAfter, IsNext, Stops, after_line, is_skipped}

-- what two facts say of a value that there is
pub IfOk-both : {A X : Type 0} {P Q R : A → Type 0} (result : Result A X)
    → IfOk result P → IfOk result Q → ((value : A) → P value → Q value → R value) → IfOk result R
IfOk-both (Ok value) p q both = both value p q
IfOk-both (Err error) p q both = tt

pub Agreed-not-Failed : (verdict : Verdict) → verdict ≡ Agreed → verdict ≢ Failed
Agreed-not-Failed verdict agreed = λ failed. absurd (grind arith)

-- what follows in either case
pub MatchBool-map : {P Q P' Q' : Type 0} (b : Bool) → (P → P') → (Q → Q') → MatchBool b P Q → MatchBool b P' Q'
MatchBool-map true f g holds = f holds
MatchBool-map false f g holds = g holds

-- a line that is read is the next one
pub IsNext-read : (known : Option (List ℕ)) (line : List ℕ) (is_line : Bool)
    → IfSome known (λ bytes. (is_line ≡ false) ↔ (bytes ≡ [])) → is_line ≡ true
    → IfSome known (λ bytes. line ≡ first_line bytes) → IsNext line known
IsNext-read None line is_line end some is_first = tt
IsNext-read (Some bytes) line is_line end some is_first = ((λ none. true≢false (sym some ∙ end.1 none)), is_first)

module _ {S : Type 0} (comes_to : S → List ℕ → Answer → S → Type 0) (stops_at : S → List ℕ → StepError → Type 0) where
  -- less is stated where the bytes are not known
  EndsAfter-unknown : (state : S) (tally : Tally) (known : Option (List ℕ)) (lines : List (List ℕ)) (report : Report)
      → EndsAfter comes_to stops_at state tally known lines report → EndsAfter comes_to stops_at state tally None lines report
  EndsAfter-unknown state tally known [] report (end, counted, concludes) = (tt, counted, concludes)
  EndsAfter-unknown state tally known (line ∷ lines) report (next, ends) = (
    tt,
    MatchBool-map (is_skipped line)
        (λ skipped. EndsAfter-unknown state tally (after_line known) lines report skipped)
        (λ run. elim run [
          | inl ran ↦ inl (ran.0, ran.1, ran.2, EndsAfter-unknown ran.1 (tally_after ran.0 tally) (after_line known) lines report ran.3)
          | inr stop ↦ inr stop
        ])
        ends,
  )

  -- what is left after a line that is read
  EndsAfter-rest : (state : S) (tally : Tally) (known rest : Option (List ℕ)) (lines : List (List ℕ)) (report : Report)
      → DropsThrough known rest 10 → EndsAfter comes_to stops_at state tally rest lines report
      → EndsAfter comes_to stops_at state tally (after_line known) lines report
  EndsAfter-rest state tally None rest lines report drops ends = EndsAfter-unknown state tally rest lines report ends
  EndsAfter-rest state tally (Some bytes) rest lines report drops ends =
      subst (λ left. EndsAfter comes_to stops_at state tally left lines report) drops ends

  -- at the end of the lines
  pub Ends-end : (state : S) (tally : Tally) (known : Option (List ℕ)) (report : Report) (is_line : Bool)
      → IfSome known (λ bytes. (is_line ≡ false) ↔ (bytes ≡ [])) → is_line ≡ false
      → report.tally ≡ tally → Concludes report.verdict tally → Ends comes_to stops_at state tally known report
  Ends-end state tally None report is_line end none counted concludes = ([], (tt, counted, concludes))
  Ends-end state tally (Some bytes) report is_line end none counted concludes = ([], (end.0 none, counted, concludes))

  -- at a line that is no row
  pub Ends-skipped : (state : S) (tally : Tally) (known rest : Option (List ℕ)) (report : Report) (line : List ℕ)
      → IsNext line known → DropsThrough known rest 10 → is_skipped line ≡ true
      → Ends comes_to stops_at state tally rest report → Ends comes_to stops_at state tally known report
  Ends-skipped state tally known rest report line next drops skipped (lines, ends) =
      let later = EndsAfter-rest state tally known rest lines report drops ends in
      (line ∷ lines, (next, rw skipped later))

  -- at a row
  pub Ends-row : (state after : S) (tally : Tally) (known rest : Option (List ℕ)) (report : Report) (line : List ℕ) (answer : Answer)
      → IsNext line known → DropsThrough known rest 10 → is_skipped line ≡ false → comes_to state line answer after
      → Ends comes_to stops_at after (tally_after answer tally) rest report → Ends comes_to stops_at state tally known report
  Ends-row state after tally known rest report line answer next drops skipped run (lines, ends) =
      let later = EndsAfter-rest after (tally_after answer tally) known rest lines report drops ends in
      (line ∷ lines, (next, rw skipped (inl (answer, after, run, later))))

  -- at a line that is not run as a row
  pub Ends-stop : (state : S) (tally : Tally) (known : Option (List ℕ)) (report : Report) (line : List ℕ) (error : StepError)
      → IsNext line known → is_skipped line ≡ false → stops_at state line error → report.tally ≡ tally
      → Stops error report.verdict → Ends comes_to stops_at state tally known report
  Ends-stop state tally known report line error next skipped stop counted stops =
      (line ∷ [], (next, rw skipped (inr (error, stop, counted, stops))))

-- nothing that does not agree is counted
record NoFault (tally : Tally) : Type 0 where
  pub refused : tally.refused ≡ 0
  pub differing : tally.differing ≡ 0
  pub left : tally.left ≡ 0

-- so the last answer agrees, and there was none before it
NoFault-after : (answer : Answer) (tally : Tally) → NoFault (tally_after answer tally) → IsAgreement answer × NoFault tally
NoFault-after Begun tally none = (tt, record { refused = none.refused; differing = none.differing; left = none.left })
NoFault-after Taken tally none = (tt, record { refused = none.refused; differing = none.differing; left = none.left })
NoFault-after (Refused reason) tally none = absurd (omega (arith, none.refused))
NoFault-after Agrees tally none = (tt, record { refused = none.refused; differing = none.differing; left = none.left })
NoFault-after (Differs difference) tally none = absurd (omega (arith, none.differing))
NoFault-after (Ended None) tally none = (tt, record { refused = none.refused; differing = none.differing; left = none.left })
NoFault-after (Ended (Some word)) tally none = absurd (omega (arith, none.left))

-- a replay that ends at a line that is not run does not agree
Stops-Agreed : (error : StepError) (verdict : Verdict) → Stops error verdict → verdict ≡ Agreed → ⊥
Stops-Agreed NotARow verdict stops agreed = absurd (grind arith)
Stops-Agreed NoLink verdict stops agreed = absurd (grind arith)
Stops-Agreed OtherRole verdict stops agreed = absurd (grind arith)
Stops-Agreed OutOfMemory verdict stops agreed = absurd (grind arith)

module _ {S : Type 0} (comes_to : S → List ℕ → Answer → S → Type 0) (stops_at : S → List ℕ → StepError → Type 0) where
  -- at one line, if it is so of those after it
  EachAgrees-line : (state : S) (tally : Tally) (line : List ℕ) (rest : Option (List ℕ)) (lines : List (List ℕ)) (report : Report)
      (is_skipped : Bool)
      → report.verdict ≡ Agreed
      → ((later : S) (counted : Tally) → EndsAfter comes_to stops_at later counted rest lines report
      → NoFault counted × EachAgrees comes_to later rest lines)
      → MatchBool is_skipped (EndsAfter comes_to stops_at state tally rest lines report)
      (((answer : Answer) × (after : S) × comes_to state line answer after
      × EndsAfter comes_to stops_at after (tally_after answer tally) rest lines report)
      ⊎ ((error : StepError) × stops_at state line error × (report.tally ≡ tally) × Stops error report.verdict))
      → NoFault tally × MatchBool is_skipped (EachAgrees comes_to state rest lines)
      ((answer : Answer) × (after : S) × comes_to state line answer after × IsAgreement answer × EachAgrees comes_to after rest lines)
  EachAgrees-line state tally line rest lines report true agreed of_lines ends = of_lines state tally ends
  EachAgrees-line state tally line rest lines report false agreed of_lines (inl (answer, after, run, ends)) =
      let (none, each) = of_lines after (tally_after answer tally) ends in
      let (agrees, none_before) = NoFault-after answer tally none in
      (none_before, (answer, after, run, agrees, each))
  EachAgrees-line state tally line rest lines report false agreed of_lines (inr (error, stop, counted, stops)) =
      absurd (Stops-Agreed error report.verdict stops agreed)

  -- of a replay that agrees each row agrees
  EachAgrees-EndsAfter : (state : S) (tally : Tally) (known : Option (List ℕ)) (lines : List (List ℕ)) (report : Report)
      → report.verdict ≡ Agreed → EndsAfter comes_to stops_at state tally known lines report
      → NoFault tally × EachAgrees comes_to state known lines
  EachAgrees-EndsAfter state tally known [] report agreed (end, counted, concludes) =
      let all : AllAgree tally = subst (λ verdict. Concludes verdict tally) agreed concludes in
      (record { refused = all.refused; differing = all.differing; left = all.left }, end)
  EachAgrees-EndsAfter state tally known (line ∷ lines) report agreed (next, ends) =
      let (none, each) = EachAgrees-line state tally line (after_line known) lines report (is_skipped line) agreed
      (λ later counted. EachAgrees-EndsAfter later counted (after_line known) lines report agreed) ends in
      (none, (next, each))

  pub AllRowsAgree-Ends : (state : S) (tally : Tally) (known : Option (List ℕ)) (report : Report) → report.verdict ≡ Agreed
      → Ends comes_to stops_at state tally known report → AllRowsAgree comes_to state known
  AllRowsAgree-Ends state tally known report agreed (lines, ends) =
      (lines, (EachAgrees-EndsAfter state tally known lines report agreed ends).1)
