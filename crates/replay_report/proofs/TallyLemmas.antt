-- What the counts of rows say of each row.
use Rattle.std.proofs.Common.{◌≡◌, List, [], ◌∷◌, Some, None, arith}
use Rattle.std.specs.List.{AllByRecursion}
use Rattle.replay_report.specs.declared.answer.Answer.{Answer}
use Rattle.replay_report.specs.declared.answer.Answer.TheVariants.{Begun, Taken, Refused, Agrees, Differs, Ended}
use Rattle.replay_report.specs.Answers.{IsAgreement}
use Rattle.replay_report.specs.Counting.{tally_of}

-- where no fault is counted there is none
pub AllByRecursion-agreements : (answers : List Answer)
    → (tally_of answers).refused ≡ 0 → (tally_of answers).differing ≡ 0 → (tally_of answers).left ≡ 0
    → AllByRecursion IsAgreement answers
AllByRecursion-agreements [] refused differing left = tt
AllByRecursion-agreements (Begun ∷ earlier) refused differing left =
    (tt, AllByRecursion-agreements earlier refused differing left)
AllByRecursion-agreements (Taken ∷ earlier) refused differing left =
    (tt, AllByRecursion-agreements earlier refused differing left)
AllByRecursion-agreements (Refused reason ∷ earlier) refused differing left = absurd (omega arith)
AllByRecursion-agreements (Agrees ∷ earlier) refused differing left =
    (tt, AllByRecursion-agreements earlier refused differing left)
AllByRecursion-agreements (Differs difference ∷ earlier) refused differing left = absurd (omega arith)
AllByRecursion-agreements (Ended None ∷ earlier) refused differing left =
    (tt, AllByRecursion-agreements earlier refused differing left)
AllByRecursion-agreements (Ended (Some word) ∷ earlier) refused differing left = absurd (omega arith)
