use Rattle.replay_report.proofs.TallyLemmas.{AllByRecursion-agreements}
use Rattle.replay_report.proofs.laws.counts_that_agree_are_of_rows_that_agree.Goals as goal

pub returns : goal.returns
returns c = λ answers agree.
    AllByRecursion-agreements answers agree.refused agree.differing agree.left
