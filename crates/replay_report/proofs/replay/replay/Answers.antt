use Rattle.replay_report.proofs.ReplayLemmas.{Agreed-not-Failed, AllRowsAgree-Ends}
use Rattle.replay_report.proofs.replay.replay.Goals as goal

pub returns-in-Ok-clause-agreed : goal.returns-in-Ok-clause-agreed
returns-in-Ok-clause-agreed g c = λ agreed.
    let ends = c.in-Ok.ensures (Agreed-not-Failed _ agreed) in
    AllRowsAgree-Ends g.T.RunLine.comes_to g.T.RunLine.stops_at _ _ _ _ agreed ends
