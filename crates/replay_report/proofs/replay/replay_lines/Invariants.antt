use Rattle.replay_report.specs.Counting.{no_rows}
use Rattle.replay_report.specs.Replays.{Ends}
use Rattle.replay_report.specs.declared.replay.Report.{Report}
use Rattle.replay_report.proofs.replay.replay_lines.Given as goal

-- however the replay ends from here, it ends so from the beginning
abbrev pub invariant-loop-number : goal.invariant-loop-number
invariant-loop-number g l = (report : Report)
    → Ends g.T.RunLine.comes_to g.T.RunLine.stops_at l.traces l.tally (g.R.Read.remaining l.input) report
    → Ends g.T.RunLine.comes_to g.T.RunLine.stops_at l.initial.traces no_rows (g.R.Read.remaining l.initial.input) report
