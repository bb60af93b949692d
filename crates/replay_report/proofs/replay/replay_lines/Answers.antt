use Rattle.std.proofs.Common.{◌∙◌, ap, subst, sym}
use Rattle.replay_report.specs.Replays.{Ends, is_skipped}
use Rattle.replay_report.proofs.ReplayLemmas.{Ends-end, Ends-row, Ends-skipped, Ends-stop, IfOk-both, IsNext-read}
use Rattle.replay_report.proofs.replay.replay_lines.Goals as goal

pub returns-then-not-branch : goal.returns-then-not-branch
returns-then-not-branch g c =
    IfOk-both c.conclude.result c.conclude.ensures.tally c.conclude.ensures.verdict (λ report counted concludes _.
    c.loop-number.invariant report (Ends-end g.T.RunLine.comes_to g.T.RunLine.stops_at _ _ _ report _
    c.in_ok-read_line.ensures.end c.if-not-branch.true counted concludes))

pub loop-number-preserved-then-is_skipped : goal.loop-number-preserved-then-is_skipped
loop-number-preserved-then-is_skipped g c = λ report ends.
    let read = c.in_ok-read_line.ensures in
    let next = IsNext-read _ _ _ read.end c.if-not-branch.false read.line in
    let skipped = ap is_skipped (sym c.as_slice.ensures.value) ∙ sym c.if-is_skipped.ensures in
    c.loop-number.invariant report
    (Ends-skipped g.T.RunLine.comes_to g.T.RunLine.stops_at _ _ _ _ report _ next read.rest skipped ends)

pub returns-in-Err : goal.returns-in-Err
returns-in-Err g c =
    let read = c.in_ok-read_line.ensures in
    let next = IsNext-read _ _ _ read.end c.if-not-branch.false read.line in
    let skipped = ap is_skipped (sym c.as_slice.ensures.value) ∙ sym c.if-is_skipped.ensures in
    let stop = subst (λ line. g.T.RunLine.stops_at c.loop-number.traces line c.in-Err.error)
    c.as_slice-in-loop-number.ensures.value c.in-Err.ensures.err in
    IfOk-both c.stop.result c.stop.ensures.tally c.stop.ensures.verdict (λ report counted stops _.
    c.loop-number.invariant report
    (Ends-stop g.T.RunLine.comes_to g.T.RunLine.stops_at _ _ _ report _ _ next skipped stop counted stops))

pub loop-number-preserved : goal.loop-number-preserved
loop-number-preserved g c = λ report ends.
    let read = c.in_ok-read_line.ensures in
    let next = IsNext-read _ _ _ read.end c.if-not-branch.false read.line in
    let skipped = ap is_skipped (sym c.as_slice.ensures.value) ∙ sym c.if-is_skipped.ensures in
    let run = subst (λ line. g.T.RunLine.comes_to c.loop-number.traces line c.in-Ok.answer c.run_line.new.self)
    c.as_slice-in-loop-number.ensures.value c.in-Ok.ensures.ok in
    let counted = subst (λ tally. Ends g.T.RunLine.comes_to g.T.RunLine.stops_at c.run_line.new.self tally
    (g.R.Read.remaining c.read_line.new.input) report) c.with_row-tally.ensures ends in
    c.loop-number.invariant report
    (Ends-row g.T.RunLine.comes_to g.T.RunLine.stops_at _ _ _ _ _ report _ _ next read.rest skipped run counted)
