use Rattle.std.proofs.Common.{◌≡◌, ◌++◌, map, drop}
use Rattle.amqp_link_dispositions.specs.DispositionFrames.{disposition_of_run}
use Rattle.amqp_link_dispositions.proofs.sender.frames_of_runs.Given as goal

-- the frames made and those that are left make the whole list
abbrev pub invariant-loop-run : goal.invariant-loop-run
invariant-loop-run l =
    l.frames.items ++ map (disposition_of_run l.settled l.state l.batchable) (drop l.run-index l.runs) ≡ map (disposition_of_run l.settled l.state l.batchable) l.runs
