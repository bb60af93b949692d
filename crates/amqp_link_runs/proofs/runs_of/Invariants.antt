use Rattle.std.proofs.Common.{◌≡◌, [], ◌∷◌, ◌++◌, take}
use Rattle.amqp_link_runs.specs.Runs.{AreRuns}
use Rattle.amqp_link_runs.proofs.runs_of.Given as goal

abbrev pub invariant-loop-id : goal.invariant-loop-id
invariant-loop-id l = (first : _) × (l.ids ≡ first ∷ l.rest) × AreRuns (first ∷ take l.id-index l.rest) (l.runs.items ++ l.current ∷ [])
