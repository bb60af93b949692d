use Rattle.std.proofs.Common.{◌++◌, ◌∷◌, [], subst, sym, take}
use Rattle.std.proofs.lemmas.List.{take_more}
use Rattle.amqp_link_runs.specs.Runs.{AreRuns}
use Rattle.amqp_link_runs.proofs.runs_of.Goals as goal

pub loop-id-preserved : goal.loop-id-preserved
loop-id-preserved c =
    let before = c.loop-id.invariant in
    let after = c.in_ok-current.ensures (before.0 ∷ take c.loop-id.id-index c.in-Some.rest.now) before.2 in (
      before.0,
      before.1,
      subst (λ xs. AreRuns (before.0 ∷ xs) (c.next_run.new.runs.items ++ c.in_ok-current.current ∷ []))
          (sym (take_more c.in-Some.rest.now c.loop-id.id-index 0 c.loop-id-test.true)) after,
    )
