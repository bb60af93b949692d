use Rattle.std.proofs.Common.{◌≡◌, ◌++◌, None, map}
use Rattle.std.specs.Map.Iter.{deref_pair}
use Rattle.amqp_link_exchange.specs.Plans.{Pairwise, IsStepFor}
use Rattle.amqp_link_exchange.proofs.planning.unreported_steps.Given as goal

-- each delivery so far has its step
abbrev pub invariant-loop-entry : goal.invariant-loop-entry
invariant-loop-entry l = record {
  whole : map deref_pair l.yielded ++ l.entry-iterator ≡ l.own;
  each : Pairwise (λ pair step. IsStepFor pair None step) (map deref_pair l.yielded) l.steps.items;
}
