use Rattle.std.proofs.Common.{◌≡◌, ◌++◌, length, map}
use Rattle.std.specs.Slice.Iter.{iter_rest}
use Rattle.amqp_link_exchange.specs.Plans.{ended_by_steps}
use Rattle.amqp_link_exchange.proofs.planning.copies_by.Given as goal

-- what was copied and what is left make the whole
abbrev pub invariant-loop-entry : goal.invariant-loop-entry
invariant-loop-entry l = record {
  each : length (iter_rest l.steps) ≡ length l.entry-iterator;
  whole : l.copies.items ++ map (λ ended. ended.1) (ended_by_steps l.entry-iterator (iter_rest l.steps))
      ≡ map (λ ended. ended.1) (ended_by_steps l.initial.entry-iterator (iter_rest l.initial.steps));
}
