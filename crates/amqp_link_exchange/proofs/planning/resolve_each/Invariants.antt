use Rattle.std.proofs.Common.{◌≡◌, ◌+◌, ◌≤◌, ◌++◌, vec_len, vec_capacity}
use Rattle.std.specs.Vec.Iter.{into_iter_items}
use Rattle.amqp_link_exchange.specs.Plans.{Pairwise, IsResolvable, resumed_by, ended_by_steps, resumed_count, ended_count}
use Rattle.amqp_link_exchange.proofs.planning.resolve_each.Given as goal

-- what was resolved and what is left make the whole, and there is room for what is left
abbrev pub invariant-loop-tag : goal.invariant-loop-tag
invariant-loop-tag l =
    let pairs = l.tag-iterator in
    let steps = into_iter_items l.steps in
    record {
      able : Pairwise IsResolvable pairs steps;
      list : l.list.items ++ resumed_by pairs steps ≡ l.initial.list.items ++ resumed_by l.initial.tag-iterator (into_iter_items l.initial.steps);
      outcomes : l.outcomes.items ++ ended_by_steps pairs steps ≡ l.initial.outcomes.items ++ ended_by_steps l.initial.tag-iterator (into_iter_items l.initial.steps);
      list_room : vec_len l.list + resumed_count steps ≤ vec_capacity l.list;
      outcome_room : vec_len l.outcomes + ended_count steps ≤ vec_capacity l.outcomes;
      capacity : vec_capacity l.initial.list ≤ vec_capacity l.list;
    }
