use Rattle.std.proofs.Common.{◌≡◌, ◌+◌, ◌≤◌, ◌++◌, length, vec_len, vec_capacity}
use Rattle.std.specs.Prelude.{All}
use Rattle.amqp_link_dispositions.specs.Ending.{closed_for, all_closed}
use Rattle.amqp_link_dispositions.proofs.closing.end_each.Given as goal

-- those that ended and those that are left make the whole, with a reason and room for each
abbrev pub invariant-loop-tag : goal.invariant-loop-tag
invariant-loop-tag l = record {
  ended : l.outcomes.items ++ all_closed l.error l.tag-iterator
      ≡ l.initial.outcomes.items ++ all_closed l.error l.initial.tag-iterator;
  count : vec_len l.reasons ≡ length l.tag-iterator;
  each : All (λ reason. reason ≡ closed_for l.error) l.reasons.items;
  room : vec_len l.outcomes + length l.tag-iterator ≤ vec_capacity l.outcomes;
}
