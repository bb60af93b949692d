use Rattle.std.proofs.Common.{◌≡◌, ◌+◌, ◌≤◌, ◌++◌, map, drop, length, min, vec_len, vec_capacity}
use Rattle.amqp_link_types.specs.Entries.{without_entries}
use Rattle.amqp_link_dispositions.proofs.EndingLemmas.{in_turn}
use Rattle.amqp_link_dispositions.proofs.changes.settle_all.Given as goal

-- what was settled and what is left to be make the whole, and there is room for what is left
abbrev pub invariant-loop-tag : goal.invariant-loop-tag
invariant-loop-tag l = record {
  removed : without_entries l.unsettled (map (λ tag. tag.now) (drop l.tag-index l.tags)) ≡ without_entries l.initial.unsettled (map (λ tag. tag.now) l.tags);
  ended : l.outcomes.items ++ in_turn l.unsettled (map (λ tag. tag.now) (drop l.tag-index l.tags)) ≡ l.initial.outcomes.items ++ in_turn l.initial.unsettled (map (λ tag. tag.now) l.tags);
  room : vec_len l.outcomes + min (length (drop l.tag-index l.tags)) (length l.unsettled) ≤ vec_capacity l.outcomes;
}
