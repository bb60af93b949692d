use Rattle.std.proofs.Common.{◌≡◌, ◌+◌, ◌≤◌, ◌++◌, length, vec_len, vec_capacity}
use Rattle.amqp_link_endpoint.specs.Shown.{all_illegal}
use Rattle.amqp_link_endpoint.proofs.link_role.SenderMarkerLinkRole.end_all.Given as goal

-- what is ended and what is left make the whole, and there is room for what is left
abbrev pub invariant-loop-tag : goal.invariant-loop-tag
invariant-loop-tag l = record {
  items : l.outcomes.items ++ all_illegal l.tag-iterator ≡ l.initial.outcomes.items ++ all_illegal l.initial.tag-iterator;
  room : vec_len l.outcomes + length (all_illegal l.tag-iterator) ≤ vec_capacity l.outcomes;
}
