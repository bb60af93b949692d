use Rattle.std.proofs.Common.{◌≡◌, map}
use Rattle.std.specs.Vec.Iter.{into_iter_items}
use Rattle.amqp_link_dispositions.specs.Changes.{StateChange, with_states}
use Rattle.amqp_link_dispositions.proofs.changes.set_each.Given as goal

-- what was set and what is left to be make the whole
abbrev pub invariant-loop-tag : goal.invariant-loop-tag
invariant-loop-tag g l =
    with_states g.V.KeepsState.with_state l.unsettled (map {B = StateChange} (λ change. (change.0.now, change.1)) (into_iter_items l.tag-iterator))
    ≡ with_states g.V.KeepsState.with_state l.initial.unsettled (map {B = StateChange} (λ change. (change.0.now, change.1)) (into_iter_items l.initial.tag-iterator))
