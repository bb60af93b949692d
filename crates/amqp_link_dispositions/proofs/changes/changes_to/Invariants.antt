use Rattle.std.proofs.Common.{◌≡◌, ◌++◌, map, drop}
use Rattle.amqp_link_dispositions.specs.Changes.{StateChange}
use Rattle.amqp_link_dispositions.proofs.changes.changes_to.Given as goal

-- what is copied and what is left make the whole
abbrev pub invariant-loop-tag : goal.invariant-loop-tag
invariant-loop-tag l =
    let done = map {B = StateChange} (λ change. (change.0.now, change.1)) l.changes.items in
    let left = map {B = StateChange} (λ tag. (tag, l.state)) (map (λ tag. tag.now) (drop l.tag-index l.tags)) in
    done ++ left ≡ map {B = StateChange} (λ tag. (tag, l.state)) (map (λ tag. tag.now) l.tags)
