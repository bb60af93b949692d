use Rattle.std.proofs.Common.{◌≡◌, map, drop}
use Rattle.amqp_link_types.specs.Entries.{without_entries}
use Rattle.amqp_link_dispositions.proofs.changes.remove_all.Given as goal

-- what was removed and what is left to be make the whole
abbrev pub invariant-loop-tag : goal.invariant-loop-tag
invariant-loop-tag g l =
    without_entries l.unsettled (map (λ tag. tag.now) (drop l.tag-index l.tags)) ≡ without_entries l.initial.unsettled (map (λ tag. tag.now) l.tags)
