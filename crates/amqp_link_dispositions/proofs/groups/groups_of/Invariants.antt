use Rattle.std.proofs.Common.{◌≡◌, [], ◌∷◌, ◌++◌, take, map}
use Rattle.amqp_link_dispositions.specs.Groups.{AreGroups, numbered}
use Rattle.amqp_link_dispositions.proofs.groups.groups_of.Given as goal

abbrev pub invariant-loop-info : goal.invariant-loop-info
invariant-loop-info l = (first : _) × (l.infos ≡ first ∷ l.rest)
    × AreGroups (map numbered (map (λ info. info.now) (first ∷ take l.info-index l.rest))) (l.groups.items ++ l.current ∷ [])
