use Rattle.std.proofs.Common.{rules, ◌≡◌, ◌≢◌, ◌++◌, ◌∷◌, [], ◌+◌, subst, sym}
use Rattle.amqp_link_dispositions.specs.Groups.{AreGroups}
use Rattle.amqp_link_dispositions.proofs.GroupLemmas.{group, goes_on_to, begins}
use Rattle.amqp_link_dispositions.proofs.groups.next_group.Goals as goal
use Rattle.amqp_link_dispositions.proofs.groups.next_group.Goals.{else-is_same-via-then-is_same+else-eq, else-is_same-via-else-is_same}

pub returns-then-eq : goal.returns-then-eq
returns-then-eq c =
    let next : c.args.id ≡ c.args.current.run.last + 1 = search rules in
    let same : c.args.current.mode ≡ c.args.mode = search rules in
    λ deliveries are. goes_on_to deliveries c.args.groups.now.items c.args.current c.args.id c.args.mode are next same

pub returns : goal.returns
returns c =
    let pushed : c.push.new.self.items ≡ c.args.groups.now.items ++ c.args.current ∷ [] = search rules in
    let breaks : c.args.id ≡ c.args.current.run.last + 1 → c.args.mode ≡ c.args.current.mode → ⊥ =
    elim c.else-is_same.branch [
      | else-is_same-via-then-is_same+else-eq w ↦ λ next _. (let apart : c.args.id ≢ c.args.current.run.last + 1 = search rules in apart next)
      | else-is_same-via-else-is_same w ↦ λ _ same. (let apart : c.args.current.mode ≢ c.args.mode = search rules in apart (sym same))
    ] in
    λ deliveries are. subst (λ items. AreGroups (deliveries ++ (c.args.id, c.args.mode) ∷ []) (items ++ group c.args.id c.args.id c.args.mode ∷ [])) (sym pushed)
    (begins deliveries c.args.groups.now.items c.args.current c.args.id c.args.mode are breaks)
