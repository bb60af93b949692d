use Rattle.std.proofs.Common.{◌≡◌, ◌++◌, ◌∷◌, [], ap, subst, take, map}
use Rattle.amqp_link_dispositions.specs.Groups.{AreGroups, numbered}
use Rattle.amqp_link_dispositions.proofs.GroupLemmas.{one_more}
use Rattle.amqp_link_dispositions.proofs.groups.groups_of.Goals as goal

pub loop-info-preserved : goal.loop-info-preserved
loop-info-preserved c =
    let before = c.loop-info.invariant in
    let rest = c.in-Some.rest.now in
    let done = map numbered (map (λ info. info.now) (before.0 ∷ take c.loop-info.info-index rest)) in
    let item : (c.delivery_id.result, c.rcv_settle_mode-in-loop-info.result) ≡ numbered c.info-item.result.now = cc in
    let more = one_more (λ info. info.now) rest c.loop-info.info-index c.info-item.result _ c.loop-info-test.true c.info-item.is item in (
      before.0,
      before.1,
      subst (λ deliveries. AreGroups deliveries (c.next_group.new.groups.items ++ c.in_ok-current.current ∷ []))
          (ap (λ l. numbered before.0.now ∷ l) more) (c.in_ok-current.ensures done before.2),
    )
