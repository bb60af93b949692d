use Rattle.std.proofs.Common.{◌≡◌, ◌++◌, ℕ, map, drop, is_some}
use Rattle.std.specs.List.{filter}
use Rattle.amqp_link_types.specs.Deliveries.{Info}
use Rattle.amqp_link_types.specs.Entries.{entry_at}
use Rattle.amqp_link_dispositions.proofs.receiver.kept_in_order.Given as goal

-- what is taken up and what is left make the whole
abbrev pub invariant-loop-info : goal.invariant-loop-info
invariant-loop-info l =
    let done = map {B = ℕ × Info} (λ pair. (pair.0, pair.1.now)) l.kept.items in
    let is_kept = λ (info : Info). is_some (entry_at l.unsettled info.delivery_tag) in
    let left = map {B = ℕ × Info} (λ info. (info.delivery_id, info)) (filter is_kept (drop l.info-index l.infos)) in
    done ++ left ≡ map {B = ℕ × Info} (λ info. (info.delivery_id, info)) (filter is_kept l.infos)
