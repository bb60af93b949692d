-- The dispositions of a receiver, and its unsettled map afterwards (OASIS AMQP 1.0 core, 2.6.12).
use Rattle.std.specs.Prelude.{Bool, not, List, [], ◌∷◌, map, Option, None, Some, is_some, if◌then◌else◌}
use Rattle.std.specs.List.{filter}
use Rattle.amqp_link_types.specs.declared.frame.LinkFrame.{LinkFrame}
use Rattle.amqp_link_types.specs.declared.types.definitions.Role.TheVariants as role
use Rattle.amqp_link_types.specs.declared.types.definitions.ReceiverSettleMode.{ReceiverSettleMode}
use Rattle.amqp_link_types.specs.declared.types.delivery_state.DeliveryState.{DeliveryState}
use Rattle.amqp_link_types.specs.Deliveries.{Info}
use Rattle.amqp_link_types.specs.Entries.{Tag, Entries, entry_at, without_entry, without_entries, changed_at}
use Rattle.amqp_link_dispositions.specs.DispositionFrames.{is_settled_by, disposition_frame}

abbrev pub is_settled_one : Option Bool → ReceiverSettleMode → Info → Bool
is_settled_one given own info = is_settled_by given own info.rcv_settle_mode

-- the disposition of one delivery, if it has an entry
abbrev pub disposition_of_one : Option Bool → ReceiverSettleMode → DeliveryState → Bool → Info → Entries (Option DeliveryState) → Option LinkFrame
disposition_of_one given own state batchable info es =
    if is_some (entry_at es info.delivery_tag)
    then Some (disposition_frame role.Receiver info.delivery_id None (is_settled_one given own info) state batchable)
    else None

-- the map after it: a settled delivery is removed, another one has this state
abbrev pub after_one : Bool → DeliveryState → Tag → Entries (Option DeliveryState) → Entries (Option DeliveryState)
after_one settled state t es = if settled then without_entry es t else changed_at (λ _. Some state) (t ∷ []) es

abbrev pub tags_of : List Info → List Tag
tags_of infos = map (λ info. info.delivery_tag) infos

-- the map after several: the others have this state, in their places, and those that are settled are removed,
-- one after the other
abbrev pub after_dispositions : (Info → Bool) → DeliveryState → List Info → Entries (Option DeliveryState) → Entries (Option DeliveryState)
after_dispositions is_settled state infos es =
    without_entries (changed_at (λ _. Some state) (tags_of (filter (λ info. not (is_settled info)) infos)) es)
    (tags_of (filter is_settled infos))

-- the map after the sender's disposition of one delivery: a settled delivery is removed, another one has this
-- state, or none
abbrev pub map_after_sender_disposition : Bool → Option DeliveryState → Tag → Entries (Option DeliveryState) → Entries (Option DeliveryState)
map_after_sender_disposition settled state t es = if settled then without_entry es t else changed_at (λ _. state) (t ∷ []) es
