-- Fields of an attach: what an endpoint states of its own, and what it takes from the peer's (OASIS AMQP 1.0
-- core, 2.7.3).
use Rattle.std.specs.Prelude.{ℕ, Bool, false, List, Option, None, Some, is_none, ◌==◌, ◌&&◌, not, length, min, [], unwrap_or, if◌then◌else◌}
use Rattle.std.specs.Str.{bytes_eq}
use Rattle.indexmap.specs.IndexMap.{insert_all}
use Rattle.amqp_link_state.specs.declared.state.LinkState.{LinkState}
use Rattle.amqp_link_types.specs.declared.types.attach.Attach.{Attach}
use Rattle.amqp_link_types.specs.declared.types.terminus.TargetArchetype.{TargetArchetype}
use Rattle.amqp_link_values.specs.Data.{Data}
use Rattle.amqp_link_endpoint.specs.Attaching.{States}
use Rattle.amqp_link_endpoint.specs.LinkStates.{Call, next_state}

-- the max-message-size that an attach states: none for 0, which is no limit
abbrev pub message_limit : ℕ → Option ℕ
message_limit size = if size == 0 then None else Some size

-- the smaller of two max-message-sizes, where none and 0 are no limit
abbrev pub smaller_limit : ℕ → Option ℕ → ℕ
smaller_limit own None = own
smaller_limit own (Some theirs) =
    if theirs == 0 then own else if own == 0 then theirs else min own theirs

-- the own properties with the peer's put one by one; if one endpoint has none, the other's
abbrev pub merged_properties : Option (List (List ℕ × Data)) → Option (List (List ℕ × Data)) → Option (List (List ℕ × Data))
merged_properties own None = own
merged_properties None (Some theirs) = Some theirs
merged_properties (Some []) (Some theirs) = Some theirs
merged_properties (Some own) (Some theirs) = Some (insert_all bytes_eq own theirs)

-- whether there are properties: an empty map has none, as no map has
abbrev pub has_fields : Option (List (List ℕ × Data)) → Bool
has_fields fields = not (length (unwrap_or fields []) == 0)

-- whether merging properties allocates: both endpoints have some, otherwise one of the two maps is taken
abbrev pub merging_allocates : Option (List (List ℕ × Data)) → Option (List (List ℕ × Data)) → Bool
merging_allocates own theirs = has_fields own && has_fields theirs

-- whether the attach has a target that is not of the link's kind
abbrev pub is_foreign : {T : Type 0} → (TargetArchetype → Option T) → Option TargetArchetype → Bool
is_foreign admitted None = false
is_foreign admitted (Some archetype) = is_none (admitted archetype)

-- the state after an attach has arrived, if there is a transition
abbrev pub next_of : LinkState → Attach → Option LinkState
next_of state attach = next_state Call.IncomingAttach attach.incomplete_unsettled state

-- the unsettled deliveries that an attach states: none if it has no map
abbrev pub remote_entries : Attach → States
remote_entries attach = unwrap_or attach.unsettled []
