-- A receiver's link endpoint as its callers see it (OASIS AMQP 1.0 core, 2.6).
use Rattle.std.specs.Prelude.{Bool, false, [], Option}
use Rattle.amqp_link_types.specs.declared.types.delivery_state.DeliveryState.{DeliveryState}
use Rattle.amqp_link_types.specs.Entries.{Entries}
use Rattle.amqp_link_state.specs.declared.role.ReceiverMarker.{ReceiverMarker}
use Rattle.amqp_link_endpoint.specs.declared.link_parts.LinkParts.{LinkParts}
use Rattle.amqp_link_endpoint.specs.Links.{Endpoint, endpoint_of, inner_of_parts}

-- What a caller sees of a receiver's link endpoint with a target of type T. The last field is whether the last transfer
-- that has arrived since the peer's attach had more = true.
abbrev pub Receiver : Type 0 → Type 0
Receiver T = Endpoint T (Entries (Option DeliveryState)) Bool

-- the endpoint that is made of these parts: not attached, without handles and unsettled deliveries
abbrev pub receiver_of_parts : {T : Type 0} → LinkParts T → Receiver T
receiver_of_parts parts = endpoint_of {R = ReceiverMarker} (inner_of_parts parts) [] false
