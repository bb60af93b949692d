-- The unsettled deliveries that an attach states (OASIS AMQP 1.0 core, 2.7.3).
use Rattle.std.specs.Prelude.{map, Option}
use Rattle.amqp_link_types.specs.declared.delivery.UnsettledMessage.{UnsettledMessage}
use Rattle.amqp_link_types.specs.declared.types.delivery_state.DeliveryState.{DeliveryState}
use Rattle.amqp_link_types.specs.Entries.{Entries}

-- the tag and the state of each, in order
abbrev pub states_of : Entries UnsettledMessage → Entries (Option DeliveryState)
states_of entries = map (λ entry. (entry.0, entry.1.state)) entries
