-- The states of a delivery (OASIS AMQP 1.0 core, 3.4).
use Rattle.std.specs.Prelude.{Bool, true, false, is_some}
use Rattle.amqp_link_types.specs.declared.types.delivery_state.DeliveryState.{DeliveryState}
use Rattle.amqp_link_types.specs.declared.types.delivery_state.DeliveryState.TheVariants as state
use Rattle.amqp_link_types.specs.declared.types.delivery_state.Outcome.{Outcome}
use Rattle.amqp_link_types.specs.declared.types.delivery_state.Outcome.TheVariants as outcome

-- all states but received are terminal
abbrev pub is_terminal : DeliveryState → Bool
is_terminal (state.Received number offset) = false
is_terminal _ = true

-- whether a state carries an error or annotations
abbrev pub carries_more : DeliveryState → Bool
carries_more (state.Rejected error) = is_some error
carries_more (state.Modified failed undeliverable annotations) = is_some annotations
carries_more _ = false

-- the state that an outcome is
abbrev pub state_of : Outcome → DeliveryState
state_of outcome.Accepted = state.Accepted
state_of (outcome.Rejected error) = state.Rejected error
state_of outcome.Released = state.Released
state_of (outcome.Modified failed undeliverable annotations) =
    state.Modified failed undeliverable annotations
