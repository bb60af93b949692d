-- The `SendResult` for the state with which a delivery ended (3.4).
use Rattle.std.specs.Prelude.{Result, Ok, Err}
use Rattle.amqp_link_delivery.specs.declared.outcome.SendError.{SendError}
use Rattle.amqp_link_delivery.specs.declared.outcome.SendError.TheVariants.{NonTerminalDeliveryState}
use Rattle.amqp_link_types.specs.declared.types.delivery_state.DeliveryState.{DeliveryState}
use Rattle.amqp_link_types.specs.declared.types.delivery_state.DeliveryState.TheVariants.{Accepted, Rejected, Released, Modified, Received}
use Rattle.amqp_link_types.specs.declared.types.delivery_state.Outcome.{Outcome}
use Rattle.amqp_link_types.specs.declared.types.delivery_state.Outcome.TheVariants as outcome

-- a terminal state is an outcome; received is none
abbrev pub result_of_state : DeliveryState → Result Outcome SendError
result_of_state Accepted = Ok outcome.Accepted
result_of_state (Rejected error) = Ok (outcome.Rejected error)
result_of_state Released = Ok outcome.Released
result_of_state (Modified failed undeliverable annotations) = Ok (outcome.Modified failed undeliverable annotations)
result_of_state (Received section offset) = Err NonTerminalDeliveryState
