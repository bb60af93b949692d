-- What a copy allocates: whether a value carries anything that is copied into memory of its own. Of a delivery's
-- state, see `carries_more` of DeliveryStates.
use Rattle.std.specs.Prelude.{Bool, false, ◌||◌, Result, Ok, Err, Option}
use Rattle.std.specs.Option.{option_map_or}
use Rattle.amqp_link_values.specs.Copies.{carries_any, tag_carries_more}
use Rattle.amqp_link_types.specs.DeliveryStates.{carries_more, state_of}
use Rattle.amqp_link_types.specs.declared.types.attach.Attach.{Attach}
use Rattle.amqp_link_types.specs.declared.types.definitions.Error.{Error}
use Rattle.amqp_link_types.specs.declared.types.delivery_state.DeliveryState.{DeliveryState}
use Rattle.amqp_link_types.specs.declared.types.delivery_state.Outcome.{Outcome}
use Rattle.amqp_link_types.specs.declared.types.errors.LinkStateError.{LinkStateError}
use Rattle.amqp_link_types.specs.declared.types.errors.LinkStateError.TheVariants as refused
use Rattle.amqp_link_types.specs.declared.types.performatives.Detach.{Detach}
use Rattle.amqp_link_types.specs.declared.types.performatives.Disposition.{Disposition}
use Rattle.amqp_link_types.specs.declared.types.performatives.LinkFlow.{LinkFlow}
use Rattle.amqp_link_types.specs.declared.types.stop_reason.ConnectionStopReason.{ConnectionStopReason}
use Rattle.amqp_link_types.specs.declared.types.stop_reason.ConnectionStopReason.TheVariants as connection
use Rattle.amqp_link_types.specs.declared.types.stop_reason.SessionStopReason.{SessionStopReason}
use Rattle.amqp_link_types.specs.declared.types.stop_reason.SessionStopReason.TheVariants as session
use Rattle.amqp_link_types.specs.declared.types.terminus.Source.{Source}
use Rattle.amqp_link_types.specs.declared.types.terminus.Target.{Target}
use Rattle.amqp_link_types.specs.declared.types.terminus.TargetArchetype.{TargetArchetype}
use Rattle.amqp_link_types.specs.declared.types.terminus.TargetArchetype.TheVariants as archetype
use Rattle.amqp_link_types.specs.declared.types.transfer.Transfer.{Transfer}

-- ---- errors and outcomes

-- an error (2.8.14)
abbrev pub error_carries_more : Error → Bool
error_carries_more e =
    carries_any e.condition
    || option_map_or carries_any e.description false
    || option_map_or carries_any e.info false

-- why a connection has stopped: an error
abbrev pub connection_stop_carries_more : ConnectionStopReason → Bool
connection_stop_carries_more connection.Closed = false
connection_stop_carries_more (connection.RemoteClosedWithError e) = error_carries_more e

-- why a session has stopped: its connection has
abbrev pub session_stop_carries_more : SessionStopReason → Bool
session_stop_carries_more session.Ended = false
session_stop_carries_more (session.ConnectionStopped reason) = connection_stop_carries_more reason

-- why a call was refused: the peer's error, or why the session has stopped
abbrev pub refusal_carries_more : LinkStateError → Bool
refusal_carries_more (refused.RemoteDetachedWithError e) = error_carries_more e
refusal_carries_more (refused.RemoteClosedWithError e) = error_carries_more e
refusal_carries_more (refused.SessionStopped reason) = session_stop_carries_more reason
refusal_carries_more _ = false

-- an outcome (3.4): what its state carries
abbrev pub outcome_carries_more : Outcome → Bool
outcome_carries_more outcome = carries_more (state_of outcome)

-- the outcome of a delivery, or why there is none
abbrev pub result_carries_more : Result (Option DeliveryState) LinkStateError → Bool
result_carries_more (Ok state) = option_map_or carries_more state false
result_carries_more (Err e) = refusal_carries_more e

-- ---- termini

-- a source (3.5.3)
abbrev pub source_carries_more : Source → Bool
source_carries_more s =
    option_map_or carries_any s.address false
    || option_map_or carries_any s.dynamic_node_properties false
    || option_map_or carries_any s.filter false
    || option_map_or outcome_carries_more s.default_outcome false
    || option_map_or carries_any s.outcomes false
    || option_map_or carries_any s.capabilities false

-- a target (3.5.4)
abbrev pub target_carries_more : Target → Bool
target_carries_more t =
    option_map_or carries_any t.address false
    || option_map_or carries_any t.dynamic_node_properties false
    || option_map_or carries_any t.capabilities false

-- a target of any kind
abbrev pub archetype_carries_more : TargetArchetype → Bool
archetype_carries_more (archetype.Target t) = target_carries_more t

-- ---- performatives

-- an attach (2.7.3)
abbrev pub attach_carries_more : Attach → Bool
attach_carries_more a =
    carries_any a.name
    || option_map_or source_carries_more a.source false
    || option_map_or archetype_carries_more a.target false
    || option_map_or carries_any a.unsettled false
    || option_map_or carries_any a.offered_capabilities false
    || option_map_or carries_any a.desired_capabilities false
    || option_map_or carries_any a.properties false

-- a flow (2.7.4)
abbrev pub flow_carries_more : LinkFlow → Bool
flow_carries_more f = option_map_or carries_any f.properties false

-- a transfer (2.7.5)
abbrev pub transfer_carries_more : Transfer → Bool
transfer_carries_more t =
    option_map_or tag_carries_more t.delivery_tag false || option_map_or carries_more t.state false

-- a disposition (2.7.6)
abbrev pub disposition_carries_more : Disposition → Bool
disposition_carries_more d = option_map_or carries_more d.state false

-- a detach (2.7.7)
abbrev pub detach_carries_more : Detach → Bool
detach_carries_more d = option_map_or error_carries_more d.error false
