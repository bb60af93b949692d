-- What to do after an attach has failed (OASIS AMQP 1.0 core, 2.6.3, 2.5.4, 2.8.14, 2.8.15 and
-- 2.8.17).
use Rattle.std.specs.Prelude.{ℕ, Bool, true, false, ◌&&◌, List, Option, Some, None, is_some, if◌then◌else◌, codes}
use Rattle.amqp_link_state.specs.declared.state.LinkState.{LinkState}
use Rattle.amqp_link_types.specs.declared.types.definitions.Error.{Error}
use Rattle.amqp_link_types.specs.declared.types.definitions.OutputHandle.{OutputHandle}
use Rattle.amqp_link_types.specs.declared.types.errors.ReceiverAttachError.{ReceiverAttachError}
use Rattle.amqp_link_types.specs.declared.types.errors.ReceiverAttachError.TheVariants as receiver
use Rattle.amqp_link_types.specs.declared.types.errors.SenderAttachError.{SenderAttachError}
use Rattle.amqp_link_types.specs.declared.types.errors.SenderAttachError.TheVariants as sender
use Rattle.amqp_link_endpoint.specs.declared.endpoint.failing.Action.{Action}
use Rattle.amqp_link_endpoint.specs.declared.endpoint.failing.Action.TheVariants as action
use Rattle.amqp_link_endpoint.specs.declared.endpoint.failing.Condition.{Condition}
use Rattle.amqp_link_endpoint.specs.declared.endpoint.failing.Condition.TheVariants.{NotImplemented, InvalidField}
use Rattle.amqp_link_endpoint.specs.declared.endpoint.failing.Remedy.{Remedy}
use Rattle.amqp_link_endpoint.specs.declared.endpoint.failing.Remedy.TheVariants as remedy
use Rattle.amqp_link_endpoint.specs.Detaching.{detach_frame}
use Rattle.amqp_link_endpoint.specs.LinkStates.{Call, next_state}

-- a condition as it is written
abbrev pub condition_text : Condition → List ℕ
condition_text NotImplemented = codes "amqp:not-implemented"
condition_text InvalidField = codes "amqp:invalid-field"

-- the error with which a session ends because the name of a link is in use
abbrev pub handle_in_use : Error
handle_in_use = record {
  condition = codes "amqp:session:handle-in-use";
  description = Some (codes "Link name is in use");
  info = None;
}

-- what follows from an error of a sender's attach
abbrev pub sender_remedy : SenderAttachError → Remedy
sender_remedy sender.DuplicatedLinkName = remedy.EndSession
sender_remedy sender.SndSettleModeNotSupported = remedy.Close None
sender_remedy sender.IncomingTargetIsNone = remedy.Close None
sender_remedy sender.CoordinatorIsNotImplemented = remedy.Close (Some NotImplemented)
sender_remedy sender.SourceAddressIsSomeWhenDynamicIsTrue = remedy.Close (Some InvalidField)
sender_remedy sender.TargetAddressIsNoneWhenDynamicIsTrue = remedy.Close (Some InvalidField)
sender_remedy sender.DynamicNodePropertiesIsSomeWhenDynamicIsFalse = remedy.Close (Some InvalidField)
sender_remedy _ = remedy.Nothing

-- what follows from an error of a receiver's attach
abbrev pub receiver_remedy : ReceiverAttachError → Remedy
receiver_remedy receiver.DuplicatedLinkName = remedy.EndSession
receiver_remedy receiver.IncomingSourceIsNone = remedy.Close None
receiver_remedy receiver.CoordinatorIsNotImplemented = remedy.Close (Some NotImplemented)
receiver_remedy receiver.InitialDeliveryCountIsNone = remedy.Close (Some InvalidField)
receiver_remedy receiver.SourceAddressIsNoneWhenDynamicIsTrue = remedy.Close (Some InvalidField)
receiver_remedy receiver.TargetAddressIsSomeWhenDynamicIsTrue = remedy.Close (Some InvalidField)
receiver_remedy receiver.DynamicNodePropertiesIsSomeWhenDynamicIsFalse = remedy.Close (Some InvalidField)
receiver_remedy _ = remedy.Nothing

-- whether an error of a receiver's attach carries a list, for which there may be no memory
abbrev pub is_listing : ReceiverAttachError → Bool
is_listing (receiver.DesiredFilterNotSupported names) = true
is_listing _ = false

-- a closing detach can be sent: there is a transition and an output handle
abbrev pub can_close : LinkState → Option OutputHandle → Bool
can_close state handle = is_some (next_state Call.SendDetach true state) && is_some handle

-- the error of a condition alone
abbrev pub error_of : Condition → Error
error_of condition = record { condition = condition_text condition; description = None; info = None }

-- the error to send for a remedy: none if the link is to be closed and cannot be
abbrev pub error_sent : Remedy → LinkState → Option OutputHandle → Option Error
error_sent (remedy.Close (Some condition)) state handle = if can_close state handle then Some (error_of condition) else None
error_sent remedy.EndSession state handle = Some handle_in_use
error_sent _ state handle = None

-- the state after the attempt to close the link, if there is a transition
abbrev pub state_after : Remedy → LinkState → Option LinkState
state_after (remedy.Close condition) state = next_state Call.SendDetach true state
state_after _ state = None

module _ {E : Type 0} where
  -- what an attempt to close the link with this error returns, by the transition and the output handle
  abbrev pub closed_with : E → E → Option Error → Option LinkState → Option OutputHandle → E × Action
  closed_with error illegal sent (Some next) (Some handle) = (error, action.Detach (detach_frame handle true sent))
  closed_with error illegal sent _ _ = (illegal, action.Nothing)

  -- What is returned after an attach has failed with an error that has this remedy; the second error is the
  -- one for a link that cannot be closed.
  abbrev pub handled : E → E → Remedy → LinkState → Option OutputHandle → E × Action
  handled error illegal remedy.Nothing state handle = (error, action.Nothing)
  handled error illegal remedy.EndSession state handle = (error, action.EndSession handle_in_use)
  handled error illegal (remedy.Close None) state handle =
      closed_with error illegal None (next_state Call.SendDetach true state) handle
  handled error illegal (remedy.Close (Some condition)) state handle =
      closed_with error illegal (Some (error_of condition)) (next_state Call.SendDetach true state) handle
