-- What is pending at a sender when a payload is to be sent (OASIS AMQP 1.0 core, 2.6.4 to 2.6.6): the error
-- that the send returns, and the sender afterwards.
use Rattle.std.specs.Prelude.{Bool, true, false, Option, Some, None}
use Rattle.amqp_link_types.specs.declared.frame.LinkFrame.{LinkFrame}
use Rattle.amqp_link_types.specs.declared.frame.LinkFrame.TheVariants as frame
use Rattle.amqp_link_state.specs.declared.state.LinkState.{LinkState}
use Rattle.amqp_link_types.specs.declared.types.definitions.Error.{Error}
use Rattle.amqp_link_types.specs.declared.types.errors.ApplyRemoteDetachError.{ApplyRemoteDetachError}
use Rattle.amqp_link_types.specs.declared.types.errors.ApplyRemoteDetachError.TheVariants as apply
use Rattle.amqp_link_types.specs.declared.types.errors.LinkStateError.{LinkStateError}
use Rattle.amqp_link_types.specs.declared.types.errors.LinkStateError.TheVariants as error
use Rattle.amqp_link_types.specs.declared.types.performatives.Detach.{Detach}
use Rattle.amqp_link_types.specs.declared.types.stop_reason.SessionStopReason.{SessionStopReason}
use Rattle.amqp_link_endpoint.specs.LinkStates.{Call, next_state}
use Rattle.amqp_link_sender.specs.declared.sender_link.Waiting.{Waiting}
use Rattle.amqp_link_sender.specs.declared.sender_link.Waiting.TheVariants as waiting
use Rattle.amqp_link_sender.specs.Senders.{Sender}

-- the error of a session stop: its reason, or that only a detach was expected
abbrev pub stop_error : Option SessionStopReason → LinkStateError
stop_error (Some reason) = error.SessionStopped reason
stop_error None = error.ExpectImmediateDetach

-- the error of a detach that the peer initiated, by its `closed` and `error` fields
abbrev pub error_of_remote_detach : Bool → Option Error → LinkStateError
error_of_remote_detach true None = error.RemoteClosed
error_of_remote_detach false None = error.RemoteDetached
error_of_remote_detach true (Some e) = error.RemoteClosedWithError e
error_of_remote_detach false (Some e) = error.RemoteDetachedWithError e

-- the link's error for an error of recording a detach
abbrev pub recorded_error : ApplyRemoteDetachError → LinkStateError
recorded_error apply.IllegalState = error.IllegalState
recorded_error (apply.RemoteDetachedWithError e) = error.RemoteDetachedWithError e
recorded_error (apply.RemoteClosedWithError e) = error.RemoteClosedWithError e

-- the error of a detach if it leads to this state: that of its fields, or illegal state if there is no
-- transition
abbrev pub error_after_remote_detach : Option LinkState → Detach → LinkStateError
error_after_remote_detach None detach = error.IllegalState
error_after_remote_detach (Some next) detach = error_of_remote_detach detach.closed detach.error

abbrev pub detach_error : LinkState → Detach → LinkStateError
detach_error state detach = error_after_remote_detach (next_state Call.RemoteDetach detach.closed state) detach

-- the error of a frame: a detach's own; any other frame is not expected
abbrev pub frame_error : LinkState → LinkFrame → LinkStateError
frame_error state (frame.Detach detach) = detach_error state detach
frame_error state _ = error.ExpectImmediateDetach

abbrev pub waiting_error : LinkState → Waiting → Option LinkStateError
waiting_error state waiting.Nothing = None
waiting_error state (waiting.Frame f) = Some (frame_error state f)
waiting_error state (waiting.Stopped reason) = Some (stop_error reason)

-- ---- the sender after what was pending is handled

module _ {T : Type 0} where
  -- in the next state and without output handle, if there is a transition
  abbrev pub handle_released : Option LinkState → Sender T → Sender T
  handle_released None s = s
  handle_released (Some next) s = record s { local_state = next; output_handle = None }

  abbrev pub after_detach : Sender T → Detach → Sender T
  after_detach s detach = handle_released (next_state Call.RemoteDetach detach.closed s.local_state) s

  abbrev pub after_frame : Sender T → LinkFrame → Sender T
  after_frame s (frame.Detach detach) = after_detach s detach
  after_frame s _ = s

  -- a detach is recorded if there is a transition, and all else changes nothing
  abbrev pub after_waiting : Sender T → Waiting → Sender T
  after_waiting s (waiting.Frame f) = after_frame s f
  after_waiting s _ = s
