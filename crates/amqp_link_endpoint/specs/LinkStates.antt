-- The table of link states (OASIS AMQP 1.0 core, 2.6.3 to 2.6.6).
use Rattle.std.specs.Prelude.{Bool, true, false, Option, Some, None, unwrap_or}
use Rattle.amqp_link_state.specs.declared.state.LinkState.{LinkState}
use Rattle.amqp_link_state.specs.declared.state.LinkState.TheVariants.{Unattached, AttachSent, IncompleteAttachSent, AttachReceived, IncompleteAttachReceived, Attached, IncompleteAttachExchanged, DetachSent, Detached, CloseSent, Closed}

-- the calls that move a link: an attach or a detach is sent, an attach arrives, the peer replies to a detach
-- of this endpoint, or the peer initiates a detach
pub data Call : Type 0 where
  SendAttach : Call
  IncomingAttach : Call
  SendDetach : Call
  DetachReply : Call
  RemoteDetach : Call

-- The state after a call: none if there is no transition. The flag states whether an attach is incomplete, or
-- whether a detach closes the link.
abbrev pub next_state : Call → Bool → LinkState → Option LinkState
next_state SendAttach false Unattached = Some AttachSent
next_state SendAttach false Detached = Some AttachSent
next_state SendAttach false DetachSent = Some AttachSent
next_state SendAttach false AttachReceived = Some Attached
next_state SendAttach false IncompleteAttachReceived = Some IncompleteAttachExchanged
next_state SendAttach true Unattached = Some IncompleteAttachSent
next_state SendAttach true Detached = Some IncompleteAttachSent
next_state SendAttach true DetachSent = Some IncompleteAttachSent
next_state SendAttach true AttachReceived = Some IncompleteAttachExchanged
next_state SendAttach true IncompleteAttachReceived = Some IncompleteAttachExchanged
next_state IncomingAttach false AttachSent = Some Attached
next_state IncomingAttach false IncompleteAttachSent = Some IncompleteAttachExchanged
next_state IncomingAttach false Unattached = Some AttachReceived
next_state IncomingAttach false Detached = Some AttachReceived
next_state IncomingAttach true AttachSent = Some IncompleteAttachExchanged
next_state IncomingAttach true IncompleteAttachSent = Some IncompleteAttachExchanged
next_state IncomingAttach true Unattached = Some IncompleteAttachReceived
next_state IncomingAttach true Detached = Some IncompleteAttachReceived
next_state SendDetach false Attached = Some DetachSent
next_state SendDetach true Attached = Some CloseSent
next_state DetachReply false DetachSent = Some Detached
next_state DetachReply true CloseSent = Some Closed
next_state RemoteDetach false AttachSent = Some Detached
next_state RemoteDetach false IncompleteAttachSent = Some Detached
next_state RemoteDetach false AttachReceived = Some Detached
next_state RemoteDetach false IncompleteAttachReceived = Some Detached
next_state RemoteDetach false Attached = Some Detached
next_state RemoteDetach false IncompleteAttachExchanged = Some Detached
next_state RemoteDetach false DetachSent = Some Detached
next_state RemoteDetach false CloseSent = Some Detached
next_state RemoteDetach true AttachSent = Some Closed
next_state RemoteDetach true IncompleteAttachSent = Some Closed
next_state RemoteDetach true AttachReceived = Some Closed
next_state RemoteDetach true IncompleteAttachReceived = Some Closed
next_state RemoteDetach true Attached = Some Closed
next_state RemoteDetach true IncompleteAttachExchanged = Some Closed
next_state RemoteDetach true DetachSent = Some Closed
next_state RemoteDetach true CloseSent = Some Closed
next_state _ _ _ = None

-- The state after the session is lost: that after a detach of the peer's which does not close the link. A link
-- that is unattached, detached or closed stays in its state.
abbrev pub state_without_session : LinkState → LinkState
state_without_session state = unwrap_or (next_state RemoteDetach false state) state
