-- The frames that an endpoint allows by its state, and what they do to it (OASIS AMQP 1.0 core, 2.6.3 to 2.6.6,
-- 2.7.4).
use Rattle.std.specs.Prelude.{◌≡◌, ◌⊎◌, Bool, true, false, List, [], ◌∷◌, Option, Some, None, is_some}
use Rattle.amqp_link.specs.LinkStates.{Call, next_state}
use Rattle.amqp_link.specs.Shown.{Shown}
use Rattle.amqp_link.specs.declared.state.LinkState.{LinkState}
use Rattle.amqp_link_uses.specs.declared.peer.Frame.{Frame}
use Rattle.amqp_link_uses.specs.declared.peer.Frame.TheVariants.{SendAttach, Attach, Flow, SendDetach, DetachReply, Detach}

-- where an endpoint stands: its link state, and whether it has an output handle
pub record StateAndHandle : Type 0 where
  pub state : LinkState
  pub has_handle : Bool

abbrev pub state_and_handle : {D : Type 0} → Shown D → StateAndHandle
state_and_handle shown = record { state = shown.local_state; has_handle = is_some shown.output_handle }

-- the state after a frame: none if there is no transition. An attach that is sent counts as complete, and a flow
-- leaves the state.
abbrev pub state_after_frame : LinkState → Frame → Option LinkState
state_after_frame s SendAttach = next_state Call.SendAttach false s
state_after_frame s (Attach attach) = next_state Call.IncomingAttach attach.incomplete_unsettled s
state_after_frame s (Flow flow) = Some s
state_after_frame s (SendDetach closed) = next_state Call.SendDetach closed s
state_after_frame s (DetachReply detach) = next_state Call.DetachReply detach.closed s
state_after_frame s (Detach detach) = next_state Call.RemoteDetach detach.closed s

abbrev pub has_transition_by : LinkState → Frame → Bool
has_transition_by s frame = is_some (state_after_frame s frame)

-- Whether an endpoint that stands there allows a frame: the table has a transition, and for a flow there is an output
-- handle.
abbrev pub is_allowed : StateAndHandle → Frame → Bool
is_allowed s (Flow flow) = s.has_handle
is_allowed s frame = has_transition_by s.state frame

-- an endpoint moves to a state, and keeps its output handle or the lack of it
abbrev pub moves_to : StateAndHandle → LinkState → StateAndHandle
moves_to s state = record s { state = state }

-- a detach moves the state by the table, and the output handle is released
abbrev pub detached_by : StateAndHandle → Option LinkState → StateAndHandle
detached_by s None = s
detached_by s (Some state) = record { state = state; has_handle = false }

-- What a frame does. An attach moves the state by the table, the one that is sent as complete or incomplete, or
-- leaves it where the call is refused for another reason: out of memory, no output handle, an attach too large. A flow
-- changes neither state nor handle. A detach moves the state wherever there is a transition.
abbrev pub DoesFrame : StateAndHandle → Frame → StateAndHandle → Type 0
DoesFrame s SendAttach next = (next ≡ s)
    ⊎ ((is_incomplete : Bool) × (t : LinkState) × (next_state Call.SendAttach is_incomplete s.state ≡ Some t) × (next ≡ moves_to s t))
DoesFrame s (Attach attach) next = (next ≡ s)
    ⊎ ((t : LinkState) × (state_after_frame s.state (Attach attach) ≡ Some t) × (next ≡ moves_to s t))
DoesFrame s (Flow flow) next = next ≡ s
DoesFrame s detach next = next ≡ detached_by s (state_after_frame s.state detach)

-- each of these frames, in order, was allowed where the one before had left the endpoint, and led on from there
abbrev pub AreAllowed : List Frame → StateAndHandle → StateAndHandle → Type 0
AreAllowed [] s t = s ≡ t
AreAllowed (frame ∷ frames) s t = (next : StateAndHandle) × (is_allowed s frame ≡ true) × DoesFrame s frame next × AreAllowed frames next t
