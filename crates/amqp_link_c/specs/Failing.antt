-- What follows from an attach that was refused (OASIS AMQP 1.0 core, 2.6.3).
use Rattle.std.specs.Prelude.{◌≡◌, ◌∷◌, ℕ, Bool, true, false, List, [], Option, Some, None, MatchOption}
use Rattle.amqp_link_endpoint.specs.Failing.{handled, receiver_remedy, sender_remedy, state_after}
use Rattle.amqp_link_endpoint.specs.declared.endpoint.failing.Action.{Action}
use Rattle.amqp_link_endpoint.specs.declared.endpoint.failing.Action.TheVariants as action
use Rattle.amqp_link_endpoint.specs.declared.endpoint.failing.Remedy.{Remedy}
use Rattle.amqp_link_flat.specs.Statuses.{IsReceiverRefusal, IsSenderRefusal, receiver_attach_status, sender_attach_status}
use Rattle.amqp_link_inbox.specs.Inboxes.{InboxState}
use Rattle.amqp_link_ledger.specs.Ledgers.{Ledger}
use Rattle.amqp_link_state.specs.declared.state.LinkState.{LinkState}
use Rattle.amqp_link_types.specs.declared.frame.LinkFrame.{LinkFrame}
use Rattle.amqp_link_types.specs.declared.types.definitions.OutputHandle.{OutputHandle}
use Rattle.amqp_link_types.specs.declared.types.errors.ReceiverAttachError.{ReceiverAttachError}
use Rattle.amqp_link_types.specs.declared.types.errors.ReceiverAttachError.TheVariants as receiver_error
use Rattle.amqp_link_types.specs.declared.types.errors.SenderAttachError.{SenderAttachError}
use Rattle.amqp_link_types.specs.declared.types.errors.SenderAttachError.TheVariants as sender_error
use Rattle.amqp_link_types.specs.declared.types.terminus.Target.{Target}

-- what follows from it, by the error of the refusal, if it has one from which something follows
abbrev pub follows : {E : Type 0} → E → (E → Remedy) → Option E → LinkState → Option OutputHandle → Action
follows illegal remedy None state handle = action.Nothing
follows illegal remedy (Some error) state handle = (handled error illegal (remedy error) state handle).1

-- the state after it, if the link is closed
abbrev pub state_following : {E : Type 0} → (E → Remedy) → Option E → LinkState → Option LinkState
state_following remedy None state = None
state_following remedy (Some error) state = state_after (remedy error) state

-- the frames of an action: the detach that closes the link
abbrev pub action_frames : Action → List LinkFrame
action_frames (action.Detach frame) = frame ∷ []
action_frames _ = []

-- whether the session is to be ended
abbrev pub is_session_end : Action → Bool
is_session_end (action.EndSession error) = true
is_session_end _ = false

-- the error that a status stands for, if one of these refusals has it
abbrev pub IsErrorOf : {E : Type 0} → (E → ℕ) → (ℕ → Type 0) → ℕ → Option E → Type 0
IsErrorOf status_of IsRefusal status refusal =
    MatchOption refusal (IsRefusal status → ⊥) (λ error. status_of error ≡ status)

-- A sender does what follows from this status: the frames, whether the session ends, and the sender afterwards, which a
-- detach that closes it has moved.
pub record FailsSender (status : ℕ) (frames : List LinkFrame) (ends : Bool) (before after : Ledger Target) : Type 0 where
  pub refusal : Option SenderAttachError
  pub refusal_is : IsErrorOf sender_attach_status IsSenderRefusal status refusal
  pub frames_are : frames ≡ action_frames
      (follows sender_error.IllegalState sender_remedy refusal before.link.local_state before.link.output_handle)
  pub ends_is : ends ≡ is_session_end
      (follows sender_error.IllegalState sender_remedy refusal before.link.local_state before.link.output_handle)
  pub after_is : MatchOption (state_following sender_remedy refusal before.link.local_state)
      (after ≡ before)
      (λ next. after ≡ record before { link = record before.link { local_state = next; output_handle = None } })

-- a receiver does the same
pub record FailsReceiver (status : ℕ) (frames : List LinkFrame) (ends : Bool) (before after : InboxState Target) : Type 0 where
  pub refusal : Option ReceiverAttachError
  pub refusal_is : IsErrorOf receiver_attach_status IsReceiverRefusal status refusal
  pub frames_are : frames ≡ action_frames
      (follows receiver_error.IllegalState receiver_remedy refusal before.link.local_state before.link.output_handle)
  pub ends_is : ends ≡ is_session_end
      (follows receiver_error.IllegalState receiver_remedy refusal before.link.local_state before.link.output_handle)
  pub after_is : MatchOption (state_following receiver_remedy refusal before.link.local_state)
      (after ≡ before)
      (λ next. after ≡ record before { link = record before.link { local_state = next; output_handle = None } })
