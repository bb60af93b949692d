-- How a call of C answers: what it says of the objects that it is made of, and of its status.
use Rattle.std.specs.Prelude.{◌≡◌, ◌⊎◌, ℕ, Bool, true, false, List, Option, Some, None, IfSome, IsSomeAnd, option_and_then, Result, Ok, Err}
use Rattle.std.specs.Option.{option_map_or}
use Rattle.amqp_link_flat.specs.Flat.{plain_flow, stated_error, stated_state}
use Rattle.amqp_link_flat.specs.declared.delivery_state.DeliveryStateFields.{DeliveryStateFields}
use Rattle.amqp_link_flat.specs.declared.detach.Detach.{Detach}
use Rattle.amqp_link_flat.specs.declared.flow.Flow.{Flow}
use Rattle.amqp_link_inbox.specs.Inboxes.{InboxState}
use Rattle.amqp_link_ledger.specs.Ledgers.{Ledger}
use Rattle.amqp_link_object.specs.Objects.{value_in}
use Rattle.amqp_link_object.specs.States.{kind_in, receiver_in, sender_in}
use Rattle.amqp_link_object.specs.declared.object.Object.{Object}
use Rattle.amqp_link_object.specs.declared.state.State.{State}
use Rattle.amqp_link_object.specs.declared.state.State.TheVariants as state
use Rattle.amqp_link_types.specs.Refusals.{refusal}
use Rattle.amqp_link_types.specs.declared.frame.LinkFrame.{LinkFrame}
use Rattle.amqp_link_types.specs.declared.frame.LinkFrame.TheVariants as frame
use Rattle.amqp_link_types.specs.declared.types.definitions.Error.{Error}
use Rattle.amqp_link_types.specs.declared.types.delivery_state.DeliveryState.{DeliveryState}
use Rattle.amqp_link_types.specs.declared.types.errors.FlowError.{FlowError}
use Rattle.amqp_link_types.specs.declared.types.errors.FlowError.TheVariants as flow_error
use Rattle.amqp_link_types.specs.declared.types.performatives.LinkFlow.{LinkFlow}
use Rattle.amqp_link_types.specs.declared.types.terminus.Target.{Target}

-- the status of a call whose object has no value of the kind that it takes: nothing is in it, or a value of another kind
abbrev pub wrong_status : Option State → ℕ
wrong_status None = 1
wrong_status (Some s) = 2

-- what holds of the sender in an object before a call and after it
abbrev pub OfSender : Object → Object → (Ledger Target → Ledger Target → Type 0) → Type 0
OfSender old new Holds = IfSome (sender_in (value_in old)) (λ before. IsSomeAnd (sender_in (value_in new)) (Holds before))

-- what holds of the receiver in an object before a call and after it
abbrev pub OfReceiver : Object → Object → (InboxState Target → InboxState Target → Type 0) → Type 0
OfReceiver old new Holds = IfSome (receiver_in (value_in old)) (λ before. IsSomeAnd (receiver_in (value_in new)) (Holds before))

-- an object that has frames to send, of which there may be none
abbrev pub IsFramesObject : Object → Type 0
IsFramesObject object = kind_in (value_in object) ≡ 3

-- an object that has deliveries that have ended, of which there may be none
abbrev pub IsOutcomesObject : Object → Type 0
IsOutcomesObject object = kind_in (value_in object) ≡ 6

-- The status of a call that makes these tests in this order, with a status for each error: that of the first that holds, or 0. Out
-- of memory may come in the place of any.
abbrev pub Tested : {E : Type 0} → (E → ℕ) → List (Bool × E) → ℕ → Type 0
Tested status_of tests status = (status ≡ 3) ⊎ (status ≡ option_map_or status_of (refusal tests) 0)

-- the status of a call whose answer or whose refusal is this
abbrev pub status_in : {A : Type 0} → Result A ℕ → ℕ
status_in (Ok a) = 0
status_in (Err status) = status

-- a flow to reply with is written if there is one, and the flag says whether there is
abbrev pub IsReply : Option LinkFlow → Flow → Flow → Bool → Type 0
IsReply None before after has = (after ≡ before) × (has ≡ false)
IsReply (Some flow) before after has = (after ≡ plain_flow flow) × (has ≡ true)

-- the status of a call with this answer, by the status of its error
abbrev pub status_by : {A E : Type 0} → (E → ℕ) → Result A E → ℕ
status_by status_of (Ok a) = 0
status_by status_of (Err error) = status_of error

-- The flow that an endpoint has made to send is written, or nothing is, with the status of why.
abbrev pub IsFlowWritten : Result LinkFrame FlowError → Flow → Flow → ℕ → Type 0
IsFlowWritten (Ok (frame.Flow flow)) before after status = (after ≡ plain_flow flow) × (status ≡ 0)
IsFlowWritten (Ok _) before after status = (after ≡ before) × (status ≡ 0)
IsFlowWritten (Err flow_error.IllegalState) before after status = (after ≡ before) × (status ≡ 10)
IsFlowWritten (Err flow_error.OutOfMemory) before after status = (after ≡ before) × (status ≡ 3)

-- what an object gets of the frame in which an attach is sent
abbrev pub attach_state : LinkFrame → State
attach_state (frame.Attach attach) = state.Attach attach
attach_state other = state.Frame other

-- the state of a delivery that C passes as its outcome: nothing if its kind stands for none
abbrev pub outcome_stated : DeliveryStateFields → List ℕ → List ℕ → Option DeliveryState
outcome_stated f condition description = option_and_then (λ stated. stated) (stated_state f condition description)

-- the error of the detach that C passes
abbrev pub error_stated : Detach → List ℕ → List ℕ → Option Error
error_stated d condition description = stated_error d.has_error d.has_description condition description
