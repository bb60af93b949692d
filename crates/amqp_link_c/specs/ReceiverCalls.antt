-- What the calls of a receiver do for C (OASIS AMQP 1.0 core, 2.6.7, 2.6.12 and 2.7.5).
use Rattle.std.specs.Prelude.{◌≡◌, ◌⊎◌, ◌==◌, ℕ, Bool, false, List, [], ◌∷◌, ◌++◌, ◌≤◌, ◌<◌, drop, length, Option, None, Some, IsSomeAnd, Result, Ok, Err, is_some, unwrap_or, if◌then◌else◌}
use Rattle.std.specs.Option.{option_map_or}
use Rattle.amqp_link_c.specs.declared.receiver.arriving.Arriving.{Arriving}
use Rattle.amqp_link_c.specs.declared.receiver.taking.DeliveryView.{DeliveryView}
use Rattle.amqp_link_c.specs.declared.receiver.taking.KeptView.{KeptView}
use Rattle.amqp_link_core.specs.Held.{Held, held_bytes}
use Rattle.amqp_link_dispositions.specs.DispositionFrames.{disposition_frame}
use Rattle.amqp_link_dispositions.specs.Keeping.{is_settled_one}
use Rattle.amqp_link_types.specs.Entries.{changed_at}
use Rattle.amqp_link_flat.specs.Flat.{plain_flow}
use Rattle.amqp_link_flat.specs.declared.flow.Flow.{Flow}
use Rattle.amqp_link_inbox.specs.Disposing.{disposed, info_to_dispose, outcome_refusal}
use Rattle.amqp_link_inbox.specs.Inboxes.{Arrives, InboxState}
use Rattle.amqp_link_inbox.specs.KeptDeliveries.{stage_of}
use Rattle.amqp_link_inbox.specs.Storing.{stage_at}
use Rattle.amqp_link_inbox.specs.Taking.{complete_of, settled_refusal, take_refusal, with_taken}
use Rattle.amqp_link_inbox.specs.declared.arrival.Arrival.{Arrival}
use Rattle.amqp_link_inbox.specs.declared.arrival.Arrival.TheVariants as arrival
use Rattle.amqp_link_inbox.specs.declared.arrival.Arrived.{Arrived}
use Rattle.amqp_link_inbox.specs.declared.error.DisposeError.{DisposeError}
use Rattle.amqp_link_inbox.specs.declared.error.DisposeError.TheVariants as dispose_error
use Rattle.amqp_link_inbox.specs.declared.error.TakeError.{TakeError}
use Rattle.amqp_link_inbox.specs.declared.error.TakeError.TheVariants as take_error
use Rattle.amqp_link_inbox.specs.declared.kept.Kept.{Kept}
use Rattle.amqp_link_inbox.specs.declared.kept.Stage.{Stage}
use Rattle.amqp_link_inbox.specs.declared.kept.Stage.TheVariants as stage
use Rattle.amqp_link_payloads.specs.Bodies.{whole_message}
use Rattle.amqp_link_payloads.specs.declared.message.whole.Whole.{Whole}
use Rattle.amqp_link_receiver.specs.Completing.{IsDelivery}
use Rattle.amqp_link_state.specs.Counts.{stated_flow, with_stated}
use Rattle.amqp_link_types.specs.Deliveries.{Delivered, Info}
use Rattle.amqp_link_types.specs.Entries.{Tag, entry_at}
use Rattle.amqp_link_types.specs.declared.frame.LinkFrame.{LinkFrame}
use Rattle.amqp_link_types.specs.declared.types.definitions.Role.TheVariants as role
use Rattle.amqp_link_types.specs.declared.types.delivery_state.DeliveryState.{DeliveryState}
use Rattle.amqp_link_types.specs.declared.types.terminus.Target.{Target}
use Rattle.amqp_link_types.specs.declared.types.transfer.Transfer.{Transfer}

-- A receiver states its credit and the drain flag in a flow, each if it is given.
pub record StatesCredit (credit : Option ℕ) (drain : Option Bool) (echo : Bool) (flow : Flow) (before after : InboxState Target) : Type 0 where
  pub after_is : after ≡ record before {
    link = record before.link { flow_state = with_stated credit drain before.link.flow_state };
  }
  pub flow_is : IsSomeAnd before.link.output_handle (λ handle.
      flow ≡ plain_flow (stated_flow after.link.flow_state handle echo false))

-- ---- transfers

-- the number of a stage
abbrev pub stage_number : Stage → ℕ
stage_number stage.Begun = 1
stage_number stage.Complete = 2
stage_number stage.Taken = 3

-- the number of what a transfer has made of its delivery
abbrev pub arrival_number : Arrival → ℕ
arrival_number arrival.Begun = 1
arrival_number arrival.Continued = 2
arrival_number arrival.Complete = 3
arrival_number arrival.CompleteSettled = 4
arrival_number arrival.Known = 5
arrival_number (arrival.Aborted at) = 6
arrival_number arrival.Ignored = 7

-- the stage of the delivery that it aborts; 0 if it aborts none
abbrev pub aborted_number : Arrival → ℕ
aborted_number (arrival.Aborted at) = option_map_or stage_number at 0
aborted_number _ = 0

-- what has arrived, as C gets it
abbrev pub plain_arriving : Arrived → Arriving
plain_arriving came = record {
  arrival = arrival_number came.arrival;
  aborted_at = aborted_number came.arrival;
  replaced = option_map_or stage_number came.replaced 0;
  session_id = option_map_or (λ kept. kept.0) came.session 0;
  has_session_id = is_some came.session;
  without_credit = came.without_credit;
}

-- no tag is copied out
abbrev pub NamesNone : List ℕ → List ℕ → ℕ → Type 0
NamesNone room after size = (after ≡ room) × (size ≡ 0)

-- The tag of a delivery of which no more is to come is copied out, with its size, if there is room for it; else none.
abbrev pub NamesOver : Option Tag → List ℕ → List ℕ → ℕ → Type 0
NamesOver None room after size = NamesNone room after size
NamesOver (Some tag) room after size = ((length tag ≤ length room) × (after ≡ tag ++ drop (length tag) room) × (size ≡ length tag))
    ⊎ ((length room < length tag) × NamesNone room after size)

-- A receiver takes a transfer with these bytes.
pub record TakesTransfer (t : Transfer) (bytes : List ℕ) (arriving : Arriving) (room over : List ℕ) (size : ℕ)
    (before after : InboxState Target) : Type 0 where
  pub came : Arrived
  pub arrives : Arrives before t bytes came after
  pub arriving_is : arriving ≡ plain_arriving came
  pub over_is : NamesOver came.tag room over size

-- ---- deliveries that are taken

-- the status of a delivery that is not taken
abbrev pub take_status : TakeError → ℕ
take_status take_error.UnknownTag = 44
take_status take_error.NotComplete = 45
take_status take_error.AlreadyTaken = 46
take_status take_error.NotAttached = 47
take_status take_error.OutOfMemory = 3
take_status (take_error.Undecoded undecoded) = 48

-- the status of a call that takes the delivery with this tag; out of memory may come in the place of any
abbrev pub TakeStatus : Tag → InboxState Target → ℕ → Type 0
TakeStatus tag s status = (status ≡ 3) ⊎ (status
    ≡ option_map_or take_status (take_refusal (stage_at s.deliveries tag) s.link.output_handle) 0)

-- The complete delivery with this tag is taken, with all bytes of its message.
pub record Takes (tag : Tag) (delivery : Delivered Whole) (before after : InboxState Target) : Type 0 where
  pub held : Held
  pub complete : complete_of (entry_at before.deliveries tag) ≡ Some held
  pub delivery_is : IsDelivery before.link held.performative (whole_message (held_bytes held)) delivery
  pub after_is : after ≡ record before { deliveries = with_taken tag before.deliveries }

-- The status of a call that takes the first of the settled deliveries: no entry if there is none.
abbrev pub TakeSettledStatus : InboxState Target → ℕ → Type 0
TakeSettledStatus s status = (status ≡ 3) ⊎ (status
    ≡ (if length s.settled == 0 then 7 else option_map_or take_status (settled_refusal s.settled s.link.output_handle) 0))

-- The first of the settled deliveries is taken.
pub record TakesSettled (delivery : Delivered Whole) (before after : InboxState Target) : Type 0 where
  pub held : Held
  pub rest : List Held
  pub first : before.settled ≡ held ∷ rest
  pub delivery_is : IsDelivery before.link held.performative (whole_message (held_bytes held)) delivery
  pub after_is : after ≡ record before { settled = rest }

-- ---- what is seen of deliveries

-- how far a delivery has come, as C gets it
abbrev pub plain_kept : Kept → KeptView
plain_kept kept = record {
  stage = stage_number (stage_of kept);
  delivery_id = unwrap_or kept.id 0;
  has_delivery_id = is_some kept.id;
  settled = kept.settled;
}

-- a delivery that was taken, as C gets it
abbrev pub plain_delivery : Delivered Whole → DeliveryView
plain_delivery taken = record {
  message_size = length taken.message.body.0;
  delivery_id = taken.info.delivery_id;
  message_format = unwrap_or taken.message_format 0;
  has_message_format = is_some taken.message_format;
}

-- ---- dispositions

-- the status of a delivery that is not disposed of
abbrev pub dispose_status : DisposeError → ℕ
dispose_status dispose_error.NotAttached = 47
dispose_status dispose_error.UnknownTag = 44
dispose_status dispose_error.NotTaken = 49
dispose_status dispose_error.NotResumed = 50
dispose_status dispose_error.OutOfMemory = 3

-- the status of what is looked up of it
abbrev pub info_status : Result Info DisposeError → ℕ
info_status (Ok info) = 0
info_status (Err error) = dispose_status error

-- the status of a call that disposes of the delivery with this tag; out of memory may come in its place
abbrev pub DisposeStatus : Tag → InboxState Target → ℕ → Type 0
DisposeStatus tag s status =
    (status ≡ 3) ⊎ (status ≡ info_status (info_to_dispose s.link.local_state (entry_at s.deliveries tag) tag))

-- The delivery with this tag is disposed of: its disposition, and the receiver afterwards.
pub record Disposes (tag : Tag) (settled : Option Bool) (state : DeliveryState) (batchable : Bool) (frames : List LinkFrame)
    (before after : InboxState Target) : Type 0 where
  pub info : Info
  pub info_is : info_to_dispose before.link.local_state (entry_at before.deliveries tag) tag ≡ Ok info
  pub frames_are : frames ≡ disposition_frame role.Receiver info.delivery_id None
      (is_settled_one settled before.link.rcv_settle_mode info) state batchable ∷ []
  pub after_is : after ≡ disposed (is_settled_one settled before.link.rcv_settle_mode info) state tag before

-- the status of a call that keeps an outcome of the delivery with this tag; out of memory may come in its place
abbrev pub KeepStatus : Tag → InboxState Target → ℕ → Type 0
KeepStatus tag s status =
    (status ≡ 3) ⊎ (status ≡ option_map_or dispose_status (outcome_refusal (entry_at s.deliveries tag)) 0)

-- the outcome of the delivery with this tag is kept: the next attach states it
abbrev pub KeepsOutcome : Tag → DeliveryState → InboxState Target → InboxState Target → Type 0
KeepsOutcome tag state before after = after ≡ record before {
  link = record before.link { unsettled = changed_at (λ known. Some state) (tag ∷ []) before.link.unsettled };
}
