-- A sender's link endpoint as its callers see it, and what its calls do (OASIS AMQP 1.0 core, 2.6
-- and 2.7.5).
use Rattle.std.specs.Prelude.{◌≡◌, ◌⊎◌, ℕ, ◌==◌, ◌&&◌, not, Bool, true, false, List, [], ◌∷◌, map, Option, Some, None, is_some, is_none, IsSomeAnd, unwrap_or, if◌then◌else◌, Result, Ok, Err}
use Rattle.std.specs.Int.{w32, to_be_bytes}
use Rattle.std.specs.Option.{option_map_or}
use Rattle.amqp_link_types.specs.declared.types.errors.LinkStateError.{LinkStateError}
use Rattle.amqp_link_types.specs.declared.types.errors.LinkStateError.TheVariants as error
use Rattle.amqp_link_types.specs.declared.types.definitions.InputHandle.{InputHandle}
use Rattle.amqp_link_types.specs.declared.types.definitions.OutputHandle.{OutputHandle}
use Rattle.amqp_link_types.specs.declared.types.definitions.SenderSettleMode.{SenderSettleMode}
use Rattle.amqp_link_types.specs.declared.types.definitions.SenderSettleMode.TheVariants as mode
use Rattle.amqp_link_types.specs.declared.types.delivery_state.DeliveryState.{DeliveryState}
use Rattle.amqp_link_types.specs.declared.types.transfer.Transfer.{Transfer}
use Rattle.amqp_link_types.specs.declared.delivery.Settlement.{Settlement}
use Rattle.amqp_link_types.specs.declared.delivery.Settlement.TheVariants as settlement
use Rattle.amqp_link_types.specs.declared.delivery.UnsettledMessage.{UnsettledMessage}
use Rattle.amqp_link_types.specs.declared.frame.LinkFrame.{LinkFrame}
use Rattle.amqp_link_types.specs.declared.frame.LinkFrame.TheVariants.{FirstTransfer}
use Rattle.amqp_link_sender.specs.declared.sender_link.Sending.{Sending}
use Rattle.amqp_link_sender.specs.declared.sender_link.Sending.TheVariants as sending
use Rattle.amqp_link_state.specs.Counts.{after_consuming}
use Rattle.amqp_link_types.specs.Entries.{Tag, Entries, with_entry, entry_at}
use Rattle.amqp_link_types.specs.Frames.{payload_of, silent, AreFramesOf}
use Rattle.amqp_link_types.specs.Refusals.{refusal}
use Rattle.amqp_link_state.specs.declared.role.SenderMarker.{SenderMarker}
use Rattle.amqp_link_endpoint.specs.declared.link_parts.LinkParts.{LinkParts}
use Rattle.amqp_link_endpoint.specs.Links.{Endpoint, endpoint_of, inner_of_parts}
use Rattle.amqp_link_split.specs.Fitting.{IsFitting}
use Rattle.amqp_link_split.specs.Room.{has_room, payload_limit}
use Rattle.amqp_link_split.specs.Split.{IsSplit}

-- what a caller sees of a sender's link endpoint with a target of type T
abbrev pub Sender : Type 0 → Type 0
Sender T = Endpoint T (Entries UnsettledMessage) (Unit {0})

-- the endpoint that is made of these parts: not attached, without handles and unsettled deliveries
abbrev pub sender_of_parts : {T : Type 0} → LinkParts T → Sender T
sender_of_parts parts = endpoint_of {R = SenderMarker} (inner_of_parts parts) [] tt

-- ---- settling

-- whether a link in this mode settles a transfer that has no settled flag
abbrev pub settles : SenderSettleMode → Bool
settles mode.Settled = true
settles _ = false

-- whether a transfer is sent settled: by its own flag, otherwise by the link's mode
abbrev pub settled_on_send : {T : Type 0} → Sender T → Transfer → Bool
settled_on_send s t = unwrap_or t.settled (settles s.snd_settle_mode)

-- the settled flag of a new delivery, if its user passes this one
abbrev pub settled_by_mode : SenderSettleMode → Option Bool → Bool
settled_by_mode mode.Settled given = true
settled_by_mode mode.Unsettled given = false
settled_by_mode mode.Mixed given = unwrap_or given false

-- ---- a new delivery

-- what its user passes, beside its payload
pub record Delivery : Type 0 where
  pub message_format : ℕ
  pub settled : Option Bool
  pub state : Option DeliveryState
  pub batchable : Bool

-- a delivery with these fields
abbrev pub delivery_of : ℕ → Option Bool → Option DeliveryState → Bool → Delivery
delivery_of format settled state batchable =
    record { message_format = format; settled = settled; state = state; batchable = batchable }

-- its tag: the count as four bytes, the highest first
abbrev pub next_tag : {T : Type 0} → Sender T → Tag
next_tag s = to_be_bytes w32 s.flow_state.delivery_count

-- its transfer at a link's output handle, which resumes nothing
abbrev pub new_transfer : {T : Type 0} → Sender T → OutputHandle → Tag → Delivery → Transfer
new_transfer s handle tag d = record {
  handle = record { 0 = handle.0 };
  delivery_id = None;
  delivery_tag = Some tag;
  message_format = Some d.message_format;
  settled = Some (settled_by_mode s.snd_settle_mode d.settled);
  more = false;
  rcv_settle_mode = None;
  state = d.state;
  resume = false;
  aborted = false;
  batchable = d.batchable;
}

-- the same without its tag, which a sender makes last
abbrev pub untagged : {T : Type 0} → Sender T → OutputHandle → Delivery → Transfer
untagged s handle d =
    let t = new_transfer s handle [] d in
    record t { delivery_tag = None }

-- the transfer that resumes a delivery: unsettled, whatever the link's mode
abbrev pub resuming_transfer : {T : Type 0} → Sender T → OutputHandle → Tag → Delivery → Transfer
resuming_transfer s handle tag d = record (new_transfer s handle tag d) { settled = Some false; resume = true }

-- its entry in the unsettled map: its whole payload, and no state yet
abbrev pub new_entry : ℕ → List ℕ → UnsettledMessage
new_entry message_format payload = record { payload = payload; state = None; message_format = message_format }

-- ---- sends

-- The frames of the transfer t with the payload P, as the link s sends them: a frame has room, the payloads
-- are a split of P at the payload limit, and each frame has the input handle and the fields of its place.
pub record IsSent {T : Type 0} (s : Sender T) (t : Transfer) (P : List ℕ) (frames : List LinkFrame) : Type 0 where
  pub room : has_room t s.max_frame_size P ≡ true
  pub split : IsSplit P (payload_limit t s.max_frame_size) (map payload_of frames)
  pub each : IsSomeAnd s.input_handle (λ handle. AreFramesOf handle t frames)

-- whether the delivery of a transfer still awaits its outcome
abbrev pub settlement_of : Bool → Tag → Settlement
settlement_of true tag = settlement.Settled tag
settlement_of false tag = settlement.Unsettled tag

-- the link after a delivery was sent: an unsettled one is registered with its whole payload
abbrev pub with_registration : {T : Type 0} → Bool → Sender T → Tag → UnsettledMessage → Sender T
with_registration settled s tag entry = record s {
  unsettled = if settled then s.unsettled else with_entry s.unsettled tag entry;
}

-- A transfer of the delivery with this tag was sent, and the delivery is registered if it is unsettled.
pub record SendsTransfer {T : Type 0} (old : Sender T) (message_format : ℕ) (t : Transfer) (tag : Tag) (payload : List ℕ)
    (settlement : Settlement) (frames : List LinkFrame) (new : Sender T) : Type 0 where
  pub sent : IsSent old t payload frames
  pub answered : settlement ≡ settlement_of (settled_on_send old t) tag
  pub world : new ≡ with_registration (settled_on_send old t) old tag (new_entry message_format payload)

-- A payload was sent as a new delivery with this tag at this output handle: its transfer was sent, and it took one credit.
pub record SendsTagged {T : Type 0} (old : Sender T) (handle : OutputHandle) (tag : Tag) (d : Delivery) (payload : List ℕ)
    (settlement : Settlement) (frames : List LinkFrame) (new : Sender T) : Type 0 where
  pub sent : IsSent old (new_transfer old handle tag d) payload frames
  pub answered : settlement ≡ settlement_of (settled_by_mode old.snd_settle_mode d.settled) tag
  pub world : new ≡ record old {
    unsettled =
        if settled_by_mode old.snd_settle_mode d.settled then old.unsettled
        else with_entry old.unsettled tag (new_entry d.message_format payload);
    flow_state = after_consuming 1 old.flow_state;
  }

-- the same with the delivery-count before the send as its tag
abbrev pub SendsPayload : {T : Type 0} → Sender T → OutputHandle → Delivery → List ℕ → Settlement → List LinkFrame → Sender T → Type 0
SendsPayload old handle d payload settlement frames new = SendsTagged old handle (next_tag old) d payload settlement frames new

-- what a send of a payload under this tag does, by what it returns: `CreditMissing` changes nothing
abbrev pub SendsTaggedOrLacksCredit : {T : Type 0} → Sender T → Tag → Delivery → List ℕ → Sending → Sender T → Type 0
SendsTaggedOrLacksCredit old tag d payload (sending.Sent settlement frames) new =
    IsSomeAnd old.output_handle (λ handle. SendsTagged old handle tag d payload settlement frames.items new)
SendsTaggedOrLacksCredit old tag d payload sending.CreditMissing new = new ≡ old

abbrev pub SendsOrLacksCredit : {T : Type 0} → Sender T → Delivery → List ℕ → Sending → Sender T → Type 0
SendsOrLacksCredit old d payload sending new = SendsTaggedOrLacksCredit old (next_tag old) d payload sending new

-- the frames of a sent payload fit the frame limit, and are as few as the payload limit allows
abbrev pub SendsTaggedFitting : {T : Type 0} → Sender T → Tag → Delivery → List ℕ → Sending → Type 0
SendsTaggedFitting old tag d payload (sending.Sent settlement frames) = IsSomeAnd old.output_handle (λ handle.
    IsFitting (new_transfer old handle tag d) old.max_frame_size payload frames.items)
SendsTaggedFitting old tag d payload sending.CreditMissing = Unit {0}

abbrev pub SendsFitting : {T : Type 0} → Sender T → Delivery → List ℕ → Sending → Type 0
SendsFitting old d payload sending = SendsTaggedFitting old (next_tag old) d payload sending

-- ---- refusals, in the order of the tests

-- whether the delivery of a tag is pending
abbrev pub is_pending : {T : Type 0} → Sender T → Tag → Bool
is_pending s tag = is_some (entry_at s.unsettled tag)

abbrev pub transfer_tests : {T : Type 0} → Sender T → Transfer → List ℕ → List (Bool × LinkStateError)
transfer_tests s t payload =
    (is_none s.input_handle, error.IllegalState)
    ∷ (not (has_room t s.max_frame_size payload), error.NoRoom)
    ∷ []

-- the tests of a delivery with this tag: if it is unsettled its tag is free, and a frame has room for its
-- transfer
abbrev pub delivery_tests : {T : Type 0} → Sender T → Transfer → Tag → List ℕ → List (Bool × LinkStateError)
delivery_tests s t tag payload =
    (not (settled_on_send s t) && is_pending s tag, error.TagPending)
    ∷ (not (has_room t s.max_frame_size payload), error.NoRoom)
    ∷ []

-- the tests of a transfer whose delivery may be registered: it has a tag and there is an input handle, the
-- tag is free if the delivery is unsettled, and a frame has room
abbrev pub tagged_tests : {T : Type 0} → Sender T → Transfer → Bool → List (Bool × LinkStateError)
tagged_tests s t lacks_room =
    (is_none t.delivery_tag, error.IllegalState)
    ∷ (is_none s.input_handle, error.IllegalState)
    ∷ (not (settled_on_send s t) && option_map_or (is_pending s) t.delivery_tag false, error.TagPending)
    ∷ (lacks_room, error.NoRoom)
    ∷ []

abbrev pub tagged_transfer_tests : {T : Type 0} → Sender T → Transfer → List ℕ → List (Bool × LinkStateError)
tagged_transfer_tests s t payload = tagged_tests s t (not (has_room t s.max_frame_size payload))

-- the tests of a delivery that is registered under this tag: the input handle, a free tag, and room in a
-- frame
abbrev pub unsettled_transfer_tests : {T : Type 0} → Sender T → Transfer → Tag → List ℕ → List (Bool × LinkStateError)
unsettled_transfer_tests s t tag payload =
    (is_none s.input_handle, error.IllegalState)
    ∷ (is_pending s tag, error.TagPending)
    ∷ (not (has_room t s.max_frame_size payload), error.NoRoom)
    ∷ []

-- ---- a delivery that was withdrawn, and of which the receiver still holds a front

-- the transfer that aborts it at an output handle
abbrev pub abort_transfer : OutputHandle → Tag → ℕ → Transfer
abort_transfer handle tag message_format = record silent {
  handle = record { 0 = handle.0 };
  delivery_tag = Some tag;
  message_format = Some message_format;
  settled = Some true;
  resume = true;
  aborted = true;
}

-- its frame, which has no payload
abbrev pub abort_frame : OutputHandle → InputHandle → Tag → ℕ → LinkFrame
abort_frame output input tag message_format = FirstTransfer (record {
  input_handle = input;
  performative = abort_transfer output tag message_format;
  payload = [];
})

-- the tests of an abort: both handles, a tag that is not pending, and room in a frame
abbrev pub abort_tests : {T : Type 0} → Sender T → Tag → ℕ → List (Bool × LinkStateError)
abort_tests s tag message_format =
    let t = abort_transfer (unwrap_or s.output_handle (record { 0 = 0 })) tag message_format in
    (is_none s.output_handle, error.IllegalState)
    ∷ (is_none s.input_handle, error.IllegalState)
    ∷ (is_pending s tag, error.TagPending)
    ∷ (not (has_room t s.max_frame_size []), error.NoRoom)
    ∷ []

-- A call that returns the entry if it is refused, by the first test that holds; out of memory comes only if
-- none does.
abbrev pub HandsBackThenOutOfMemory : {A : Type 0} → Result A (LinkStateError × UnsettledMessage) → UnsettledMessage → List (Bool × LinkStateError) → Type 0
HandsBackThenOutOfMemory (Ok a) entry tests = refusal tests ≡ None
HandsBackThenOutOfMemory (Err e) entry tests =
    (e.1 ≡ entry) × (((e.0 ≡ error.OutOfMemory) × (refusal tests ≡ None)) ⊎ (refusal tests ≡ Some e.0))

-- what a send of a payload returns if it sends nothing
pub data SendStop : Type 0 where
  missing_credit : SendStop
  refused : LinkStateError → SendStop

-- the tests of a payload that is sent under this tag
abbrev pub tagged_payload_tests : {T : Type 0} → Sender T → Tag → Delivery → List ℕ → List (Bool × SendStop)
tagged_payload_tests s tag d payload =
    let t = new_transfer s (unwrap_or s.output_handle (record { 0 = 0 })) tag d in
    (is_none s.output_handle, refused error.IllegalState)
    ∷ (is_none s.input_handle, refused error.IllegalState)
    ∷ (s.flow_state.link_credit == 0, missing_credit)
    ∷ (not (settled_by_mode s.snd_settle_mode d.settled) && is_pending s tag, refused error.TagPending)
    ∷ (not (has_room t s.max_frame_size payload), refused error.NoRoom)
    ∷ []

abbrev pub payload_tests : {T : Type 0} → Sender T → Delivery → List ℕ → List (Bool × SendStop)
payload_tests s d payload = tagged_payload_tests s (next_tag s) d payload

-- whether a payload can be sent, by the first test that holds: not without credit
abbrev pub IsSendable : Result Bool LinkStateError → List (Bool × SendStop) → Type 0
IsSendable (Ok true) tests = refusal tests ≡ None
IsSendable (Ok false) tests = refusal tests ≡ Some missing_credit
IsSendable (Err e) tests = refusal tests ≡ Some (refused e)

-- A send of a payload by the first test that holds; out of memory comes only if none does.
abbrev pub SendAnswersThenOutOfMemory : Result Sending LinkStateError → List (Bool × SendStop) → Type 0
SendAnswersThenOutOfMemory (Ok (sending.Sent settlement frames)) tests = refusal tests ≡ None
SendAnswersThenOutOfMemory (Ok sending.CreditMissing) tests = refusal tests ≡ Some missing_credit
SendAnswersThenOutOfMemory (Err e) tests =
    ((e ≡ error.OutOfMemory) × (refusal tests ≡ None)) ⊎ (refusal tests ≡ Some (refused e))
