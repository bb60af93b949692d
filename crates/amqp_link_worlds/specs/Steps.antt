-- What each call of a pair returns, and the world after it.
use Rattle.std.specs.Prelude.{◌≡◌, ◌⊎◌, ℕ, ◌+◌, ◌^◌, ◌&&◌, Bool, true, false, not, ◌||◌, nat_lt, nat_le, ◌==◌, List, [], ◌∷◌, ◌++◌, length, map, Option, Some, None, is_some, unwrap_or, codes, Result, Ok, Err, if◌then◌else◌}
use Rattle.std.specs.Option.{option_map_or}
use Rattle.amqp_link_payloads.specs.Position.{position}
use Rattle.amqp_link_payloads.specs.declared.error.DecodeError.{DecodeError}
use Rattle.amqp_link_payloads.specs.declared.message.Message.{Message}
use Rattle.amqp_link_types.specs.Deliveries.{Delivered}
use Rattle.amqp_link_types.specs.Entries.{Tag, Entries, entry_at, with_entry, without_entry}
use Rattle.amqp_link_types.specs.Frames.{payload_of, performative_of, silent}
use Rattle.amqp_link_types.specs.Refusals.{refusal}
use Rattle.amqp_link_types.specs.Size.{attach_len}
use Rattle.amqp_link_types.specs.Unsettled.{states_of}
use Rattle.amqp_link_types.specs.declared.delivery.UnsettledMessage.{UnsettledMessage}
use Rattle.amqp_link_types.specs.declared.frame.LinkFrame.{LinkFrame}
use Rattle.amqp_link_types.specs.declared.frame.LinkFrame.TheVariants.{FirstTransfer}
use Rattle.amqp_link_types.specs.declared.types.attach.Attach.{Attach}
use Rattle.amqp_link_types.specs.declared.types.definitions.InputHandle.{InputHandle}
use Rattle.amqp_link_types.specs.declared.types.definitions.OutputHandle.{OutputHandle}
use Rattle.amqp_link_types.specs.declared.types.definitions.ReceiverSettleMode.TheVariants.{First}
use Rattle.amqp_link_types.specs.declared.types.definitions.SenderSettleMode.TheVariants.{Mixed}
use Rattle.amqp_link_types.specs.declared.types.delivery_state.DeliveryState.TheVariants.{Accepted}
use Rattle.amqp_link_types.specs.declared.types.terminus.Source.{Source}
use Rattle.amqp_link_types.specs.declared.types.terminus.Target.{Target}
use Rattle.amqp_link_types.specs.declared.types.terminus.TargetArchetype.TheVariants as archetype
use Rattle.amqp_link_types.specs.declared.types.terminus.TerminusDurability.TheVariants as durable
use Rattle.amqp_link_types.specs.declared.types.terminus.TerminusExpiryPolicy.TheVariants.{SessionEnd}
use Rattle.amqp_link_types.specs.declared.types.transfer.Transfer.{Transfer}
use Rattle.amqp_link_state.specs.Counts.{granted, after_consuming}
use Rattle.amqp_link_state.specs.declared.state.LinkFlowStateInner.{LinkFlowStateInner}
use Rattle.amqp_link_state.specs.declared.state.LinkState.TheVariants.{Unattached, AttachSent, AttachReceived, Attached, Detached}
use Rattle.amqp_link_endpoint.specs.Links.{Endpoint}
use Rattle.amqp_link_endpoint.specs.Attaching.{with_entries}
use Rattle.amqp_link_core.specs.Held.{Held, held_bytes}
use Rattle.amqp_link_endpoint.specs.Shown.{counted_attach}
use Rattle.amqp_link_core.specs.declared.resumption.ResumingDelivery.{ResumingDelivery}
use Rattle.amqp_link_core.specs.declared.resumption.ResumingDelivery.TheVariants.{Abort}
use Rattle.amqp_link_exchange.specs.Exchanges.{deliveries_to_resume, outcomes_returned, unknown_aborted}
use Rattle.amqp_link_split.specs.Room.{payload_limit}
use Rattle.amqp_link_split.specs.Split.{IsFewestPieces}
use Rattle.amqp_link_sender.specs.SenderAttaches.{sender_shown}
use Rattle.amqp_link_sender.specs.Senders.{Sender, IsSent, next_tag, new_entry, abort_frame}
use Rattle.amqp_link_receiver.specs.Completing.{IsDelivery, spent}
use Rattle.amqp_link_receiver.specs.ReceiverAttaches.{receiver_shown}
use Rattle.amqp_link_receiver.specs.Receivers.{Receiver}
use Rattle.amqp_link_ledger.specs.Fates.{Enters, HandsOut, Resolves, Withdraws, after}
use Rattle.amqp_link_ledger.specs.Ledgers.{Ledger}
use Rattle.amqp_link_worlds.specs.Resumptions.{entry_of, next_of, rest_of, resumes}
use Rattle.amqp_link_worlds.specs.Wires.{OnWire, under, frames_of}
use Rattle.amqp_link_worlds.specs.Worlds.{World, Phase, Apart, Halfway, Together, is_together, bytes_in, received_at, held_at}
use Rattle.amqp_link_worlds.specs.declared.error.PairError.{PairError}
use Rattle.amqp_link_worlds.specs.declared.error.PairError.TheVariants as error
use Rattle.amqp_link_worlds.specs.declared.progress.Progress.{Progress}

-- ---- a delivery

-- the transfer of a pair's delivery, new or resumed: unsettled, of format 0, at handle 0
abbrev pub delivery_transfer : Tag → Bool → Transfer
delivery_transfer tag resume =
    record silent { delivery_tag = Some tag; message_format = Some 0; settled = Some false; resume = resume }

-- a delivery that was just sent, and of which nothing has arrived
abbrev pub initial_progress : Progress
initial_progress = record { held = None; whole = false; put_back = false; taken = false; withdrawn = false }

-- the fields of a delivery after a transfer has arrived: a first transfer gives it this id
abbrev pub fields_after : Transfer → ℕ → LinkFrame → Transfer
fields_after t id (FirstTransfer x) = record t { delivery_id = Some id }
fields_after t id _ = t

-- what is held after a transfer has arrived
abbrev pub held_after : Option Held → ℕ → LinkFrame → Held
held_after None id f = record {
  performative = fields_after (performative_of f) id f;
  pieces = payload_of f ∷ [];
}
held_after (Some held) id f = record {
  performative = fields_after held.performative id f;
  pieces = held.pieces ++ payload_of f ∷ [];
}

-- a delivery after a transfer has arrived: it is whole once its last transfer has arrived
abbrev pub received : Progress → ℕ → LinkFrame → Progress
received p id f = record p {
  held = Some (held_after p.held id f);
  whole = p.whole || not (performative_of f).more;
}

-- ---- a new pair

-- a source without fields
abbrev pub default_source : Source
default_source = record {
  address = None;
  durable = durable.None;
  expiry_policy = SessionEnd;
  timeout = 0;
  dynamic = false;
  dynamic_node_properties = None;
  distribution_mode = None;
  filter = None;
  default_outcome = None;
  outcomes = None;
  capabilities = None;
}

-- a target without fields
abbrev pub default_target : Target
default_target = record {
  address = None;
  durable = durable.None;
  expiry_policy = SessionEnd;
  timeout = 0;
  dynamic = false;
  dynamic_node_properties = None;
  capabilities = None;
}

-- the output handle of either endpoint
abbrev pub zero_output : OutputHandle
zero_output = record { 0 = 0 }

-- the flow state of an endpoint of a new pair, with this delivery-count and no credit
abbrev pub new_flow : ℕ → LinkFlowStateInner
new_flow count = record {
  initial_delivery_count = count;
  delivery_count = count;
  link_credit = 0;
  available = 0;
  drain = false;
  properties = None;
}

-- an endpoint of a new pair: the link "l" at handle 0, with this delivery-count, not attached
abbrev pub new_endpoint : {D M : Type 0} → ℕ → D → M → Endpoint Target D M
new_endpoint count unsettled more = record {
  local_state = Unattached;
  name = codes "l";
  snd_settle_mode = Mixed;
  rcv_settle_mode = First;
  source = Some default_source;
  target = Some default_target;
  max_message_size = 0;
  offered_capabilities = None;
  desired_capabilities = None;
  output_handle = Some (record { 0 = 0 });
  input_handle = None;
  flow_state = new_flow count;
  max_frame_size = 0;
  verify_incoming_source = false;
  verify_incoming_target = false;
  unsettled = unsettled;
  more = more;
}

abbrev pub new_sender : ℕ → Sender Target
new_sender count = new_endpoint count [] tt

abbrev pub new_receiver : ℕ → Receiver Target
new_receiver count = new_endpoint count [] false

-- a new pair: not attached, and nothing is sent, held or under way
abbrev pub new_world : ℕ → World
new_world count = record {
  phase = Apart;
  ledger = record { link = new_sender count; records = [] };
  receiver = new_receiver count;
  deliveries = [];
  resuming = [];
  wire = [];
}

-- ---- attaching: the endpoints

-- the sender after its attach was sent, which states its present delivery-count
abbrev pub sender_asking : ℕ → Sender Target → Sender Target
sender_asking limit s = record s {
  local_state = AttachSent;
  output_handle = Some (record { 0 = 0 });
  flow_state = record s.flow_state { initial_delivery_count = s.flow_state.delivery_count };
  max_frame_size = limit;
}

-- the sender after it has taken the receiver's attach: the exchange has emptied its map
abbrev pub sender_together : ℕ → Sender Target → Sender Target
sender_together limit s = record (sender_asking limit s) {
  local_state = Attached;
  input_handle = Some (record { 0 = 0 });
  unsettled = [];
}

-- the receiver at handle 0, with this frame limit
abbrev pub receiver_at_limit : ℕ → Receiver Target → Receiver Target
receiver_at_limit limit r = record r { output_handle = Some (record { 0 = 0 }); max_frame_size = limit }

-- the receiver after it has taken the sender's attach: both its delivery-counts are the sender's
abbrev pub receiver_half_attached : ℕ → ℕ → Receiver Target → Receiver Target
receiver_half_attached limit count r = record (receiver_at_limit limit r) {
  local_state = AttachReceived;
  input_handle = Some (record { 0 = 0 });
  flow_state = record r.flow_state { initial_delivery_count = count; delivery_count = count };
  more = false;
}

-- the receiver after its attach was sent
abbrev pub receiver_together : ℕ → ℕ → Receiver Target → Receiver Target
receiver_together limit count r = record (receiver_half_attached limit count r) { local_state = Attached }

-- ---- attaching: whether the attaches fit

-- whether an attach fits a frame
abbrev pub fits : Attach → ℕ → Bool
fits attach frame = nat_le (4 + attach_len attach) frame

-- whether the attaches of both endpoints, with all their deliveries and the sender's delivery-count, fit a
-- frame
abbrev pub attaches_fit : Sender Target → Receiver Target → ℕ → Bool
attaches_fit s r limit =
    let count = s.flow_state.delivery_count in
    let sent = counted_attach (sender_shown archetype.Target s) count (unwrap_or s.output_handle zero_output) in
    let answered = counted_attach (receiver_shown archetype.Target r) count (unwrap_or r.output_handle zero_output) in
    fits (with_entries sent (states_of s.unsettled) 0) limit && fits (with_entries answered r.unsettled 0) limit

-- whether an attach has begun at another frame limit, and not finished
abbrev pub is_halfway_at_other : ℕ → Phase → Bool
is_halfway_at_other limit (Halfway earlier) = not (limit == earlier)
is_halfway_at_other limit _ = false

abbrev pub PairTests : Type 0
PairTests = List (Bool × PairError)

-- A limit under 29 has no room for a payload byte beside a transfer that resumes.
abbrev pub attach_tests : World → ℕ → PairTests
attach_tests w limit =
    (is_together w.phase, error.AlreadyAttached)
    ∷ (is_halfway_at_other limit w.phase, error.LimitChanged)
    ∷ (nat_lt limit 29 || not (attaches_fit w.ledger.link w.receiver limit), error.LimitTooSmall)
    ∷ []

-- ---- attaching: what it does

-- the deliveries that an attach leaves to resume, by the unsettled maps of both endpoints
abbrev pub list_to_resume : World → Entries ResumingDelivery
list_to_resume w = deliveries_to_resume w.ledger.link.unsettled w.receiver.unsettled

-- The same list, item by item: each delivery of the sender's map, by what the receiver holds of it, and then each that
-- the receiver alone names, to be aborted.
abbrev pub items_to_resume : World → Entries ResumingDelivery
items_to_resume w =
    map (λ e. (e.0, next_of e.1 (held_at w e.0))) w.ledger.link.unsettled
    ++ unknown_aborted w.ledger.link.unsettled w.receiver.unsettled

-- The ledger after an exchange: the outcomes that it returns are resolved, and then its list is handed out.
abbrev pub ledger_together : ℕ → World → Ledger Target
ledger_together limit w = record {
  link = sender_together limit w.ledger.link;
  records = after (HandsOut (list_to_resume w))
      (after (Resolves (outcomes_returned w.ledger.link.unsettled w.receiver.unsettled)) w.ledger.records);
}

-- Both endpoints are attached at the frame limit. Each delivery of the sender's map is handed out, to be
-- resumed from the position that the receiver reports.
abbrev pub after_attach : ℕ → World → World
after_attach limit w = record w {
  phase = Together limit;
  ledger = ledger_together limit w;
  receiver = receiver_together limit w.ledger.link.flow_state.delivery_count w.receiver;
  resuming = list_to_resume w;
}

-- the answer is how many deliveries are to be resumed
pub record Attaches (old : World) (limit count : ℕ) (new : World) : Type 0 where
  pub counted : count ≡ length (list_to_resume old)
  pub world : new ≡ after_attach limit old

-- where an attach may stop: the sender's attach was sent, the receiver has taken it, or the receiver's attach
-- was sent
pub data AttachStop : Type 0 where
  Asked : AttachStop
  Taken : AttachStop
  Answered : AttachStop

abbrev pub receiver_at : AttachStop → ℕ → ℕ → Receiver Target → Receiver Target
receiver_at Asked limit count r = receiver_at_limit limit r
receiver_at Taken limit count r = receiver_half_attached limit count r
receiver_at Answered limit count r = receiver_together limit count r

-- the world of an attach that has stopped there
abbrev pub halfway_at : AttachStop → ℕ → World → World
halfway_at stop limit w = record w {
  phase = Halfway limit;
  ledger = record w.ledger { link = sender_asking limit w.ledger.link };
  receiver = receiver_at stop limit w.ledger.link.flow_state.delivery_count w.receiver;
}

-- An attach that is out of memory after the sender's was sent has stopped. No test of the call holds, and a
-- receiver that has sent its attach does not send it again.
pub record StopsAt (stop : AttachStop) (old : World) (limit : ℕ) (new : World) : Type 0 where
  pub may : refusal (attach_tests old limit) ≡ None
  pub onward : old.receiver.local_state ≡ Attached → stop ≡ Answered
  pub world : new ≡ halfway_at stop limit old

-- the later of two stops
abbrev pub later : AttachStop → AttachStop → AttachStop
later Asked stop = stop
later Taken Asked = Taken
later Taken stop = stop
later Answered stop = Answered

-- an attach that is out of memory leaves all as it was, or stops at one of these places
abbrev pub StaysOrStops : World → ℕ → World → Type 0
StaysOrStops old limit new = (new ≡ old) ⊎ ((stop : AttachStop) × StopsAt stop old limit new)

-- what an attach leaves that has failed
abbrev pub LeftByAttach : {A : Type 0} → Result A PairError → World → ℕ → World → Type 0
LeftByAttach (Ok a) old limit new = Unit {0}
LeftByAttach (Err error.OutOfMemory) old limit new = StaysOrStops old limit new
LeftByAttach (Err e) old limit new = new ≡ old

-- ---- the other calls

-- the flow state of an endpoint, with this link-credit
abbrev pub with_credit : LinkFlowStateInner → ℕ → LinkFlowStateInner
with_credit flow credit = record flow { link_credit = credit }

-- The receiver's link-credit becomes the granted credit, and the sender's, which is the answer, becomes the
-- receiver's delivery-count + the granted credit - the sender's delivery-count.
pub record Grants (old : World) (n answer : ℕ) (new : World) : Type 0 where
  pub credit : answer ≡ granted old.receiver.flow_state.delivery_count n old.ledger.link.flow_state.delivery_count
  pub world : new ≡ record old {
    ledger = record old.ledger { link = record old.ledger.link { flow_state = with_credit old.ledger.link.flow_state answer } };
    receiver = record old.receiver { flow_state = with_credit old.receiver.flow_state n };
  }

-- an entry is registered: it goes into the sender's map, and its tag gets the next number
abbrev pub after_registration : Ledger Target → Tag → UnsettledMessage → Ledger Target
after_registration ledger tag entry = record {
  link = record ledger.link { unsettled = with_entry ledger.link.unsettled tag entry };
  records = after (Enters tag) ledger.records;
}

-- the sender has spent one credit
abbrev pub after_one_credit : Ledger Target → Ledger Target
after_one_credit ledger = record ledger { link = record ledger.link { flow_state = after_consuming 1 ledger.link.flow_state } }

-- One more delivery: its payload is registered, one credit is spent, nothing of it has arrived, and its
-- transfers, which split the payload at the present limit in the fewest pieces, are at the end of the
-- wire. The answer is the tag and their number.
pub record Sends (old : World) (payload : List ℕ) (tag : Tag) (count : ℕ) (new : World) : Type 0 where
  pub frames : List LinkFrame
  pub tagged : tag ≡ next_tag old.ledger.link
  pub framed : IsSent old.ledger.link (delivery_transfer tag false) payload frames
  pub fewest : IsFewestPieces payload (payload_limit (delivery_transfer tag false) old.ledger.link.max_frame_size) count
  pub counted : count ≡ length frames
  pub world : new ≡ record old {
    ledger = after_registration (after_one_credit old.ledger) tag (new_entry 0 payload);
    deliveries = with_entry old.deliveries tag initial_progress;
    wire = old.wire ++ under tag frames;
  }

-- The first transfer leaves the wire, its payload is added to what is held of its delivery, and the receiver, which
-- notes whether more is to come of it, reports the position of that. The answer is the delivery's tag, this position, and whether its last
-- transfer has arrived.
pub record Arrives (old : World) (id : ℕ) (tag : Tag) (place : ℕ × ℕ) (whole : Bool) (new : World) : Type 0 where
  pub first : OnWire
  pub rest : List OnWire
  pub before : Progress
  pub taken : old.wire ≡ first ∷ rest
  pub carries : (performative_of first.frame).aborted ≡ false
  pub tagged : tag ≡ first.tag
  pub known : entry_at old.deliveries tag ≡ Some before
  pub reported : place ≡ position (bytes_in before.held ++ payload_of first.frame)
  pub ends : whole ≡ (received before id first.frame).whole
  pub world : new ≡ record old {
    receiver = record old.receiver {
      unsettled = with_entry old.receiver.unsettled tag (Some (received_at place));
      more = (performative_of first.frame).more;
    };
    deliveries = with_entry old.deliveries tag (received before id first.frame);
    wire = rest;
  }

-- The first transfer, which aborts its delivery, leaves the wire: what the receiver holds of the delivery is forgotten, and
-- its entry too. The answer is the delivery's tag.
pub record AbortArrives (old : World) (tag : Tag) (new : World) : Type 0 where
  pub first : OnWire
  pub rest : List OnWire
  pub taken : old.wire ≡ first ∷ rest
  pub aborts : (performative_of first.frame).aborted ≡ true
  pub tagged : tag ≡ first.tag
  pub world : new ≡ record old {
    receiver = record old.receiver {
      unsettled = without_entry old.receiver.unsettled tag;
      more = (performative_of first.frame).more;
    };
    deliveries = without_entry old.deliveries tag;
    wire = rest;
  }

-- The session of both endpoints is lost, and the wire with it: both are detached, without handles, and nothing is
-- under way. What is held and reported, the sender's map and each fate stay.
pub record Cuts (old new : World) : Type 0 where
  pub world : new ≡ record old {
    phase = Apart;
    ledger = record old.ledger {
      link = record old.ledger.link { local_state = Detached; output_handle = None; input_handle = None };
    };
    receiver = record old.receiver { local_state = Detached; output_handle = None; input_handle = None; more = false };
    wire = [];
  }

-- The rest of the next delivery is at the end of the wire, and its entry is registered again. The answer is
-- the tag, the number of transfers, and whether the receiver holds something of it already.
pub record Resumes (old : World) (tag : Tag) (count : ℕ) (resume : Bool) (new : World) : Type 0 where
  pub next : ResumingDelivery
  pub others : Entries ResumingDelivery
  pub entry : UnsettledMessage
  pub rest : List ℕ
  pub frames : List LinkFrame
  pub before : Progress
  pub listed : old.resuming ≡ (tag, next) ∷ others
  pub kept : entry_of next ≡ Some entry
  pub sends : rest_of next ≡ Some rest
  pub flagged : resume ≡ resumes next
  pub framed : IsSent old.ledger.link (delivery_transfer tag resume) rest frames
  pub fewest : IsFewestPieces rest (payload_limit (delivery_transfer tag resume) old.ledger.link.max_frame_size) count
  pub counted : count ≡ length frames
  pub known : entry_at old.deliveries tag ≡ Some before
  pub world : new ≡ record old {
    ledger = after_registration old.ledger tag entry;
    deliveries = with_entry old.deliveries tag (record before { put_back = false });
    resuming = others;
    wire = old.wire ++ under tag frames;
  }

-- The transfer that aborts the next of the list is at the end of the wire, and nothing is registered.
pub record SendsAbort (old : World) (tag : Tag) (new : World) : Type 0 where
  pub others : Entries ResumingDelivery
  pub handle : InputHandle
  pub listed : old.resuming ≡ (tag, Abort 0 None) ∷ others
  pub handle_is : old.ledger.link.input_handle ≡ Some handle
  pub world : new ≡ record old { resuming = others; wire = old.wire ++ under tag (abort_frame zero_output handle tag 0 ∷ []) }

-- The next of the list is an abort and leaves it, and nothing is registered or sent.
pub record DropsAbort (old : World) (tag : Tag) (new : World) : Type 0 where
  pub others : Entries ResumingDelivery
  pub listed : old.resuming ≡ (tag, Abort 0 None) ∷ others
  pub world : new ≡ record old { resuming = others }

-- The entry of the next delivery is registered again, and nothing is sent.
pub record PutsBack (old : World) (tag : Tag) (new : World) : Type 0 where
  pub next : ResumingDelivery
  pub others : Entries ResumingDelivery
  pub entry : UnsettledMessage
  pub before : Progress
  pub listed : old.resuming ≡ (tag, next) ∷ others
  pub kept : entry_of next ≡ Some entry
  pub known : entry_at old.deliveries tag ≡ Some before
  pub world : new ≡ record old {
    ledger = after_registration old.ledger tag entry;
    deliveries = with_entry old.deliveries tag (record before { put_back = true });
    resuming = others;
  }

-- one of the receiver's credits is spent on the delivery, which counts as handed out from then on
abbrev pub after_hand_out : World → Tag → Progress → World
after_hand_out w tag p = record w {
  receiver = spent w.receiver;
  deliveries = with_entry w.deliveries tag (record p { taken = true });
}

-- what a delivery leaves that cannot be decoded: it counts as handed out
abbrev pub IsUndecoded : World → Tag → World → Type 0
IsUndecoded old tag new = (p : Progress) × (entry_at old.deliveries tag ≡ Some p) × (new ≡ after_hand_out old tag p)

-- what a hand-out leaves that has failed
abbrev pub LeftByHandOut : {A : Type 0} → Result A PairError → World → Tag → World → Type 0
LeftByHandOut (Ok a) old tag new = Unit {0}
LeftByHandOut (Err error.Decode) old tag new = IsUndecoded old tag new
LeftByHandOut (Err e) old tag new = new ≡ old

-- The receiver hands out the delivery with its message, which is decoded from what is held.
pub record HandsOutDelivery {B : Type 0} (decoded : List ℕ → Result (Message B) DecodeError) (old : World) (tag : Tag)
    (delivery : Delivered B) (new : World) : Type 0 where
  pub before : Progress
  pub held : Held
  pub known : entry_at old.deliveries tag ≡ Some before
  pub holds : before.held ≡ Some held
  pub given : IsDelivery old.receiver held.performative (decoded (held_bytes held)) delivery
  pub world : new ≡ after_hand_out old tag before

-- The delivery leaves both maps and the pair, and its registration is resolved as accepted.
pub record Settles (old : World) (tag : Tag) (new : World) : Type 0 where
  pub world : new ≡ record old {
    ledger = record {
      link = record old.ledger.link { unsettled = without_entry old.ledger.link.unsettled tag };
      records = after (Resolves ((tag, Ok (Some Accepted)) ∷ [])) old.ledger.records;
    };
    receiver = record old.receiver { unsettled = without_entry old.receiver.unsettled tag };
    deliveries = without_entry old.deliveries tag;
  }

-- what is kept of a delivery that is withdrawn: nothing, unless the receiver holds something of it
abbrev pub after_withdrawal : Entries Progress → Tag → Progress → Entries Progress
after_withdrawal deliveries tag p =
    if is_some p.held then with_entry deliveries tag (record p { withdrawn = true }) else without_entry deliveries tag

-- The delivery leaves the sender's map, and its registration is withdrawn. What the receiver holds and
-- reports of it stays.
pub record WithdrawsDelivery (old : World) (tag : Tag) (new : World) : Type 0 where
  pub before : Progress
  pub known : entry_at old.deliveries tag ≡ Some before
  pub world : new ≡ record old {
    ledger = record {
      link = record old.ledger.link { unsettled = without_entry old.ledger.link.unsettled tag };
      records = after (Withdraws tag) old.ledger.records;
    };
    deliveries = after_withdrawal old.deliveries tag before;
  }

-- ---- refusals, in the order of the tests

abbrev pub is_empty : {A : Type 0} → List A → Bool
is_empty [] = true
is_empty (x ∷ xs) = false

abbrev pub grant_tests : World → PairTests
grant_tests w = (not (is_together w.phase), error.NotAttached) ∷ []

abbrev pub send_tests : World → List ℕ → PairTests
send_tests w payload =
    (not (is_together w.phase), error.NotAttached)
    ∷ (not (is_empty w.resuming), error.ResumeFirst)
    ∷ (nat_le (2 ^ 32) (length payload), error.PayloadTooLong)
    ∷ (w.ledger.link.flow_state.link_credit == 0, error.CreditMissing)
    ∷ (is_some (entry_at w.ledger.link.unsettled (next_tag w.ledger.link)) || is_some (held_at w (next_tag w.ledger.link)), error.TagPending)
    ∷ []

abbrev pub arrive_tests : World → PairTests
arrive_tests w = (not (is_together w.phase), error.NotAttached) ∷ (is_empty w.wire, error.WireEmpty) ∷ []

abbrev pub cut_tests : World → PairTests
cut_tests w = (not (is_together w.phase), error.NotAttached) ∷ (not (is_empty w.resuming), error.StillHandedOut) ∷ []

-- the tests of `resume_next` and of `put_back_next`
abbrev pub next_tests : World → PairTests
next_tests w = (not (is_together w.phase), error.NotAttached) ∷ (is_empty w.resuming, error.NothingToResume) ∷ []

-- whether a delivery has this flag
abbrev pub has_flag : (Progress → Bool) → World → Tag → Bool
has_flag flag w tag = option_map_or flag (entry_at w.deliveries tag) false

-- whether the receiver holds nothing of the tag, or what it holds was withdrawn
abbrev pub is_unknown : World → Tag → Bool
is_unknown w tag = not (is_some (held_at w tag)) || has_flag (λ p. p.withdrawn) w tag

abbrev pub is_apart : Phase → Bool
is_apart Apart = true
is_apart _ = false

abbrev pub withdraw_tests : World → Tag → PairTests
withdraw_tests w tag =
    (not (is_apart w.phase), error.AlreadyAttached)
    ∷ (not (is_some (entry_at w.ledger.link.unsettled tag)), error.UnknownTag)
    ∷ (has_flag (λ p. p.whole) w tag, error.AlreadyWhole)
    ∷ []

abbrev pub is_error : {A E : Type 0} → Result A E → Bool
is_error (Ok a) = false
is_error (Err e) = true

abbrev pub hand_out_tests : {B : Type 0} → (List ℕ → Result (Message B) DecodeError) → World → Tag → PairTests
hand_out_tests decoded w tag =
    (not (is_together w.phase), error.NotAttached)
    ∷ (is_unknown w tag, error.UnknownTag)
    ∷ (not (has_flag (λ p. p.whole) w tag), error.NotWhole)
    ∷ (has_flag (λ p. p.taken) w tag, error.AlreadyHandedOut)
    ∷ (w.receiver.flow_state.link_credit == 0, error.TransferLimitExceeded)
    ∷ (is_error (decoded (bytes_in (held_at w tag))), error.Decode)
    ∷ []

abbrev pub settle_tests : World → Tag → PairTests
settle_tests w tag =
    (not (is_together w.phase), error.NotAttached)
    ∷ (is_unknown w tag, error.UnknownTag)
    ∷ (not (has_flag (λ p. p.whole) w tag), error.NotWhole)
    ∷ (not (is_empty w.resuming), error.ResumeFirst)
    ∷ (not (is_empty (frames_of tag w.wire)), error.OnWire)
    ∷ []
