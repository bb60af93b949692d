-- What each call of a pair keeps (clause `kept`), beside that its deliveries are good, so that a call is
-- refused only for the reasons that its doc lists. The laws have it as their premise.
use Rattle.std.specs.Prelude.{◌≡◌, ◌⊎◌, ℕ, Bool, true, false, not, ◌&&◌, ◌<◌, ◌≤◌, ◌^◌, List, [], ◌∷◌, ◌++◌, length, drop, Option, Some, None, IsSome, is_some, IfSome, unwrap_or}
use Rattle.std.specs.List.{AllByRecursion}
use Rattle.amqp_link_types.specs.Entries.{Tag, IsMap}
use Rattle.amqp_link_types.specs.declared.delivery.UnsettledMessage.{UnsettledMessage}
use Rattle.amqp_link_types.specs.declared.frame.LinkFrame.{LinkFrame}
use Rattle.amqp_link_types.specs.declared.frame.LinkFrame.TheVariants.{FirstTransfer, TransferContinuation}
use Rattle.amqp_link_types.specs.declared.types.delivery_state.DeliveryState.{DeliveryState}
use Rattle.amqp_link_types.specs.declared.types.terminus.Target.{Target}
use Rattle.amqp_link_types.specs.declared.types.transfer.Transfer.{Transfer}
use Rattle.amqp_link_state.specs.declared.state.LinkState.{LinkState}
use Rattle.amqp_link_state.specs.declared.state.LinkState.TheVariants.{Unattached, AttachSent, AttachReceived, Attached, Detached}
use Rattle.amqp_link_core.specs.Held.{Held}
use Rattle.amqp_link_core.specs.Merging.{IsSilent}
use Rattle.amqp_link_core.specs.declared.resumption.ResumingDelivery.{ResumingDelivery}
use Rattle.amqp_link_sender.specs.Senders.{Sender}
use Rattle.amqp_link_receiver.specs.Receivers.{Receiver}
use Rattle.amqp_link_ledger.specs.Fates.{is_pending_fate, latest}
use Rattle.amqp_link_ledger.specs.declared.fate.Fate.{Fate}
use Rattle.amqp_link_ledger.specs.declared.fate.Fate.TheVariants.{Pending, HandedOut, Withdrawn}
use Rattle.amqp_link_worlds.specs.Resumptions.{entry_of, rest_of, resumes}
use Rattle.amqp_link_worlds.specs.Wires.{IsInTurn}
use Rattle.amqp_link_worlds.specs.Steps.{delivery_transfer, zero_output, new_sender, new_receiver}
use Rattle.amqp_link_worlds.specs.Worlds.{World, Phase, Apart, Halfway, Together, is_together, Standing, standing, IsGood, IsOpen, bytes_in, AreAborts, receiver_entry}
use Rattle.amqp_link_worlds.specs.declared.progress.Progress.{Progress}
use Rattle.amqp_link_core.specs.declared.resumption.ResumingDelivery.TheVariants.{Abort}

-- ---- registrations of one tag

-- no registration is pending
abbrev pub HaveMoved : List Fate → Type 0
HaveMoved fates = AllByRecursion (λ fate. is_pending_fate fate ≡ false) fates

-- the latest registration has this fate, and no earlier one is pending
pub record IsLatest (fate : Fate) (fates : List Fate) : Type 0 where
  pub earlier : List Fate
  pub before : HaveMoved earlier
  pub fates_are : fates ≡ earlier ++ fate ∷ []

-- no registration is pending, and the latest is not handed out
pub record AreOver (fates : List Fate) : Type 0 where
  pub before : HaveMoved fates
  pub last : IsOpen (latest fates) → ⊥

-- ---- transfers

-- a transfer that carries the tag and the fields of this delivery of a pair
abbrev pub IsNamed : Tag → Transfer → Type 0
IsNamed tag t = t ≡ record (delivery_transfer tag t.resume) { delivery_id = t.delivery_id; more = t.more }

-- a continuation without id and tag that adds no field
pub record IsContinuing (t : Transfer) : Type 0 where
  pub id : t.delivery_id ≡ None
  pub tag : t.delivery_tag ≡ None
  pub silent : IsSilent t
  pub carries : t.aborted ≡ false

-- the frame of a first transfer of the delivery
abbrev pub IsOpening : Tag → LinkFrame → Type 0
IsOpening tag (FirstTransfer x) = IsNamed tag x.performative
IsOpening tag _ = ⊥

-- the frame of a further transfer
abbrev pub IsContinuation : LinkFrame → Type 0
IsContinuation (TransferContinuation x) = IsContinuing x.performative
IsContinuation _ = ⊥

-- of the transfers under way the first may begin the delivery or resume it; a further one adds to what is
-- held
abbrev pub IsNext : Tag → Option Held → List LinkFrame → Type 0
IsNext tag held [] = Unit {0}
IsNext tag held (f ∷ frames) =
    (IsOpening tag f ⊎ (IsSome held × IsContinuation f)) × AllByRecursion IsContinuation frames

-- ---- one delivery

-- an entry as a pair's own send registers it: a tag of four bytes, a payload under 2^32 bytes, no state, and
-- format 0
pub record IsOwn (tag : Tag) (entry : UnsettledMessage) : Type 0 where
  pub tag_is : length tag ≡ 4
  pub short : length entry.payload < 2 ^ 32
  pub state : entry.state ≡ None
  pub format : entry.message_format ≡ 0

-- what is held has the fields of the delivery's transfers, and an id
pub record IsHeld (tag : Tag) (held : Held) : Type 0 where
  pub named : IsNamed tag held.performative
  pub has_id : IsSome held.performative.delivery_id

-- a delivery is good, and its transfers under way are in order
pub record IsUnderWay (out : Bool) (tag : Tag) (entry : UnsettledMessage) (p : Progress) (reported : Option (Option DeliveryState))
    (frames : List LinkFrame) : Type 0 where
  pub good : IsGood entry.payload p out reported frames None
  pub own : IsOwn tag entry
  pub held : IfSome p.held (IsHeld tag)
  pub next : IsNext tag p.held frames
  pub stays : p.withdrawn ≡ false

-- A delivery that is to be resumed: nothing is under way, what is not held is to be sent, and its transfer
-- has resume = true if something is held.
pub record IsListed (tag : Tag) (next : ResumingDelivery) (p : Progress) (reported : Option (Option DeliveryState))
    (frames : List LinkFrame) : Type 0 where
  pub entry : UnsettledMessage
  pub entry_is : entry_of next ≡ Some entry
  pub under_way : IsUnderWay false tag entry p reported frames
  pub rest : rest_of next ≡ Some (drop (length (bytes_in p.held)) entry.payload)
  pub flag : resumes next ≡ is_some p.held

-- A withdrawn delivery of which the receiver holds something, and reports it: if the endpoints are attached,
-- the transfer that aborts it may be under way.
pub record IsWithdrawn (together : Bool) (tag : Tag) (p : Progress) (reported : Option (Option DeliveryState)) (frames : List LinkFrame)
    (fates : List Fate) : Type 0 where
  pub flag : p.withdrawn ≡ true
  pub unfinished : p.whole ≡ false
  pub tag_is : length tag ≡ 4
  pub holds : IsSome p.held
  pub held : IfSome p.held (IsHeld tag)
  pub report : reported ≡ receiver_entry p.held
  pub aborts : AreAborts frames
  pub quiet : together ≡ false → frames ≡ []
  pub last : IsLatest Withdrawn fates

-- a withdrawn delivery that is to be aborted: nothing is under way
pub record IsAborting (tag : Tag) (next : ResumingDelivery) (p : Progress) (reported : Option (Option DeliveryState)) (frames : List LinkFrame)
    (fates : List Fate) : Type 0 where
  pub is : next ≡ Abort 0 None
  pub withdrawn : IsWithdrawn false tag p reported frames fates

-- A tag is of no delivery, and the world has nothing of it; or it was withdrawn, and the receiver holds
-- something of it; or it has an entry in the sender's map; or it is in the list to resume, or to be aborted.
abbrev pub IsKeptAs : Bool → Tag → Option UnsettledMessage → Option ResumingDelivery → Option Progress → Option (Option DeliveryState)
    → List LinkFrame → List Fate → Type 0
IsKeptAs together tag None None None reported frames fates =
    (reported ≡ None) × (frames ≡ []) × AreOver fates
IsKeptAs together tag None None (Some p) reported frames fates =
    IsWithdrawn together tag p reported frames fates
IsKeptAs together tag (Some entry) None (Some p) reported frames fates =
    IsUnderWay (together && not p.put_back) tag entry p reported frames × IsLatest Pending fates
IsKeptAs together tag None (Some next) (Some p) reported frames fates =
    (IsListed tag next p reported frames × IsLatest HandedOut fates) ⊎ IsAborting tag next p reported frames fates
IsKeptAs together tag _ _ _ reported frames fates = ⊥

abbrev pub IsTagKept : Bool → Tag → Standing → Type 0
IsTagKept together tag s = IsKeptAs together tag s.own s.listed s.progress s.reported s.frames s.fates

-- ---- both endpoints

-- an endpoint is as it was made, but for its state, handles, counts, credit, frame limit and unsettled map, and at a
-- receiver whether more is to come of a delivery
abbrev pub IsPlainSender : Sender Target → Type 0
IsPlainSender s = let flow = s.flow_state in let plain = new_sender 0 in s ≡ record plain {
  local_state = s.local_state;
  output_handle = s.output_handle;
  input_handle = s.input_handle;
  flow_state = record plain.flow_state {
    initial_delivery_count = flow.initial_delivery_count;
    delivery_count = flow.delivery_count;
    link_credit = flow.link_credit;
  };
  max_frame_size = s.max_frame_size;
  unsettled = s.unsettled;
}

abbrev pub IsPlainReceiver : Receiver Target → Type 0
IsPlainReceiver r = let flow = r.flow_state in let plain = new_receiver 0 in r ≡ record plain {
  local_state = r.local_state;
  output_handle = r.output_handle;
  input_handle = r.input_handle;
  flow_state = record plain.flow_state {
    initial_delivery_count = flow.initial_delivery_count;
    delivery_count = flow.delivery_count;
    link_credit = flow.link_credit;
  };
  max_frame_size = r.max_frame_size;
  unsettled = r.unsettled;
  more = r.more;
}

-- both are attached, at a limit with room for a payload byte beside a transfer that resumes
pub record AreTogether (limit : ℕ) (s : Sender Target) (r : Receiver Target) : Type 0 where
  pub enough : 29 ≤ limit
  pub sender_state : s.local_state ≡ Attached
  pub receiver_state : r.local_state ≡ Attached
  pub sender_output : s.output_handle ≡ Some (record { 0 = 0 })
  pub sender_input : s.input_handle ≡ Some (record { 0 = 0 })
  pub receiver_output : r.output_handle ≡ Some (record { 0 = 0 })
  pub frame : s.max_frame_size ≡ limit

-- the receiver has taken the sender's attach, and both its delivery-counts are the sender's
pub record HasTaken (count : ℕ) (r : Receiver Target) : Type 0 where
  pub initial : r.flow_state.initial_delivery_count ≡ count
  pub present : r.flow_state.delivery_count ≡ count
  pub input : r.input_handle ≡ Some (record { 0 = 0 })

-- what holds of a receiver in this state while an attach is between its steps
abbrev pub IsOnWay : ℕ → Receiver Target → LinkState → Type 0
IsOnWay count r Unattached = Unit {0}
IsOnWay count r Detached = Unit {0}
IsOnWay count r AttachReceived = HasTaken count r
IsOnWay count r Attached = HasTaken count r
IsOnWay count r _ = ⊥

-- the sender has sent its attach, which stated its present delivery-count
pub record AreHalfway (limit : ℕ) (s : Sender Target) (r : Receiver Target) : Type 0 where
  pub sender_state : s.local_state ≡ AttachSent
  pub sender_output : s.output_handle ≡ Some (record { 0 = 0 })
  pub receiver_output : r.output_handle ≡ Some (record { 0 = 0 })
  pub counted : s.flow_state.initial_delivery_count ≡ s.flow_state.delivery_count
  pub sender_frame : s.max_frame_size ≡ limit
  pub receiver_frame : r.max_frame_size ≡ limit
  pub receiver_state : IsOnWay s.flow_state.delivery_count r r.local_state

-- Neither has sent an attach since it was made or detached; if no attach was ever sent, the initial count is
-- the present one. Neither has another handle than 0.
pub record AreApart (s : Sender Target) (r : Receiver Target) : Type 0 where
  pub alike : r.local_state ≡ s.local_state
  pub state : (s.local_state ≡ Unattached) ⊎ (s.local_state ≡ Detached)
  pub counted : s.local_state ≡ Unattached → s.flow_state.initial_delivery_count ≡ s.flow_state.delivery_count
  pub sender_output : unwrap_or s.output_handle zero_output ≡ zero_output
  pub receiver_output : unwrap_or r.output_handle zero_output ≡ zero_output

abbrev pub AreEnds : Phase → Sender Target → Receiver Target → Type 0
AreEnds Apart s r = AreApart s r
AreEnds (Halfway limit) s r = AreHalfway limit s r
AreEnds (Together limit) s r = AreTogether limit s r

-- ---- the whole pair

pub record IsWorld (w : World) : Type 0 where
  pub ends : AreEnds w.phase w.ledger.link w.receiver
  pub sender : IsPlainSender w.ledger.link
  pub receiver : IsPlainReceiver w.receiver
  pub unsettled : IsMap w.ledger.link.unsettled
  pub reports : IsMap w.receiver.unsettled
  pub deliveries : IsMap w.deliveries
  pub resuming : IsMap w.resuming
  pub apart : is_together w.phase ≡ false → w.resuming ≡ []
  pub idle : is_together w.phase ≡ false → w.wire ≡ []
  pub turn : IsInTurn w.receiver.more w.wire
  pub each : (tag : Tag) → IsTagKept (is_together w.phase) tag (standing w tag)
