-- The world of a pair: both link endpoints, what has arrived of each delivery, what is to be resumed, and
-- the wire from the sender to the receiver (OASIS AMQP 1.0 core, 2.6.12, 2.6.13 and 2.7.5).
use Rattle.std.specs.Prelude.{◌≡◌, ℕ, Bool, true, false, not, ◌&&◌, List, [], ◌∷◌, ◌++◌, length, drop, Option, Some, None, option_and_then, option_map, IfSome, IsSomeAnd}
use Rattle.std.specs.Option.{option_or, option_map_or}
use Rattle.amqp_link_payloads.specs.Position.{position}
use Rattle.amqp_link_types.specs.Entries.{Tag, Entries, entry_at}
use Rattle.amqp_link_types.specs.Frames.{performative_of}
use Rattle.amqp_link_types.specs.declared.delivery.UnsettledMessage.{UnsettledMessage}
use Rattle.amqp_link_types.specs.declared.frame.LinkFrame.{LinkFrame}
use Rattle.amqp_link_types.specs.declared.types.delivery_state.DeliveryState.{DeliveryState}
use Rattle.amqp_link_types.specs.declared.types.delivery_state.DeliveryState.TheVariants.{Received}
use Rattle.amqp_link_types.specs.declared.types.terminus.Target.{Target}
use Rattle.amqp_link_core.specs.Held.{Held, held_bytes}
use Rattle.amqp_link_core.specs.declared.resumption.ResumingDelivery.{ResumingDelivery}
use Rattle.amqp_link_receiver.specs.Receivers.{Receiver}
use Rattle.amqp_link_ledger.specs.Fates.{fates_of, latest}
use Rattle.amqp_link_ledger.specs.Ledgers.{Ledger}
use Rattle.amqp_link_ledger.specs.declared.fate.Fate.{Fate}
use Rattle.amqp_link_ledger.specs.declared.fate.Fate.TheVariants.{Pending, HandedOut, Withdrawn}
use Rattle.amqp_link_worlds.specs.Resumptions.{entry_of, rest_of}
use Rattle.amqp_link_worlds.specs.Wires.{OnWire, frames_of, payload_of_all}
use Rattle.amqp_link_worlds.specs.declared.progress.Progress.{Progress}

-- how far the endpoints are attached: not at all, between the steps of an attach at a frame limit, or both at
-- it
pub data Phase : Type 0 where
  Apart : Phase
  Halfway : ℕ → Phase
  Together : ℕ → Phase

abbrev pub is_together : Phase → Bool
is_together (Together limit) = true
is_together _ = false

pub record World : Type 0 where
  pub phase : Phase
  pub ledger : Ledger Target
  pub receiver : Receiver Target
  -- how far each delivery has come, from its send until its settlement
  pub deliveries : Entries Progress
  -- the deliveries of the last exchange that are still to be resumed, in order
  pub resuming : Entries ResumingDelivery
  pub wire : List OnWire

-- ---- one delivery

-- all that a world has of a tag
pub record Standing : Type 0 where
  -- its entry in the sender's map
  pub own : Option UnsettledMessage
  -- its delivery in the list to resume
  pub listed : Option ResumingDelivery
  pub progress : Option Progress
  -- its entry in the receiver's map
  pub reported : Option (Option DeliveryState)
  -- its transfers under way
  pub frames : List LinkFrame
  -- the fates of its registrations
  pub fates : List Fate

abbrev pub standing : World → Tag → Standing
standing w tag = record {
  own = entry_at w.ledger.link.unsettled tag;
  listed = entry_at w.resuming tag;
  progress = entry_at w.deliveries tag;
  reported = entry_at w.receiver.unsettled tag;
  frames = frames_of tag w.wire;
  fates = fates_of tag w.ledger.records;
}

-- what the receiver holds of a tag
abbrev pub held_at : World → Tag → Option Held
held_at w tag = option_and_then (λ progress. progress.held) (entry_at w.deliveries tag)

-- the bytes that are held: none if nothing has arrived
abbrev pub bytes_in : Option Held → List ℕ
bytes_in None = []
bytes_in (Some held) = held_bytes held

-- Whether a delivery was sent or resumed in this attachment: both endpoints are attached, the sender has
-- its entry, and the entry was not put back unsent.
abbrev pub is_out : Bool → Option UnsettledMessage → Progress → Bool
is_out together (Some entry) p = together && not p.put_back
is_out together None p = false

-- the same of a tag: false if it is no delivery
abbrev pub is_out_at : World → Tag → Bool
is_out_at w tag = option_map_or (is_out (is_together w.phase) (entry_at w.ledger.link.unsettled tag)) (entry_at w.deliveries tag) false

-- some bytes follow the front and make the whole
abbrev pub IsFront : List ℕ → List ℕ → Type 0
IsFront front whole = (rest : List ℕ) × (front ++ rest ≡ whole)

-- Of the transfers under way only the last has more = false, and none is under way only if the last has
-- arrived.
abbrev pub EndsInTime : Bool → List LinkFrame → Type 0
EndsInTime whole [] = whole ≡ true
EndsInTime whole (f ∷ []) = (performative_of f).more ≡ false
EndsInTime whole (f ∷ g ∷ frames) = ((performative_of f).more ≡ true) × EndsInTime whole (g ∷ frames)

-- the state of a delivery that was received up to a position
abbrev pub received_at : ℕ × ℕ → DeliveryState
received_at place = Received place.0 place.1

-- the receiver's entry for a delivery of which it holds this: none if nothing has arrived
abbrev pub receiver_entry : Option Held → Option (Option DeliveryState)
receiver_entry None = None
receiver_entry (Some held) = Some (Some (received_at (position (held_bytes held))))

-- What is held of a delivery is a front of its payload, and the receiver reports its position. If the
-- delivery is out, the transfers under way carry the rest, and the last one ends it; otherwise none is under
-- way. Once its last transfer has arrived, the whole payload is held. If its entry is handed out, the rest to
-- send is what is not held.
pub record IsGood (payload : List ℕ) (p : Progress) (out : Bool) (reported : Option (Option DeliveryState)) (frames : List LinkFrame)
    (rest : Option (List ℕ)) : Type 0 where
  pub front : IsFront (bytes_in p.held) payload
  pub report : reported ≡ receiver_entry p.held
  pub all : out ≡ true → bytes_in p.held ++ payload_of_all frames ≡ payload
  pub ends : out ≡ true → EndsInTime p.whole frames
  pub quiet : out ≡ false → frames ≡ []
  pub complete : p.whole ≡ true → bytes_in p.held ≡ payload
  pub rest_is : IfSome rest (λ bytes. bytes ≡ drop (length (bytes_in p.held)) payload)

-- its entry at the sender: in the unsettled map, or handed out in the list to resume
abbrev pub entry_in : Standing → Option UnsettledMessage
entry_in s = option_or s.own (option_and_then entry_of s.listed)

-- the bytes to send of it, if its entry is handed out
abbrev pub rest_in : Standing → Option (List ℕ)
rest_in s = option_and_then rest_of s.listed

-- the latest registration of a delivery is pending or handed out
abbrev pub IsOpen : Option Fate → Type 0
IsOpen (Some Pending) = Unit {0}
IsOpen (Some HandedOut) = Unit {0}
IsOpen _ = ⊥

abbrev pub IsGoodIn : Bool → Standing → Type 0
IsGoodIn together s = IsSomeAnd (entry_in s) (λ entry. IsSomeAnd s.progress (λ p.
    IsGood entry.payload p (is_out together s.own p) s.reported s.frames (rest_in s)))

-- at most one transfer is under way, and it aborts the delivery
abbrev pub AreAborts : List LinkFrame → Type 0
AreAborts [] = Unit {0}
AreAborts (f ∷ []) = (performative_of f).aborted ≡ true
AreAborts (f ∷ g ∷ frames) = ⊥

-- Of a withdrawn delivery the receiver has an entry exactly if it holds something, received at the position of
-- that, and at most one transfer is under way, which aborts it.
pub record IsGivenUp (held : Option Held) (reported : Option (Option DeliveryState)) (frames : List LinkFrame) : Type 0 where
  pub report : reported ≡ receiver_entry held
  pub aborts : AreAborts frames

-- each delivery whose latest registration is pending or handed out is good, and each withdrawn one given up
pub record Good (w : World) : Type 0 where
  pub deliveries : (tag : Tag) → IsOpen (latest (fates_of tag w.ledger.records)) → IsGoodIn (is_together w.phase) (standing w tag)
  pub withdrawn : (tag : Tag) → latest (fates_of tag w.ledger.records) ≡ Some Withdrawn
      → IsGivenUp (held_at w tag) (entry_at w.receiver.unsettled tag) (frames_of tag w.wire)

-- the payload of a tag's entry at the sender
abbrev pub registered_payload : World → Tag → Option (List ℕ)
registered_payload w tag = option_map (λ entry. entry.payload) (entry_in (standing w tag))

-- if a tag's latest registration is pending or handed out, the entry at the sender has this payload
abbrev pub IsRegistered : World → Tag → List ℕ → Type 0
IsRegistered w tag payload = IsOpen (latest (fates_of tag w.ledger.records)) → IsSomeAnd (entry_in (standing w tag)) (λ entry. entry.payload ≡ payload)
