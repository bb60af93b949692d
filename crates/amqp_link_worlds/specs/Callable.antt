-- When the endpoints of a pair refuse a call only if they are out of memory.
use Rattle.std.specs.Prelude.{◌≡◌, ◌<◌, ◌≤◌, ℕ, List, [], Some, None, true, false, is_some, IsSome}
use Rattle.amqp_link_payloads.specs.Position.{position}
use Rattle.amqp_link_types.specs.Entries.{Tag, entry_at}
use Rattle.amqp_link_types.specs.Refusals.{refusal}
use Rattle.amqp_link_types.specs.declared.delivery.UnsettledMessage.{UnsettledMessage}
use Rattle.amqp_link_types.specs.declared.types.definitions.SenderSettleMode.TheVariants.{Mixed}
use Rattle.amqp_link_types.specs.declared.types.terminus.Target.{Target}
use Rattle.amqp_link_core.specs.Held.{Held, held_bytes}
use Rattle.amqp_link_core.specs.declared.resumption.ResumingDelivery.{ResumingDelivery}
use Rattle.amqp_link_endpoint.specs.LinkStates.{state_without_session}
use Rattle.amqp_link_state.specs.declared.state.LinkState.TheVariants.{Detached}
use Rattle.amqp_link_receiver.specs.Receivers.{Receiver}
use Rattle.amqp_link_sender.specs.Senders.{Sender, next_tag, unsettled_transfer_tests, abort_transfer}
use Rattle.amqp_link_receiver.specs.Completing.{may_receive, transfer_refusal, entered, spent}
use Rattle.amqp_link_worlds.specs.Resumptions.{entry_of, rest_of, resumes}
use Rattle.amqp_link_worlds.specs.Steps.{delivery_transfer, zero_output}
use Rattle.amqp_link_split.specs.Room.{has_room}
use Rattle.amqp_link_worlds.specs.Wires.{frames_of}
use Rattle.amqp_link_worlds.specs.Worlds.{World, held_at, receiver_entry}
use Rattle.amqp_link_worlds.specs.declared.progress.Progress.{Progress}

-- both handles are 0, the mode is mixed, there is credit, the next tag is free, and the frames have room
pub record CanSend (s : Sender Target) : Type 0 where
  pub output : s.output_handle ≡ Some (record { 0 = 0 })
  pub input : s.input_handle ≡ Some (record { 0 = 0 })
  pub mode : s.snd_settle_mode ≡ Mixed
  pub credit : 0 < s.flow_state.link_credit
  pub free : entry_at s.unsettled (next_tag s) ≡ None
  pub room : 29 ≤ s.max_frame_size

-- a world has nothing of this tag: no delivery, no report, and no transfer under way
pub record IsFree (w : World) (tag : Tag) : Type 0 where
  pub delivery : entry_at w.deliveries tag ≡ None
  pub report : entry_at w.receiver.unsettled tag ≡ None
  pub quiet : frames_of tag w.wire ≡ []

-- both endpoints have an output handle, and neither drains
pub record CanGrant (s : Sender Target) (r : Receiver Target) : Type 0 where
  pub sender_output : s.output_handle ≡ Some (record { 0 = 0 })
  pub receiver_output : r.output_handle ≡ Some (record { 0 = 0 })
  pub sender_drain : s.flow_state.drain ≡ false
  pub receiver_drain : r.flow_state.drain ≡ false

-- both endpoints are detached if their session is lost
pub record CanCut (s : Sender Target) (r : Receiver Target) : Type 0 where
  pub sender : state_without_session s.local_state ≡ Detached
  pub receiver : state_without_session r.local_state ≡ Detached

-- a delivery of the list has an entry and a rest, its tag is free, and a frame has room for its transfer
pub record CanResume (w : World) (tag : Tag) (next : ResumingDelivery) : Type 0 where
  pub entry : UnsettledMessage
  pub rest : List ℕ
  pub before : Progress
  pub kept : entry_of next ≡ Some entry
  pub format : entry.message_format ≡ 0
  pub sends : rest_of next ≡ Some rest
  pub known : entry_at w.deliveries tag ≡ Some before
  pub free : entry_at w.ledger.link.unsettled tag ≡ None
  pub allowed : refusal (unsettled_transfer_tests w.ledger.link (delivery_transfer tag (resumes next)) tag rest) ≡ None
  -- its transfer has resume = true exactly if the receiver reports it
  pub flag : resumes next ≡ is_some (entry_at w.receiver.unsettled tag)

-- the transfer that aborts what is held of a tag can be sent: both handles are 0, the tag is free, and a frame
-- has room; the receiver reports what it holds
pub record CanAbort (w : World) (tag : Tag) : Type 0 where
  pub output : w.ledger.link.output_handle ≡ Some (record { 0 = 0 })
  pub input : w.ledger.link.input_handle ≡ Some (record { 0 = 0 })
  pub free : entry_at w.ledger.link.unsettled tag ≡ None
  pub room : has_room (abort_transfer zero_output tag 0) w.ledger.link.max_frame_size [] ≡ true
  pub report : entry_at w.receiver.unsettled tag ≡ receiver_entry (held_at w tag)

-- a receiver that has credit takes the delivery that is held, and its report stays as it is
pub record CanComplete (r : Receiver Target) (held : Held) : Type 0 where
  pub attached : may_receive r.local_state ≡ true
  pub handle : r.output_handle ≡ Some (record { 0 = 0 })
  pub allowed : transfer_refusal r held.performative ≡ None
  pub same : entered held.performative (position (held_bytes held)).0 (position (held_bytes held)).1 r ≡ spent r

-- both endpoints have an entry of the delivery, and a pair knows how far it has come
pub record CanSettle (w : World) (tag : Tag) : Type 0 where
  pub own : IsSome (entry_at w.ledger.link.unsettled tag)
  pub report : IsSome (entry_at w.receiver.unsettled tag)
  pub known : IsSome (entry_at w.deliveries tag)
