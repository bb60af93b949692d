-- A credit run: two attached endpoints, and what is under way between them (OASIS AMQP 1.0 core, 2.6.7).
use Rattle.std.specs.Prelude.{◌≡◌, ℕ, ◌≤◌, ◌<◌, ◌^◌, List, length, Option, Some, IfSome, is_some, option_map}
use Rattle.std.specs.List.{AllByRecursion}
use Rattle.amqp_link_types.specs.declared.frame.LinkFrame.{LinkFrame}
use Rattle.amqp_link_types.specs.declared.types.definitions.ReceiverSettleMode.TheVariants.{First}
use Rattle.amqp_link_types.specs.declared.types.definitions.SenderSettleMode.TheVariants.{Mixed}
use Rattle.amqp_link_types.specs.declared.types.performatives.LinkFlow.{LinkFlow}
use Rattle.amqp_link_types.specs.declared.types.terminus.Target.{Target}
use Rattle.amqp_link_state.specs.declared.state.LinkState.TheVariants.{Attached}
use Rattle.amqp_link_core.specs.Held.{Held}
use Rattle.amqp_link_sender.specs.Senders.{Sender}
use Rattle.amqp_link_receiver.specs.Receivers.{Receiver}
use Rattle.amqp_link_credit.specs.Credits.{IsCredit}
use Rattle.amqp_link_credit.specs.CreditDeliveries.{Part, part_of, deliveries, AreComplete, HasIdAndTag}

pub record CreditWorld : Type 0 where
  pub sender : Sender Target
  pub receiver : Receiver Target
  -- what the receiver holds of the delivery whose transfers are arriving
  pub held : Option Held
  -- the frames under way to the receiver, and the flows under way to the sender
  pub forward : List LinkFrame
  pub back : List LinkFlow
  -- the limit that the receiver stated last: its delivery-count + its link-credit, which wraps
  pub stated : ℕ

-- the deliveries that were sent and are not complete at the receiver, in order
abbrev pub under_way : CreditWorld → List Part
under_way w = deliveries (option_map part_of w.held) w.forward

abbrev pub KeepsCredit : CreditWorld → Type 0
KeepsCredit w = IsCredit w.sender.flow_state w.receiver.flow_state w.forward w.back w.stated

-- ---- what a run keeps beside its credit, so that the endpoints refuse a call only if they are out of memory

-- both endpoints are attached at handle 0, a delivery may be settled or not, a frame has room for a payload byte
-- beside its transfer, and the receiver settles at once
pub record AreAttached (s : Sender Target) (r : Receiver Target) : Type 0 where
  pub sender_output : s.output_handle ≡ Some (record { 0 = 0 })
  pub sender_input : s.input_handle ≡ Some (record { 0 = 0 })
  pub mode : s.snd_settle_mode ≡ Mixed
  pub room : 29 ≤ s.max_frame_size
  pub receiver_output : r.output_handle ≡ Some (record { 0 = 0 })
  pub receiver_state : r.local_state ≡ Attached
  pub receiver_mode : r.rcv_settle_mode ≡ First

pub record IsCreditWorld (w : CreditWorld) : Type 0 where
  pub credit : KeepsCredit w
  pub attached : AreAttached w.sender w.receiver
  pub whole : AreComplete (is_some w.held) w.forward
  -- the receiver waits for more of a delivery exactly while something of it is held
  pub turn : w.receiver.more ≡ is_some w.held
  pub named : IfSome w.held (λ held. HasIdAndTag held.performative)
  pub short : AllByRecursion (λ part. length part.1 < 2 ^ 32) (under_way w)
