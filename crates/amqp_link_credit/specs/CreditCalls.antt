-- What each call of a credit run returns, and the world after it.
use Rattle.std.specs.Prelude.{◌≡◌, ℕ, ◌-◌, ◌<◌, ◌^◌, ◌&&◌, ◌||◌, ◌==◌, Bool, true, false, not, nat_lt, nat_le, int_lt, pos, List, [], ◌∷◌, ◌++◌, length, Option, Some, None, is_some, IsSomeAnd}
use Rattle.amqp_link_payloads.specs.Position.{position}
use Rattle.amqp_link_payloads.specs.declared.message.whole.Whole.{Whole}
use Rattle.amqp_link_types.specs.Deliveries.{Delivered}
use Rattle.amqp_link_types.specs.Entries.{Tag, entry_at}
use Rattle.amqp_link_types.specs.Frames.{link_transfer}
use Rattle.amqp_link_types.specs.declared.frame.LinkFrame.{LinkFrame}
use Rattle.amqp_link_types.specs.declared.frame.LinkFrame.TheVariants.{Flow}
use Rattle.amqp_link_types.specs.declared.types.performatives.LinkFlow.{LinkFlow}
use Rattle.amqp_link_types.specs.declared.types.terminus.Target.{Target}
use Rattle.amqp_link_types.specs.declared.types.transfer.Transfer.{Transfer}
use Rattle.amqp_link_state.specs.Counts.{sdiff, count_limit, after_consuming, with_stated, stated_flow, sender_after, sender_reply, receiver_after}
use Rattle.amqp_link_core.specs.Held.{Held, held_bytes}
use Rattle.amqp_link_split.specs.Fitting.{IsFitting}
use Rattle.amqp_link_sender.specs.Senders.{Sender, Delivery, IsSent, delivery_of, next_tag, new_entry, with_registration}
use Rattle.amqp_link_receiver.specs.Completing.{entered, info_of}
use Rattle.amqp_link_worlds.specs.Steps.{delivery_transfer, held_after, attaches_fit, new_sender, new_receiver, sender_together, receiver_together, is_empty, zero_output}
use Rattle.amqp_link_credit.specs.CreditWorlds.{CreditWorld, under_way}
use Rattle.amqp_link_credit.specs.declared.credit_run.Arrival.{Arrival}
use Rattle.amqp_link_credit.specs.declared.credit_run.Arrival.TheVariants as arrival
use Rattle.amqp_link_credit.specs.declared.error.CreditRunError.{CreditRunError}
use Rattle.amqp_link_credit.specs.declared.error.CreditRunError.TheVariants as error

-- both endpoints attached at a frame limit, with this delivery-count and no credit, and nothing under way
abbrev pub new_run : ℕ → ℕ → CreditWorld
new_run count limit = record {
  sender = sender_together limit (new_sender count);
  receiver = receiver_together limit count (new_receiver count);
  held = None;
  forward = [];
  back = [];
  stated = count;
}

-- The receiver's link-credit becomes the given one, the flow that states it is under way to the sender, and its
-- limit is the last stated one.
pub record GrantsCredit (old : CreditWorld) (credit : ℕ) (drain echo : Bool) (new : CreditWorld) : Type 0 where
  pub world :
      let own = with_stated (Some credit) (Some drain) old.receiver.flow_state in
      new ≡ record old {
        receiver = record old.receiver { flow_state = own };
        back = old.back ++ stated_flow own zero_output echo false ∷ [];
        stated = count_limit own;
      }

-- what a run passes of each delivery beside its payload
abbrev pub run_delivery : Bool → Delivery
run_delivery settled = delivery_of 0 (Some settled) None false

-- the transfer of a delivery of format 0 at handle 0
abbrev pub run_transfer : Bool → Tag → Transfer
run_transfer settled tag = record (delivery_transfer tag false) { settled = Some settled }

-- the sender after it has sent a payload: one credit is spent, and an unsettled delivery is registered
abbrev pub sender_after_send : Bool → Sender Target → List ℕ → Sender Target
sender_after_send settled s payload =
    record (with_registration settled s (next_tag s) (new_entry 0 payload)) { flow_state = after_consuming 1 s.flow_state }

-- One more delivery is under way, with the next tag and this payload, in transfers that fit the frame limit, the
-- fewest of the payload limit. The answer is its tag and their number.
pub record SendsDelivery (old : CreditWorld) (payload : List ℕ) (settled : Bool) (tag : Tag) (count : ℕ) (new : CreditWorld) : Type 0 where
  pub frames : List LinkFrame
  pub credited : 0 < old.sender.flow_state.link_credit
  pub tagged : tag ≡ next_tag old.sender
  pub framed : IsSent old.sender (run_transfer settled tag) payload frames
  pub fits : IsFitting (run_transfer settled tag) old.sender.max_frame_size payload frames
  pub counted : count ≡ length frames
  pub world : new ≡ record old { sender = sender_after_send settled old.sender payload; forward = old.forward ++ frames }
  pub added : under_way new ≡ under_way old ++ (tag, payload) ∷ []

-- ---- the first frame under way arrives at the receiver

-- a transfer with this `more`
abbrev pub IsTransfer : LinkFrame → Bool → Type 0
IsTransfer f more = IsSomeAnd (link_transfer f) (λ t. t.performative.more ≡ more)

-- A transfer that is not its delivery's last: its payload is added to what is held, under this id if it is the
-- delivery's first, and the receiver notes that more is to come.
pub record TakesPiece (old : CreditWorld) (id : ℕ) (new : CreditWorld) : Type 0 where
  pub piece : LinkFrame
  pub rest : List LinkFrame
  pub taken : old.forward ≡ piece ∷ rest
  pub goes_on : IsTransfer piece true
  pub world : new ≡ record old {
    receiver = record old.receiver { more = true };
    held = Some (held_after old.held id piece);
    forward = rest;
  }
  pub same : under_way new ≡ under_way old

-- a delivery of which all is held
abbrev pub complete_delivery : Held → Delivered Whole
complete_delivery held = record {
  handle = zero_output;
  info = info_of held.performative;
  message_format = held.performative.message_format;
  message = record { preamble = []; body = record { 0 = held_bytes held }; footer = [] };
}

-- The last transfer of the first delivery under way: the delivery is returned, and takes one credit of the
-- receiver, which has it. An unsettled one is entered in the receiver's map.
pub record Completes (old : CreditWorld) (id : ℕ) (answer : Delivered Whole) (new : CreditWorld) : Type 0 where
  pub last : LinkFrame
  pub rest : List LinkFrame
  pub taken : old.forward ≡ last ∷ rest
  pub ends : IsTransfer last false
  pub covered : 0 < old.receiver.flow_state.link_credit
  pub answered : answer ≡ complete_delivery (held_after old.held id last)
  pub world :
      let held = held_after old.held id last in
      let place = position (held_bytes held) in
      new ≡ record old {
        receiver = record (entered held.performative place.0 place.1 old.receiver) { more = false };
        held = None;
        forward = rest;
      }
  pub first : under_way old ≡ (answer.info.delivery_tag, answer.message.body.0) ∷ under_way new

-- A flow acts on the receiver, which does not reply.
pub record TakesFlow (old new : CreditWorld) : Type 0 where
  pub flow : LinkFlow
  pub rest : List LinkFrame
  pub taken : old.forward ≡ Flow flow ∷ rest
  pub world : new ≡ record old {
    receiver = record old.receiver { flow_state = receiver_after flow old.receiver.flow_state };
    forward = rest;
  }
  pub same : under_way new ≡ under_way old

-- by what is returned
abbrev pub ArrivesForward : CreditWorld → ℕ → Arrival → CreditWorld → Type 0
ArrivesForward old id arrival.Piece new = TakesPiece old id new
ArrivesForward old id (arrival.Completed answer) new = Completes old id answer new
ArrivesForward old id arrival.Flow new = TakesFlow old new

-- ---- the first flow under way arrives at the sender

-- the frame of a reply, if there is one
abbrev pub reply_frames : Option LinkFlow → List LinkFrame
reply_frames None = []
reply_frames (Some flow) = Flow flow ∷ []

-- The flow acts on the sender, whose reply is under way to the receiver. The answer is whether there is one.
pub record TakesBack (old : CreditWorld) (replied : Bool) (new : CreditWorld) : Type 0 where
  pub flow : LinkFlow
  pub rest : List LinkFlow
  pub taken : old.back ≡ flow ∷ rest
  pub answered : replied ≡ (flow.drain || flow.echo)
  pub world : new ≡ record old {
    sender = record old.sender { flow_state = sender_after flow old.sender.flow_state };
    forward = old.forward ++ reply_frames (sender_reply flow old.sender.flow_state zero_output);
    back = rest;
  }
  pub same : under_way new ≡ under_way old

-- ---- refusals, in the order of the tests

abbrev pub RunTests : Type 0
RunTests = List (Bool × CreditRunError)

-- under 29, or the attach of an endpoint does not fit
abbrev pub new_tests : ℕ → ℕ → RunTests
new_tests count limit =
    (nat_lt limit 29 || not (attaches_fit (new_sender count) (new_receiver count) limit), error.LimitTooSmall) ∷ []

-- whether the receiver's delivery-count + this credit lies before the limit that it stated last
abbrev pub is_lowered : CreditWorld → ℕ → Bool
is_lowered w credit = int_lt (pos credit) (sdiff w.stated w.receiver.flow_state.delivery_count)

abbrev pub granting_tests : CreditWorld → ℕ → RunTests
granting_tests w credit =
    (nat_lt (2 ^ 31 - 1) credit, error.CreditTooLarge) ∷ (is_lowered w credit, error.LimitLowered) ∷ []

-- the tests of a send at the sender
abbrev pub sending_tests_at_sender : Sender Target → Bool → RunTests
sending_tests_at_sender s settled =
    (s.flow_state.link_credit == 0, error.CreditMissing)
    ∷ (not settled && is_some (entry_at s.unsettled (next_tag s)), error.TagPending)
    ∷ []

abbrev pub sending_tests : CreditWorld → List ℕ → Bool → RunTests
sending_tests w payload settled = (nat_le (2 ^ 32) (length payload), error.PayloadTooLong) ∷ sending_tests_at_sender w.sender settled

abbrev pub forward_tests : CreditWorld → RunTests
forward_tests w = (is_empty w.forward, error.QueueEmpty) ∷ []

abbrev pub back_tests : CreditWorld → RunTests
back_tests w = (is_empty w.back, error.QueueEmpty) ∷ []
