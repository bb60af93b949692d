-- Transfers that arrive at a receiver, and the entries of their deliveries (OASIS AMQP 1.0 core, 2.6.12,
-- 2.7.5 and 3.4).
use Rattle.std.specs.Prelude.{ℕ, Bool, false, ◌||◌, List, Option, Some, None, unwrap_or, if◌then◌else◌}
use Rattle.amqp_link_types.specs.declared.frame.LinkFrame.{LinkFrame}
use Rattle.amqp_link_types.specs.declared.frame.LinkFrame.TheVariants as frame
use Rattle.amqp_link_types.specs.declared.types.delivery_state.DeliveryState.{DeliveryState}
use Rattle.amqp_link_types.specs.declared.types.transfer.Transfer.{Transfer}
use Rattle.amqp_link_types.specs.DeliveryStates.{is_terminal}
use Rattle.amqp_link_types.specs.Entries.{Tag, entry_at, with_entry, without_entry}
use Rattle.amqp_link_dispositions.specs.DispositionFrames.{settles_at_once}
use Rattle.amqp_link_receiver.specs.Receivers.{Receiver}

-- a transfer without a settled flag is not settled
abbrev pub is_settled : Transfer → Bool
is_settled t = unwrap_or t.settled false

-- whether the entry of a delivery has a terminal state
abbrev pub has_ended : Option (Option DeliveryState) → Bool
has_ended (Some (Some state)) = is_terminal state
has_ended _ = false

-- the frame to hand to the link's user for a transfer that arrives
abbrev pub frame_come : Transfer → List ℕ → LinkFrame
frame_come t payload = frame.RemoteTransfer (record {
  input_handle = record { 0 = t.handle.0 };
  performative = t;
  payload = payload;
})

-- a delivery id and a tag, if both are there
abbrev pub number_and_tag : Option ℕ → Option Tag → Option (ℕ × Tag)
number_and_tag (Some id) (Some tag) = Some (id, tag)
number_and_tag _ _ = None

module _ {T : Type 0} where
  -- the entry of the delivery has this state
  abbrev pub with_kept_state : Tag → DeliveryState → Receiver T → Receiver T
  with_kept_state tag state r = record r { unsettled = with_entry r.unsettled tag (Some state) }

  -- the delivery has no entry
  abbrev pub forgotten : Tag → Receiver T → Receiver T
  forgotten tag r = record r { unsettled = without_entry r.unsettled tag }

  -- a transfer carries this state: a settled delivery has no entry, and a terminal state stays
  abbrev pub after_state : Tag → Option Bool → DeliveryState → Receiver T → Receiver T
  after_state tag settled state r =
      if unwrap_or settled false then forgotten tag r
      else if has_ended (entry_at r.unsettled tag) then r
      else with_kept_state tag state r

  -- the delivery id and tag that the session gets with a transfer that begins an unsettled delivery, if the
  -- receiver settles only after the sender
  abbrev pub session_record : Receiver T → Transfer → Option (ℕ × Tag)
  session_record r t =
      if is_settled t || r.more || settles_at_once r.rcv_settle_mode then None
      else number_and_tag t.delivery_id t.delivery_tag
