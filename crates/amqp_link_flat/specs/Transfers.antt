-- Transfers as C passes and gets them (OASIS AMQP 1.0 core, 2.7.5).
use Rattle.std.specs.Prelude.{ℕ, List, Option, Some, None, option_map, if◌then◌else◌, is_some, unwrap_or, false}
use Rattle.amqp_link_flat.specs.Flat.{given, bare_state, plain_state}
use Rattle.amqp_link_flat.specs.Numbers.{both, receiver_mode_of, receiver_mode_number}
use Rattle.amqp_link_flat.specs.declared.transfer.Transfer as flat_transfer
use Rattle.amqp_link_types.specs.declared.frame.LinkTransfer.{LinkTransfer}
use Rattle.amqp_link_types.specs.declared.types.definitions.ReceiverSettleMode.{ReceiverSettleMode}
use Rattle.amqp_link_types.specs.declared.types.definitions.ReceiverSettleMode.TheVariants.{First}
use Rattle.amqp_link_types.specs.declared.types.delivery_state.DeliveryState.{DeliveryState}
use Rattle.amqp_link_types.specs.declared.types.transfer.Transfer.{Transfer}

-- the receiver settle mode that C passes, if there is one; nothing if its number stands for none
abbrev pub stated_mode : flat_transfer.Transfer → Option (Option ReceiverSettleMode)
stated_mode t =
    if t.has_rcv_settle_mode then option_map Some (receiver_mode_of t.rcv_settle_mode) else Some None

-- the transfer that C passes, with this tag, mode and state
abbrev pub transfer_with : flat_transfer.Transfer → List ℕ → Option ReceiverSettleMode → Option DeliveryState
    → Transfer
transfer_with t tag mode state = record {
  handle = record { 0 = t.handle };
  delivery_id = given t.has_delivery_id t.delivery_id;
  delivery_tag = given t.has_tag tag;
  message_format = given t.has_message_format t.message_format;
  settled = given t.has_settled t.settled;
  more = t.more;
  rcv_settle_mode = mode;
  state = state;
  resume = t.resume;
  aborted = t.aborted;
  batchable = t.batchable;
}

-- the transfer that C passes, with this tag; nothing if a number stands for nothing
abbrev pub stated_transfer : flat_transfer.Transfer → List ℕ → Option Transfer
stated_transfer t tag = both (transfer_with t tag) (stated_mode t) (bare_state t.state)

-- a transfer as C gets it
abbrev pub plain_transfer : LinkTransfer → flat_transfer.Transfer
plain_transfer sent = record {
  state = plain_state sent.performative.state;
  handle = sent.performative.handle.0;
  delivery_id = unwrap_or sent.performative.delivery_id 0;
  message_format = unwrap_or sent.performative.message_format 0;
  rcv_settle_mode = receiver_mode_number (unwrap_or sent.performative.rcv_settle_mode First);
  has_delivery_id = is_some sent.performative.delivery_id;
  has_tag = is_some sent.performative.delivery_tag;
  has_message_format = is_some sent.performative.message_format;
  has_settled = is_some sent.performative.settled;
  settled = unwrap_or sent.performative.settled false;
  more = sent.performative.more;
  has_rcv_settle_mode = is_some sent.performative.rcv_settle_mode;
  resume = sent.performative.resume;
  aborted = sent.performative.aborted;
  batchable = sent.performative.batchable;
}
