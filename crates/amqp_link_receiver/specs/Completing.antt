-- The last transfer of a delivery at a receiver: what it returns, and the receiver afterwards (OASIS AMQP 1.0
-- core, 2.6.7, 2.6.12 and 2.7.5).
use Rattle.std.specs.Prelude.{◌≡◌, ℕ, ◌==◌, Bool, true, false, not, ◌&&◌, [], ◌∷◌, if◌then◌else◌}
use Rattle.std.specs.Prelude.{Option, Some, None, is_none, unwrap_or, Result, Ok, Err}
use Rattle.std.specs.Option.{option_map}
use Rattle.amqp_link_state.specs.declared.state.LinkState.{LinkState}
use Rattle.amqp_link_state.specs.declared.state.LinkState.TheVariants.{Attached, IncompleteAttachExchanged}
use Rattle.amqp_link_types.specs.declared.types.definitions.ReceiverSettleMode.{ReceiverSettleMode}
use Rattle.amqp_link_types.specs.declared.types.definitions.ReceiverSettleMode.TheVariants.{First, Second}
use Rattle.amqp_link_types.specs.declared.types.delivery_state.DeliveryState.TheVariants.{Received}
use Rattle.amqp_link_payloads.specs.declared.error.DecodeError.{DecodeError}
use Rattle.amqp_link_types.specs.declared.types.errors.ReceiverTransferError.{ReceiverTransferError}
use Rattle.amqp_link_types.specs.declared.types.errors.ReceiverTransferError.TheVariants as error
use Rattle.amqp_link_payloads.specs.declared.message.Message.{Message}
use Rattle.amqp_link_types.specs.declared.types.transfer.Transfer.{Transfer}
use Rattle.amqp_link_state.specs.Counts.{after_consuming}
use Rattle.amqp_link_endpoint.specs.AttachTests.{first_of}
use Rattle.amqp_link_types.specs.Deliveries.{Info, Delivered}
use Rattle.amqp_link_types.specs.Entries.{Tag}
use Rattle.amqp_link_types.specs.Refusals.{refusal}
use Rattle.amqp_link_receiver.specs.ReceiverDeliveries.{is_settled, with_kept_state}
use Rattle.amqp_link_receiver.specs.Receivers.{Receiver}

-- a link takes deliveries once both attaches were exchanged
abbrev pub may_receive : LinkState → Bool
may_receive Attached = true
may_receive IncompleteAttachExchanged = true
may_receive _ = false

-- the transfer asks for mode second on a link of mode first
abbrev pub is_illegal_mode : ReceiverSettleMode → Option ReceiverSettleMode → Bool
is_illegal_mode First (Some Second) = true
is_illegal_mode _ _ = false

-- an unsettled transfer asks for a settle mode that the link does not have
abbrev pub asks_for_another_mode : {T : Type 0} → Receiver T → Transfer → Bool
asks_for_another_mode r t = not (is_settled t) && is_illegal_mode r.rcv_settle_mode t.rcv_settle_mode

-- the info of the delivery; a settled one has no mode
abbrev pub info_of : Transfer → Info
info_of t = record {
  delivery_id = unwrap_or t.delivery_id 0;
  delivery_tag = unwrap_or t.delivery_tag [];
  rcv_settle_mode = if is_settled t then None else t.rcv_settle_mode;
}

-- the tag under which the delivery gets an entry in the unsettled map: none if it is settled
abbrev pub unsettled_tag : Transfer → Option Tag
unsettled_tag t = if is_settled t then None else t.delivery_tag

-- ---- the receiver afterwards

module _ {T : Type 0} where
  -- one credit is spent
  abbrev pub spent : Receiver T → Receiver T
  spent r = record r { flow_state = after_consuming 1 r.flow_state }

  -- the entry of the delivery with this tag, if there is a tag, states what has arrived up to this position
  abbrev pub reported : Option Tag → ℕ → ℕ → Receiver T → Receiver T
  reported None number offset r = r
  reported (Some tag) number offset r = with_kept_state tag (Received number offset) r

  -- one credit is spent, and an unsettled delivery has its entry
  abbrev pub entered : Transfer → ℕ → ℕ → Receiver T → Receiver T
  entered t number offset r = spent (reported (unsettled_tag t) number offset r)

-- ---- the result

-- why the link refuses any delivery
abbrev pub link_refusal : {T : Type 0} → Receiver T → Option ReceiverTransferError
link_refusal r = refusal (
    (not (may_receive r.local_state), error.IllegalState)
    ∷ (r.flow_state.link_credit == 0, error.TransferLimitExceeded)
    ∷ [])

-- why it refuses this transfer
abbrev pub transfer_refusal : {T : Type 0} → Receiver T → Transfer → Option ReceiverTransferError
transfer_refusal r t = refusal (
    (is_none t.delivery_id, error.DeliveryIdIsNone)
    ∷ (is_none t.delivery_tag, error.DeliveryTagIsNone)
    ∷ (asks_for_another_mode r t, error.IllegalRcvSettleModeInTransfer)
    ∷ [])

-- a refusal, with the receiver that it leaves
abbrev pub leaving : {T : Type 0} → Receiver T → Option ReceiverTransferError
    → Option (ReceiverTransferError × Receiver T)
leaving r refused = option_map (λ error. (error, r)) refused

module _ {B : Type 0} where
  -- why the delivery is not returned: its bytes are not decoded, or there is no output handle
  abbrev pub delivery_refusal : {T : Type 0} → Receiver T → Transfer → Result (Message B) DecodeError
      → Option ReceiverTransferError
  delivery_refusal r t (Err source) =
      Some (error.MessageDecode (record { source = source; info = info_of t }))
  delivery_refusal r t (Ok message) = if is_none r.output_handle then Some error.IllegalState else None

  -- why the transfer is refused, out of memory aside, with the receiver that the refusal leaves
  abbrev pub completion_refusal : {T : Type 0} → Receiver T → Transfer → ℕ → ℕ
      → Result (Message B) DecodeError → Option (ReceiverTransferError × Receiver T)
  completion_refusal r t number offset decoded = first_of (
      leaving r (link_refusal r)
      ∷ leaving (spent r) (transfer_refusal r t)
      ∷ leaving (entered t number offset r) (delivery_refusal r t decoded)
      ∷ [])

  -- the delivery that the transfer completes, with this message
  pub record IsDelivery {T : Type 0} (r : Receiver T) (t : Transfer) (decoded : Result (Message B) DecodeError)
      (d : Delivered B) : Type 0 where
    pub handle : r.output_handle ≡ Some d.handle
    pub info : d.info ≡ info_of t
    pub format : d.message_format ≡ t.message_format
    pub message : decoded ≡ Ok d.message
