-- What the shortest callers send and receive, and why they are refused (OASIS AMQP 1.0 core, 2.6.3, 2.6.7 and 2.7.5).
use Rattle.std.specs.Prelude.{◌≡◌, ◌⊎◌, ◌&&◌, not, Bool, ℕ, List, [], ◌∷◌, Option, Some, None, Result, Ok, Err}
use Rattle.std.specs.Option.{option_map_or}
use Rattle.amqp_link.specs.Bodies.{whole_message}
use Rattle.amqp_link.specs.Completing.{completion_refusal}
use Rattle.amqp_link.specs.Counts.{sender_after}
use Rattle.amqp_link.specs.Held.{Held, held_bytes}
use Rattle.amqp_link.specs.IncompleteRefusals.{Test}
use Rattle.amqp_link.specs.Position.{position}
use Rattle.amqp_link.specs.Receivers.{Receiver}
use Rattle.amqp_link.specs.Refusals.{refusal}
use Rattle.amqp_link.specs.SenderAttaches.{sender_taken}
use Rattle.amqp_link.specs.Senders.{SendStop, Sender, missing_credit, refused}
use Rattle.amqp_link.specs.Targets.{plain_target}
use Rattle.amqp_link.specs.declared.errors.LinkStateError.TheVariants as link_error
use Rattle.amqp_link.specs.declared.errors.ReceiverTransferError.{ReceiverTransferError}
use Rattle.amqp_link.specs.declared.errors.ReceiverTransferError.TheVariants as transfer_error
use Rattle.amqp_link.specs.declared.errors.SenderAttachError.{SenderAttachError}
use Rattle.amqp_link.specs.declared.errors.SenderAttachError.TheVariants as attach_error
use Rattle.amqp_link.specs.declared.types.Attach.{Attach}
use Rattle.amqp_link.specs.declared.types.LinkFlow.{LinkFlow}
use Rattle.amqp_link.specs.declared.types.Target.{Target}
use Rattle.amqp_link.specs.declared.types.Transfer.{Transfer}
use Rattle.amqp_link_uses.specs.declared.short.ReceiveOneError.{ReceiveOneError}
use Rattle.amqp_link_uses.specs.declared.short.ReceiveOneError.TheVariants.{NotWhole, Transfer as TransferRefused}
use Rattle.amqp_link_uses.specs.declared.short.SendOneError.{SendOneError}
use Rattle.amqp_link_uses.specs.declared.short.SendOneError.TheVariants.{Attach as AttachRefused, Send as SendRefused}

-- the sender that has taken the receiver's attach, and then its flow
abbrev pub ready_to_send : Attach → LinkFlow → Sender Target → Sender Target
ready_to_send theirs flow link =
    let attached = sender_taken plain_target link theirs in
    record attached { flow_state = option_map_or (λ _. sender_after flow attached.flow_state) link.output_handle attached.flow_state }

-- The result of `send_one`, by the refusal of the attach, then by the tests of the payload; nothing is sent exactly if
-- the credit is missing.
abbrev pub SendsOneOrRefuses : {A : Type 0} → Result (Option A) SendOneError → Option SenderAttachError → List (Bool × SendStop) → Type 0
SendsOneOrRefuses (Ok (Some sent)) refusal_of_attach tests = (refusal_of_attach ≡ None) × (refusal tests ≡ None)
SendsOneOrRefuses (Ok None) refusal_of_attach tests = (refusal_of_attach ≡ None) × (refusal tests ≡ Some missing_credit)
SendsOneOrRefuses (Err (AttachRefused e)) refusal_of_attach tests =
    (e ≡ attach_error.OutOfMemory) ⊎ (refusal_of_attach ≡ Some e)
SendsOneOrRefuses (Err (SendRefused e)) refusal_of_attach tests = (refusal_of_attach ≡ None)
    × (((e ≡ link_error.OutOfMemory) × (refusal tests ≡ None)) ⊎ (refusal tests ≡ Some (refused e)))

-- a delivery of this transfer alone
abbrev pub of_one_transfer : Transfer → List ℕ → Held
of_one_transfer t payload = record { performative = t; pieces = payload ∷ [] }

module _ {T : Type 0} where
  -- the receiver that has taken the transfer from the session
  abbrev pub came : Transfer → Receiver T → Receiver T
  came t link = record link { more = t.more }

  -- why what is held is not handed out, out of memory aside, with the receiver that the refusal leaves
  abbrev pub hand_out_refusal : Receiver T → Held → Option (ReceiverTransferError × Receiver T)
  hand_out_refusal link held = completion_refusal link held.performative
      (position (held_bytes held)).0 (position (held_bytes held)).1 (whole_message (held_bytes held))

  -- the transfer is a whole delivery, which the link does not know before
  abbrev pub is_whole : Receiver T → Transfer → Bool
  is_whole link t = not link.more && not t.more && not t.aborted && not t.resume

  -- A delivery by the tests of its transfer, then by the refusal of the handing out, with the receiver that it leaves;
  -- out of memory may come before any.
  abbrev pub CompletesOrRefuses : {A : Type 0} → Result A ReceiverTransferError → List Test
      → Option (ReceiverTransferError × Receiver T) → Receiver T → Type 0
  CompletesOrRefuses (Ok delivery) tests handing_out left = (refusal tests ≡ None) × (handing_out ≡ None)
  CompletesOrRefuses (Err e) tests handing_out left = (e ≡ transfer_error.OutOfMemory)
      ⊎ (refusal tests ≡ Some e) ⊎ ((refusal tests ≡ None) × (handing_out ≡ Some (e, left)))

  -- the same of `receive_one`, whose other refusal is a transfer that is no whole delivery
  abbrev pub ReceivesOrRefuses : {A : Type 0} → Result A ReceiveOneError → List Test
      → Option (ReceiverTransferError × Receiver T) → Receiver T → Type 0
  ReceivesOrRefuses (Ok delivery) tests handing_out left = (refusal tests ≡ None) × (handing_out ≡ None)
  ReceivesOrRefuses (Err NotWhole) tests handing_out left = Unit {0}
  ReceivesOrRefuses (Err (TransferRefused e)) tests handing_out left = (e ≡ transfer_error.OutOfMemory)
      ⊎ (refusal tests ≡ Some e) ⊎ ((refusal tests ≡ None) × (handing_out ≡ Some (e, left)))
