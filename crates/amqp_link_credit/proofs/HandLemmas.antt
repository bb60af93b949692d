-- A receiver that refuses no delivery is at most out of memory.
use Rattle.std.proofs.Common.{◌≡◌, ◌∙◌, ap, ℕ, Some, None, Ok, inl, inr, ◌⊎◌}
use Rattle.amqp_link_payloads.specs.declared.message.Message.{Message}
use Rattle.amqp_link_payloads.specs.declared.message.whole.Whole.{Whole}
use Rattle.amqp_link_types.specs.declared.types.errors.ReceiverTransferError.{ReceiverTransferError}
use Rattle.amqp_link_types.specs.declared.types.errors.ReceiverTransferError.TheVariants as error
use Rattle.amqp_link_types.specs.declared.types.terminus.Target.{Target}
use Rattle.amqp_link_types.specs.declared.types.transfer.Transfer.{Transfer}
use Rattle.amqp_link_receiver.specs.Receivers.{Receiver}
use Rattle.amqp_link_receiver.specs.Completing.{completion_refusal}

pub only_memory : (e : ReceiverTransferError) (r new : Receiver Target) (t whole : Transfer) (n off : ℕ) (message : Message Whole)
    → ((e ≡ error.OutOfMemory) ⊎ (completion_refusal r t n off (Ok message) ≡ Some (e, new)))
    → t ≡ whole
    → ((number offset : ℕ) (m : Message Whole) → completion_refusal r whole number offset (Ok m) ≡ None)
    → e ≡ error.OutOfMemory
only_memory e r new t whole n off message (inl h) same none = h
only_memory e r new t whole n off message (inr h) same none =
    let no : completion_refusal r t n off (Ok message) ≡ None = ap (λ t. completion_refusal r t n off (Ok message)) same ∙ none n off message in
    absurd (cc)
