-- What a client attaches and sends, and why it is refused (OASIS AMQP 1.0 core, 2.6.3 and 2.6.7).
use Rattle.std.specs.Prelude.{◌≡◌, ◌⊎◌, Bool, List, Some, None, Result, Ok, Err}
use Rattle.amqp_link.specs.Failing.{handled, sender_remedy}
use Rattle.amqp_link.specs.Refusals.{refusal}
use Rattle.amqp_link.specs.Senders.{SendStop, Sender, missing_credit, refused, sender_of_parts}
use Rattle.amqp_link.specs.declared.LinkParts.{LinkParts}
use Rattle.amqp_link.specs.declared.endpoint.Action.{Action}
use Rattle.amqp_link.specs.declared.errors.LinkStateError.TheVariants.{OutOfMemory}
use Rattle.amqp_link.specs.declared.errors.SenderAttachError.{SenderAttachError}
use Rattle.amqp_link.specs.declared.errors.SenderAttachError.TheVariants.{IllegalState}
use Rattle.amqp_link.specs.declared.types.OutputHandle.{OutputHandle}
use Rattle.amqp_link.specs.declared.types.SenderSettleMode.TheVariants.{Unsettled}
use Rattle.amqp_link.specs.declared.types.Target.{Target}
use Rattle.amqp_link_uses.specs.declared.client.RequestError.{RequestError}
use Rattle.amqp_link_uses.specs.declared.client.RequestError.TheVariants.{Busy, CreditMissing, Link}

-- the sender that a client opens with these parts at this handle: it sends its deliveries unsettled
abbrev pub opened_with : LinkParts Target → OutputHandle → Sender Target
opened_with parts handle = record (sender_of_parts parts) { snd_settle_mode = Unsettled; output_handle = Some handle }

-- the error of an attach that is refused, and what to do, at the link that the refusal leaves
abbrev pub attach_failed : SenderAttachError → Sender Target → SenderAttachError × Action
attach_failed error left = handled error IllegalState (sender_remedy error) left.local_state left.output_handle

-- The result of a request that is not busy, by the tests of the payload; out of memory comes only if none holds.
abbrev pub RequestsThenOutOfMemory : {A : Type 0} → Result A RequestError → List (Bool × SendStop) → Type 0
RequestsThenOutOfMemory (Ok frames) tests = refusal tests ≡ None
RequestsThenOutOfMemory (Err Busy) tests = ⊥
RequestsThenOutOfMemory (Err CreditMissing) tests = refusal tests ≡ Some missing_credit
RequestsThenOutOfMemory (Err (Link e)) tests = ((e ≡ OutOfMemory) × (refusal tests ≡ None)) ⊎ (refusal tests ≡ Some (refused e))
