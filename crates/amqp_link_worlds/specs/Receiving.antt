-- When the receiver of a pair takes a transfer.
use Rattle.std.specs.Prelude.{◌≡◌, ℕ, Option, Some, None}
use Rattle.amqp_link_types.specs.Entries.{Tag}
use Rattle.amqp_link_types.specs.Frames.{performative_of}
use Rattle.amqp_link_types.specs.Refusals.{refusal}
use Rattle.amqp_link_types.specs.declared.frame.LinkFrame.{LinkFrame}
use Rattle.amqp_link_types.specs.declared.frame.LinkFrame.TheVariants.{FirstTransfer, TransferContinuation}
use Rattle.amqp_link_types.specs.declared.types.transfer.Transfer.{Transfer}
use Rattle.amqp_link_core.specs.Held.{Held}
use Rattle.amqp_link_core.specs.IncompleteRefusals.{start_tests, append_tests, resume_tests}
use Rattle.amqp_link_worlds.specs.Invariants.{IsNamed, IsContinuing}

-- both transfers carry the fields of the delivery with this tag
pub record AreNamed (old t : Transfer) : Type 0 where
  pub tag : Tag
  pub old_named : IsNamed tag old
  pub named : IsNamed tag t

-- A first transfer begins a delivery, or resumes it if something is held; a further one adds to what is
-- held, and changes no field. No test refuses it.
abbrev pub CanReceive : Option Held → ℕ → LinkFrame → Type 0
CanReceive None id (FirstTransfer x) = refusal (start_tests (record x.performative { delivery_id = Some id }) x.payload) ≡ None
CanReceive (Some held) id (FirstTransfer x) =
    AreNamed held.performative x.performative
    × (refusal (resume_tests held (record x.performative { delivery_id = Some id }) x.payload) ≡ None)
CanReceive (Some held) id (TransferContinuation x) =
    IsContinuing x.performative × (refusal (append_tests held x.performative x.payload) ≡ None)
CanReceive _ id _ = ⊥

-- a transfer as the session passes it on to the receiver: a first one has this id
abbrev pub transfer_arriving : ℕ → LinkFrame → Transfer
transfer_arriving id (FirstTransfer x) = record x.performative { delivery_id = Some id }
transfer_arriving id f = performative_of f
