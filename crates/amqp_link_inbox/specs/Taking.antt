-- A complete delivery is taken from an inbox (OASIS AMQP 1.0 core, 2.6.12).
use Rattle.std.specs.Prelude.{◌≡◌, ℕ, Bool, true, false, List, [], ◌∷◌, Option, Some, None, Result, Ok, Err}
use Rattle.amqp_link_payloads.specs.declared.error.DecodeError.{DecodeError}
use Rattle.amqp_link_payloads.specs.declared.message.Message.{Message}
use Rattle.amqp_link_types.specs.Entries.{Tag, Entries, entry_at, with_entry}
use Rattle.amqp_link_types.specs.declared.types.definitions.OutputHandle.{OutputHandle}
use Rattle.amqp_link_core.specs.Held.{Held, held_bytes}
use Rattle.amqp_link_receiver.specs.Completing.{info_of}
use Rattle.amqp_link_inbox.specs.declared.error.TakeError.{TakeError}
use Rattle.amqp_link_inbox.specs.declared.error.TakeError.TheVariants as error
use Rattle.amqp_link_inbox.specs.declared.error.Undecoded.{Undecoded}
use Rattle.amqp_link_inbox.specs.declared.kept.Contents.{Contents}
use Rattle.amqp_link_inbox.specs.declared.kept.Contents.TheVariants as contents
use Rattle.amqp_link_inbox.specs.declared.kept.Kept.{Kept}
use Rattle.amqp_link_inbox.specs.declared.kept.Stage.{Stage}
use Rattle.amqp_link_inbox.specs.declared.kept.Stage.TheVariants as stage

-- why the call does not come to a delivery's bytes, by how far it has come and by the link's handle
abbrev pub take_refusal : Option Stage → Option OutputHandle → Option TakeError
take_refusal None handle = Some error.UnknownTag
take_refusal (Some stage.Begun) handle = Some error.NotComplete
take_refusal (Some stage.Taken) handle = Some error.AlreadyTaken
take_refusal (Some stage.Complete) None = Some error.NotAttached
take_refusal (Some stage.Complete) (Some handle) = None

-- the same for the first of those that are settled; where there is none, none is taken
abbrev pub settled_refusal : List Held → Option OutputHandle → Option TakeError
settled_refusal [] handle = None
settled_refusal (held ∷ rest) handle = take_refusal (Some stage.Complete) handle

module _ {A : Type 0} where
  -- the answer, by that refusal; memory comes after it
  abbrev pub AnswersTake : Option TakeError → Result A TakeError → Type 0
  AnswersTake refusal (Ok taken) = refusal ≡ None
  AnswersTake refusal (Err (error.Undecoded undecoded)) = refusal ≡ None
  AnswersTake refusal (Err error.OutOfMemory) = refusal ≡ None
  AnswersTake refusal (Err other) = refusal ≡ Some other

  -- whether the delivery counts as taken from now on
  abbrev pub has_taken : Result A TakeError → Bool
  has_taken (Ok taken) = true
  has_taken (Err (error.Undecoded undecoded)) = true
  has_taken (Err other) = false

-- what is held, of a complete delivery
abbrev pub complete_in : Contents → Option Held
complete_in (contents.Complete held) = Some held
complete_in _ = None

-- the same of the delivery with this tag
abbrev pub complete_of : Option Kept → Option Held
complete_of None = None
complete_of (Some kept) = complete_in kept.contents

-- nothing is held any more of the delivery with this tag
abbrev pub taken_from : Option Kept → Tag → Entries Kept → Entries Kept
taken_from None tag entries = entries
taken_from (Some kept) tag entries = with_entry entries tag (record kept { contents = contents.Taken })

abbrev pub with_taken : Tag → Entries Kept → Entries Kept
with_taken tag entries = taken_from (entry_at entries tag) tag entries

-- bytes that the body refuses are given back as they were held
pub record IsGivenBack {B : Type 0} (decoded : List ℕ → Result (Message B) DecodeError) (held : Held) (undecoded : Undecoded) : Type 0 where
  pub pieces : undecoded.pieces.items ≡ held.pieces
  pub info : undecoded.refused.info ≡ info_of held.performative
  pub source : decoded (held_bytes held) ≡ Err undecoded.refused.source
