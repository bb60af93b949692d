-- How a delivery is sent again once its link is attached again, and why it is refused (OASIS AMQP 1.0 core, 2.6.13).
use Rattle.std.specs.Prelude.{◌≡◌, ◌⊎◌, ℕ, Bool, false, List, ◌∷◌, Some, None, is_none, IsSomeAnd, unwrap_or, Result, Ok, Err}
use Rattle.amqp_link_types.specs.Entries.{Tag, with_entry}
use Rattle.amqp_link_types.specs.Refusals.{refusal}
use Rattle.amqp_link_types.specs.declared.delivery.UnsettledMessage.{UnsettledMessage}
use Rattle.amqp_link_types.specs.declared.frame.LinkFrame.{LinkFrame}
use Rattle.amqp_link_types.specs.declared.types.definitions.OutputHandle.{OutputHandle}
use Rattle.amqp_link_types.specs.declared.types.errors.LinkStateError.{LinkStateError}
use Rattle.amqp_link_types.specs.declared.types.errors.LinkStateError.TheVariants.{IllegalState, OutOfMemory}
use Rattle.amqp_link_types.specs.declared.types.transfer.Transfer.{Transfer}
use Rattle.amqp_link_split.specs.Fitting.{IsFitting}
use Rattle.amqp_link_sender.specs.Senders.{IsSent, Sender, delivery_of, new_transfer, resuming_transfer, unsettled_transfer_tests}
use Rattle.amqp_link_ledger.specs.Fates.{Enters, after}
use Rattle.amqp_link_ledger.specs.Ledgers.{Ledger}

module _ {T : Type 0} where
  -- the handle at which the link sends; 0 if it has none
  abbrev pub handle_of : Sender T → OutputHandle
  handle_of link = unwrap_or link.output_handle (record { 0 = 0 })

  -- the tests of a rest that is sent: there is an output handle, and none of the sender's tests holds
  abbrev pub rest_tests : Sender T → Tag → UnsettledMessage → List ℕ → List (Bool × LinkStateError)
  rest_tests link tag entry rest =
      (is_none link.output_handle, IllegalState)
      ∷ unsettled_transfer_tests link
      (resuming_transfer link (handle_of link) tag (delivery_of entry.message_format None None false)) tag rest

  -- the tests of a delivery that is sent again
  abbrev pub again_tests : Sender T → Tag → UnsettledMessage → List (Bool × LinkStateError)
  again_tests link tag entry =
      (is_none link.output_handle, IllegalState)
      ∷ unsettled_transfer_tests link
      (new_transfer link (handle_of link) tag (delivery_of entry.message_format (Some false) None false)) tag entry.payload

-- A call that returns the entry if it is refused, by the first test that holds; out of memory may come before any test.
abbrev pub HandsBackOrOutOfMemory : {A : Type 0} → Result A (LinkStateError × UnsettledMessage) → UnsettledMessage → List (Bool × LinkStateError) → Type 0
HandsBackOrOutOfMemory (Ok a) entry tests = refusal tests ≡ None
HandsBackOrOutOfMemory (Err e) entry tests = (e.1 ≡ entry) × ((e.0 ≡ OutOfMemory) ⊎ (refusal tests ≡ Some e.0))

-- A delivery is sent again by this transfer, with these bytes, in the fewest frames that fit: it is in the unsettled map with
-- its entry, and has a new registration. All else of the link stays, its credit too.
pub record SendsAgain {T : Type 0} (tag : Tag) (entry : UnsettledMessage) (transfer : OutputHandle → Transfer) (bytes : List ℕ)
    (old : Ledger T) (frames : List LinkFrame) (new : Ledger T) : Type 0 where
  pub sent : IsSomeAnd old.link.output_handle (λ handle. IsSent old.link (transfer handle) bytes frames)
  pub fits : IsSomeAnd old.link.output_handle (λ handle. IsFitting (transfer handle) old.link.max_frame_size bytes frames)
  pub link : new.link ≡ record old.link { unsettled = with_entry old.link.unsettled tag entry }
  pub registered : new.records ≡ after (Enters tag) old.records
