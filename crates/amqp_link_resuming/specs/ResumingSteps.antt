-- What is done of a delivery that an exchange lists, and of the first of a list (OASIS AMQP 1.0 core, 2.6.13).
use Rattle.std.specs.Prelude.{◌≡◌, ◌⊎◌, ◌∷◌, Bool, true, false, ℕ, List, [], Option, Some, None, IsSomeAnd, Ok}
use Rattle.amqp_link_types.specs.Entries.{Tag, Entries, with_entry}
use Rattle.amqp_link_types.specs.Refusals.{refusal}
use Rattle.amqp_link_types.specs.declared.delivery.UnsettledMessage.{UnsettledMessage}
use Rattle.amqp_link_types.specs.declared.frame.LinkFrame.{LinkFrame}
use Rattle.amqp_link_types.specs.declared.types.errors.LinkStateError.{LinkStateError}
use Rattle.amqp_link_types.specs.declared.types.errors.LinkStateError.TheVariants.{OutOfMemory, TagPending}
use Rattle.amqp_link_core.specs.declared.resumption.ResumingDelivery.{ResumingDelivery}
use Rattle.amqp_link_core.specs.declared.resumption.ResumingDelivery.TheVariants as next
use Rattle.amqp_link_sender.specs.Senders.{Sender, abort_frame, abort_tests, delivery_of, is_pending, new_transfer, resuming_transfer}
use Rattle.amqp_link_ledger.specs.Disposing.{OutcomeSeen}
use Rattle.amqp_link_ledger.specs.Fates.{Enters, after}
use Rattle.amqp_link_ledger.specs.Ledgers.{Ledger}
use Rattle.amqp_link_resuming.specs.SendingAgain.{SendsAgain, again_tests, rest_tests}
use Rattle.amqp_link_resuming.specs.declared.steps.Step.{Step}
use Rattle.amqp_link_resuming.specs.declared.steps.Step.TheVariants as step

-- a delivery that is left, by its entry and its rest
abbrev pub left_as : UnsettledMessage → Option (List ℕ) → ResumingDelivery
left_as entry None = next.Resend entry
left_as entry (Some rest) = next.Resume entry rest

-- the entry of one that is to be sent again
abbrev pub entry_in : ResumingDelivery → Option UnsettledMessage
entry_in (next.Resume entry rest) = Some entry
entry_in (next.Resend entry) = Some entry
entry_in _ = None

-- Its outcome, if the sender itself knows one; where it is not sent, one that was given up has none.
abbrev pub EndsBy : Bool → ResumingDelivery → OutcomeSeen → Type 0
EndsBy is_sent (next.RestateOutcome tag payload state format) outcome = outcome ≡ Ok (Some state)
EndsBy false (next.Abort format own) outcome = outcome ≡ Ok None
EndsBy _ _ outcome = ⊥

-- Its entry is registered again, without being sent.
pub record PutsBack {T : Type 0} (tag : Tag) (n : ResumingDelivery) (old new : Ledger T) : Type 0 where
  pub entry : UnsettledMessage
  pub entry_is : entry_in n ≡ Some entry
  pub link : new.link ≡ record old.link { unsettled = with_entry old.link.unsettled tag entry }
  pub records : new.records ≡ after (Enters tag) old.records

-- why it is not done: by its tests; out of memory may come before any
abbrev pub StopsStep : LinkStateError → List (Bool × LinkStateError) → Type 0
StopsStep why tests = (why ≡ OutOfMemory) ⊎ (refusal tests ≡ Some why)

module _ {T : Type 0} where
  -- It is sent again: its rest, by a transfer that resumes it, or the whole of it as a new one.
  abbrev pub ResumesBy : Tag → ResumingDelivery → Ledger T → List LinkFrame → Ledger T → Type 0
  ResumesBy tag (next.Resume entry rest) old frames new = SendsAgain tag entry
      (λ handle. resuming_transfer old.link handle tag (delivery_of entry.message_format None None false)) rest old frames new
  ResumesBy tag (next.Resend entry) old frames new = SendsAgain tag entry
      (λ handle. new_transfer old.link handle tag (delivery_of entry.message_format (Some false) None false)) entry.payload old frames new
  ResumesBy tag _ old frames new = ⊥

  -- the frame by which its peer forgets it
  abbrev pub AbortsBy : Tag → ResumingDelivery → Sender T → LinkFrame → Type 0
  AbortsBy tag (next.Abort format own) link frame = IsSomeAnd link.output_handle (λ output. IsSomeAnd link.input_handle (λ input.
      frame ≡ abort_frame output input tag format))
  AbortsBy tag _ link frame = ⊥

  -- the tests of what is done of it: of sending its rest, of sending it again, of giving it up, or of putting it back
  abbrev pub step_tests : Bool → Tag → ResumingDelivery → Sender T → List (Bool × LinkStateError)
  step_tests true tag (next.Resume entry rest) link = rest_tests link tag entry rest
  step_tests true tag (next.Resend entry) link = again_tests link tag entry
  step_tests true tag (next.Abort format own) link = abort_tests link tag format
  step_tests false tag (next.Resume entry rest) link = (is_pending link tag, TagPending) ∷ []
  step_tests false tag (next.Resend entry) link = (is_pending link tag, TagPending) ∷ []
  step_tests is_sent tag n link = []

  -- what is done of one delivery, with the ledger before and after, by whether it is to be sent
  abbrev pub DoesOf : Bool → Tag → ResumingDelivery → Ledger T → Ledger T → Step → Type 0
  DoesOf is_sent tag n old new (step.Sent frames) = (is_sent ≡ true) × ResumesBy tag n old frames.items new
  DoesOf is_sent tag n old new (step.Aborted frame named) = (is_sent ≡ true) × (named ≡ tag) × AbortsBy tag n old.link frame × (new ≡ old)
  DoesOf is_sent tag n old new (step.Ended named outcome) = (named ≡ tag) × EndsBy is_sent n outcome × (new ≡ old)
  DoesOf is_sent tag n old new step.PutBack = (is_sent ≡ false) × PutsBack tag n old new
  DoesOf is_sent tag n old new step.Nothing = ⊥

-- ---- a list of them

-- the first of the list is taken from it, this is done of it, and no test of that holds
pub record DoesFirst {T : Type 0} (is_sent : Bool) (list : Entries ResumingDelivery) (old : Ledger T) (what : Step)
    (rest : Entries ResumingDelivery) (new : Ledger T) : Type 0 where
  pub tag : Tag
  pub next_is : ResumingDelivery
  pub first : list ≡ (tag, next_is) ∷ rest
  pub does : DoesOf is_sent tag next_is old new what
  pub passes : refusal (step_tests is_sent tag next_is old.link) ≡ None

module _ {T : Type 0} where
  -- the same, or nothing with nothing changed, which comes exactly of an empty list
  abbrev pub DoesNext : Bool → Entries ResumingDelivery → Ledger T → Step → Entries ResumingDelivery → Ledger T → Type 0
  DoesNext is_sent list old step.Nothing rest new = (list ≡ []) × (rest ≡ []) × (new ≡ old)
  DoesNext is_sent list old what rest new = DoesFirst is_sent list old what rest new

  -- why the first stays in the list: there is one, and it is not done
  abbrev pub StopsListed : Bool → LinkStateError → Entries ResumingDelivery → Sender T → Type 0
  StopsListed is_sent why [] link = ⊥
  StopsListed is_sent why (first ∷ rest) link = StopsStep why (step_tests is_sent first.0 first.1 link)
