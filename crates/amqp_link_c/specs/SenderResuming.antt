-- What a sender does for C of the deliveries that an exchange lists (OASIS AMQP 1.0 core, 2.6.13).
use Rattle.std.specs.Prelude.{◌≡◌, ◌⊎◌, ◌∷◌, ℕ, Bool, List, [], is_some}
use Rattle.std.specs.Option.{option_map_or}
use Rattle.amqp_link_core.specs.declared.resumption.ResumingDelivery.{ResumingDelivery}
use Rattle.amqp_link_core.specs.declared.resumption.ResumingDelivery.TheVariants as next
use Rattle.amqp_link_flat.specs.Statuses.{link_status}
use Rattle.amqp_link_ledger.specs.Fates.{Withdraws as OfWithdrawal, after as after_change}
use Rattle.amqp_link_ledger.specs.Ledgers.{Ledger}
use Rattle.amqp_link_resuming.specs.ResumingSteps.{DoesFirst, step_tests}
use Rattle.amqp_link_resuming.specs.declared.steps.Step.{Step}
use Rattle.amqp_link_resuming.specs.declared.steps.Step.TheVariants as step
use Rattle.amqp_link_types.specs.Entries.{Entries, Tag, entry_at, without_entry}
use Rattle.amqp_link_types.specs.Refusals.{refusal}
use Rattle.amqp_link_types.specs.declared.frame.LinkFrame.{LinkFrame}
use Rattle.amqp_link_types.specs.declared.types.terminus.Target.{Target}

-- the number of what is to be done of a delivery
abbrev pub resuming_number : ResumingDelivery → ℕ
resuming_number (next.Resume entry rest) = 1
resuming_number (next.Resend entry) = 2
resuming_number (next.Abort format own) = 3
resuming_number (next.RestateOutcome tag payload state format) = 4

-- the frames of what was done of it
abbrev pub step_frames : Step → List LinkFrame
step_frames (step.Sent frames) = frames.items
step_frames (step.Aborted frame tag) = frame ∷ []
step_frames _ = []

-- The first delivery of a list is taken from it, and is sent or put back: with these frames.
pub record DoesListed (is_sent : Bool) (list rest : Entries ResumingDelivery) (frames : List LinkFrame) (before after : Ledger Target) : Type 0 where
  pub what : Step
  pub does : DoesFirst is_sent list before what rest after
  pub frames_are : frames ≡ step_frames what

-- the status with which the first of a list is refused: no entry if there is none
abbrev pub listed_status : Bool → Entries ResumingDelivery → Ledger Target → ℕ
listed_status is_sent [] l = 7
listed_status is_sent (first ∷ rest) l = option_map_or link_status (refusal (step_tests is_sent first.0 first.1 l.link)) 0

-- the status of the call: done, out of memory, or that of the refusal
abbrev pub ListedStatus : Bool → Entries ResumingDelivery → ℕ → Ledger Target → Type 0
ListedStatus is_sent list status before = (status ≡ 0) ⊎ ((status ≡ 3) ⊎ (status ≡ listed_status is_sent list before))

-- A delivery is given up, if it is pending.
pub record Withdraws (tag : Tag) (was_pending : Bool) (before after : Ledger Target) : Type 0 where
  pub pending_is : was_pending ≡ is_some (entry_at before.link.unsettled tag)
  pub after_is : after ≡ record {
    link = record before.link { unsettled = without_entry before.link.unsettled tag };
    records = after_change (OfWithdrawal tag) before.records;
  }
