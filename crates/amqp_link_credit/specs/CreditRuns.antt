-- Whole credit runs: the calls that succeed, one after another.
use Rattle.std.specs.Prelude.{◌≡◌, ℕ, ◌<◌, ◌^◌, Bool, List, [], ◌∷◌, length, None}
use Rattle.amqp_link_payloads.specs.declared.message.whole.Whole.{Whole}
use Rattle.amqp_link_types.specs.Deliveries.{Delivered}
use Rattle.amqp_link_types.specs.Entries.{Tag}
use Rattle.amqp_link_types.specs.Refusals.{refusal}
use Rattle.amqp_link_credit.specs.CreditCalls.{GrantsCredit, SendsDelivery, TakesPiece, Completes, TakesFlow, TakesBack, granting_tests}
use Rattle.amqp_link_credit.specs.CreditWorlds.{CreditWorld}
use Rattle.amqp_link_credit.specs.CreditDeliveries.{Part}

-- a call with what it was given and what it returned; an arrival by the frame that arrived
pub data RunCall : Type 0 where
  OfGrant : ℕ → Bool → Bool → RunCall
  OfSend : List ℕ → Bool → Tag → ℕ → RunCall
  OfPiece : ℕ → RunCall
  OfCompletion : ℕ → Delivered Whole → RunCall
  OfFlow : RunCall
  OfBack : Bool → RunCall

abbrev pub DoesCall : CreditWorld → RunCall → CreditWorld → Type 0
DoesCall old (OfGrant credit drain echo) new = (refusal (granting_tests old credit) ≡ None) × GrantsCredit old credit drain echo new
DoesCall old (OfSend payload settled tag count) new = (length payload < 2 ^ 32) × SendsDelivery old payload settled tag count new
DoesCall old (OfPiece id) new = TakesPiece old id new
DoesCall old (OfCompletion id answer) new = Completes old id answer new
DoesCall old OfFlow new = TakesFlow old new
DoesCall old (OfBack replied) new = TakesBack old replied new

-- from one world to another by these calls, in order
abbrev pub IsCreditRun : CreditWorld → List RunCall → CreditWorld → Type 0
IsCreditRun old [] new = new ≡ old
IsCreditRun old (call ∷ calls) new = (mid : CreditWorld) × DoesCall old call mid × IsCreditRun mid calls new

-- the deliveries that were sent, in order
abbrev pub sent_in : List RunCall → List Part
sent_in [] = []
sent_in (OfSend payload settled tag count ∷ calls) = (tag, payload) ∷ sent_in calls
sent_in (call ∷ calls) = sent_in calls

-- the deliveries that were completed, in order
abbrev pub completed_in : List RunCall → List Part
completed_in [] = []
completed_in (OfCompletion id answer ∷ calls) = (answer.info.delivery_tag, answer.message.body.0) ∷ completed_in calls
completed_in (call ∷ calls) = completed_in calls
