-- A delivery is handed out (OASIS AMQP 1.0 core, 2.6.7 and 2.6.12): its refusals, and what they leave.
use Rattle.std.specs.Prelude.{◌≡◌, ℕ, Bool, ◌==◌, ◌||◌, ◌∷◌, [], true, false, not, List, Option, Some, is_some, option_and_then, Result}
use Rattle.std.specs.Option.{option_map_or}
use Rattle.amqp_link_payloads.specs.declared.error.DecodeError.{DecodeError}
use Rattle.amqp_link_payloads.specs.declared.message.Message.{Message}
use Rattle.amqp_link_types.specs.Deliveries.{Delivered}
use Rattle.amqp_link_types.specs.Entries.{Tag, Entries, entry_at, with_entry}
use Rattle.amqp_link_types.specs.declared.types.errors.ReceiverTransferError.{ReceiverTransferError}
use Rattle.amqp_link_types.specs.declared.types.errors.ReceiverTransferError.TheVariants as transfer
use Rattle.amqp_link_types.specs.declared.types.terminus.Target.{Target}
use Rattle.amqp_link_core.specs.Held.{Held, held_bytes}
use Rattle.amqp_link_receiver.specs.Completing.{IsDelivery, spent}
use Rattle.amqp_link_receiver.specs.Receivers.{Receiver}
use Rattle.amqp_link_worlds.specs.Steps.{PairTests, is_error}
use Rattle.amqp_link_worlds.specs.Worlds.{bytes_in}
use Rattle.amqp_link_worlds.specs.declared.error.PairError.{PairError}
use Rattle.amqp_link_worlds.specs.declared.error.PairError.TheVariants as error
use Rattle.amqp_link_pair.specs.declared.deliveries.Kept.{Kept}

-- the error for the refusal of a receiver that has credit for a delivery that is held: its message cannot be
-- decoded, or it is out of memory
abbrev pub refusal_by : ReceiverTransferError → PairError
refusal_by (transfer.MessageDecode e) = error.Decode
refusal_by _ = error.OutOfMemory

-- what is held of a delivery, if it is kept
abbrev pub held_in : Option Kept → Option Held
held_in kept = option_and_then (λ (k : Kept). k.progress.held) kept

-- whether nothing is held of it, or it was withdrawn
abbrev pub is_unknown_in : Option Kept → Bool
is_unknown_in kept = not (is_some (held_in kept)) || option_map_or (λ (k : Kept). k.progress.withdrawn) kept false

-- the tests before its message is decoded
abbrev pub credit_tests : Option Kept → Receiver Target → PairTests
credit_tests kept r =
    (is_unknown_in kept, error.UnknownTag)
    ∷ (not (option_map_or (λ (k : Kept). k.progress.whole) kept false), error.NotWhole)
    ∷ (option_map_or (λ (k : Kept). k.progress.taken) kept false, error.AlreadyHandedOut)
    ∷ (r.flow_state.link_credit == 0, error.TransferLimitExceeded)
    ∷ []

-- a delivery once it is handed out
abbrev pub taken_from : Kept → Kept
taken_from kept = record { progress = record kept.progress { taken = true }; is_under_way = kept.is_under_way }

module _ {B : Type 0} where
  -- all tests
  abbrev pub handing_out_tests : (List ℕ → Result (Message B) DecodeError) → Option Kept → Receiver Target → PairTests
  handing_out_tests decoded kept r =
      (is_unknown_in kept, error.UnknownTag)
      ∷ (not (option_map_or (λ (k : Kept). k.progress.whole) kept false), error.NotWhole)
      ∷ (option_map_or (λ (k : Kept). k.progress.taken) kept false, error.AlreadyHandedOut)
      ∷ (r.flow_state.link_credit == 0, error.TransferLimitExceeded)
      ∷ (is_error (decoded (bytes_in (held_in kept))), error.Decode)
      ∷ []

  -- what a receiver that has credit leaves if it does not hand out what is held
  abbrev pub IsNotGiven : Result (Message B) DecodeError → PairError → Receiver Target → Receiver Target → Type 0
  IsNotGiven decoded error.Decode r after = (is_error decoded ≡ true) × (after ≡ spent r)
  IsNotGiven decoded error.OutOfMemory r after = after ≡ r
  IsNotGiven decoded _ r after = ⊥

  -- the delivery was handed out, and the receiver has spent a credit
  pub record IsGiven (decoded : List ℕ → Result (Message B) DecodeError) (old : Kept) (r : Receiver Target) (delivery : Delivered B)
      (new : Kept) (after : Receiver Target) : Type 0 where
    pub held : Held
    pub holds : old.progress.held ≡ Some held
    pub given : IsDelivery r held.performative (decoded (held_bytes held)) delivery
    pub kept : new ≡ taken_from old
    pub receiver : after ≡ spent r

  -- the same of the delivery of a tag
  pub record IsGivenAt (decoded : List ℕ → Result (Message B) DecodeError) (tag : Tag) (old : Entries Kept) (r : Receiver Target)
      (delivery : Delivered B) (new : Entries Kept) (after : Receiver Target) : Type 0 where
    pub before : Kept
    pub known : entry_at old tag ≡ Some before
    pub held : Held
    pub holds : before.progress.held ≡ Some held
    pub given : IsDelivery r held.performative (decoded (held_bytes held)) delivery
    pub map : new ≡ with_entry old tag (taken_from before)
    pub receiver : after ≡ spent r

-- what a refusal leaves: a delivery that cannot be decoded counts as handed out
abbrev pub LeftByKept : PairError → Kept → Receiver Target → Kept → Receiver Target → Type 0
LeftByKept error.Decode old r new after = (new ≡ taken_from old) × (after ≡ spent r)
LeftByKept _ old r new after = (new ≡ old) × (after ≡ r)

abbrev pub LeftByDeliveries : PairError → Tag → Entries Kept → Receiver Target → Entries Kept → Receiver Target → Type 0
LeftByDeliveries error.Decode tag old r new after =
    (k : Kept) × (entry_at old tag ≡ Some k) × (new ≡ with_entry old tag (taken_from k)) × (after ≡ spent r)
LeftByDeliveries _ tag old r new after = (new ≡ old) × (after ≡ r)
