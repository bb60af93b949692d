-- Why a transfer of a delivery is refused (OASIS AMQP 1.0 core, 2.7.5).
use Rattle.std.specs.Prelude.{◌≡◌, ℕ, Bool, true, false, not, ◌||◌, List, [], ◌∷◌, ◌++◌, nat_eq, Option, Some, is_none, Result, Ok, Err}
use Rattle.std.specs.Str.{bytes_eq}
use Rattle.amqp_link_types.specs.declared.types.transfer.Transfer.{Transfer}
use Rattle.amqp_link_types.specs.declared.types.errors.ReceiverTransferError.{ReceiverTransferError}
use Rattle.amqp_link_types.specs.declared.types.errors.ReceiverTransferError.TheVariants.{DeliveryIdIsNone, DeliveryTagIsNone, InconsistentFieldInMultiFrameDelivery, PayloadTooLong}
use Rattle.amqp_link_payloads.specs.Sections.{is_too_long}
use Rattle.amqp_link_core.specs.Held.{Held, held_bytes}
use Rattle.amqp_link_core.specs.declared.incomplete_transfer.refused.RefusedTransfer.{RefusedTransfer}

-- both are there, and not the same
abbrev pub differs : {A : Type 0} → (A → A → Bool) → Option A → Option A → Bool
differs same (Some a) (Some b) = not (same a b)
differs same _ _ = false

-- a test, and the error where it holds
abbrev pub Test : Type 0
Test = Bool × ReceiverTransferError

-- the test of the bytes of a delivery
abbrev pub long_test : List ℕ → List Test
long_test bytes = (is_too_long bytes, PayloadTooLong) ∷ []

-- the tests of a delivery's first transfer
abbrev pub start_tests : Transfer → List ℕ → List Test
start_tests t payload =
    (is_none t.delivery_id, DeliveryIdIsNone)
    ∷ (is_none t.delivery_tag, DeliveryTagIsNone)
    ∷ long_test payload

-- whether a transfer carries another tag or format than the delivery's
abbrev pub is_of_another : Transfer → Transfer → Bool
is_of_another old t =
    differs bytes_eq old.delivery_tag t.delivery_tag
    || differs nat_eq old.message_format t.message_format

-- whether a transfer carries another tag, id or format than the delivery's
abbrev pub is_inconsistent : Transfer → Transfer → Bool
is_inconsistent old t =
    differs bytes_eq old.delivery_tag t.delivery_tag
    || differs nat_eq old.delivery_id t.delivery_id
    || differs nat_eq old.message_format t.message_format

-- the tests of a continuation
abbrev pub append_tests : Held → Transfer → List ℕ → List Test
append_tests held t payload =
    (is_inconsistent held.performative t, InconsistentFieldInMultiFrameDelivery)
    ∷ long_test (held_bytes held ++ payload)

-- the tests of the first transfer of a resumption, whose id replaces the delivery's
abbrev pub resume_tests : Held → Transfer → List ℕ → List Test
resume_tests held t payload =
    (is_none t.delivery_id, DeliveryIdIsNone)
    ∷ (is_none t.delivery_tag, DeliveryTagIsNone)
    ∷ (is_of_another held.performative t, InconsistentFieldInMultiFrameDelivery)
    ∷ long_test (held_bytes held ++ payload)

-- the tests of any further transfer, by whether it begins a delivery in this attachment
abbrev pub add_tests : Bool → Held → Transfer → List ℕ → List Test
add_tests true held t payload = resume_tests held t payload
add_tests false held t payload = append_tests held t payload

-- the result of a call that hands a refused payload back, without the payload
abbrev pub first_error : {A P : Type 0} → Result A (ReceiverTransferError × P) → Result A ReceiverTransferError
first_error (Ok a) = Ok a
first_error (Err (error, payload)) = Err error

-- the result of a call that hands a refused transfer back, without the transfer
abbrev pub with_error : {A : Type 0} → Result A RefusedTransfer → Result A ReceiverTransferError
with_error (Ok a) = Ok a
with_error (Err refused) = Err refused.error

-- what is handed back is what was passed
pub record AreReturned (t : Transfer) (bytes : List ℕ) (refused : RefusedTransfer) : Type 0 where
  pub transfer : refused.transfer ≡ t
  pub payload : refused.payload ≡ bytes
