-- What a call of C reads out of an object (OASIS AMQP 1.0 core, 2.7.5 to 2.7.7): an entry of a list, with its texts copied into the
-- caller's buffers.
use Rattle.std.specs.Prelude.{◌≡◌, ◌++◌, ◌<◌, ◌⊎◌, ℕ, List, [], Option, Some, None, length, drop, option_and_then, slice_get, unwrap_or, Result, Ok, Err}
use Rattle.amqp_link_c.specs.declared.frames.Sizes.{Sizes}
use Rattle.amqp_link_flat.specs.Flat.{rejection_error_of}
use Rattle.amqp_link_object.specs.States.{frames_in, outcomes_in}
use Rattle.amqp_link_object.specs.declared.state.State.{State}
use Rattle.amqp_link_types.specs.Frames.{link_transfer}
use Rattle.amqp_link_types.specs.declared.frame.LinkFrame.{LinkFrame}
use Rattle.amqp_link_types.specs.declared.frame.LinkFrame.TheVariants as frame
use Rattle.amqp_link_types.specs.declared.frame.LinkTransfer.{LinkTransfer}
use Rattle.amqp_link_types.specs.declared.types.definitions.Error.{Error}
use Rattle.amqp_link_types.specs.declared.types.delivery_state.DeliveryState.{DeliveryState}
use Rattle.amqp_link_types.specs.declared.types.errors.LinkStateError.{LinkStateError}
use Rattle.amqp_link_types.specs.declared.types.performatives.Detach.{Detach}
use Rattle.amqp_link_types.specs.declared.types.performatives.Disposition.{Disposition}

-- the status of an entry that is not there: nothing is in the object, or it has no such entry
abbrev pub absent_status : Option State → ℕ
absent_status None = 1
absent_status (Some s) = 7

-- ---- buffers

-- Bytes were copied to the front of a buffer that has room for them, or neither has changed.
pub record IsCopied (bytes : List ℕ) (room after : List ℕ) (size status : ℕ) : Type 0 where
  pub size_is : size ≡ length bytes
  pub done : status ≡ 0 → after ≡ bytes ++ drop (length bytes) room
  pub small : (length room < length bytes) → status ≡ 6
  pub left : (status ≡ 0 → ⊥) → (after ≡ room) × (length room < length bytes)

-- The same of two runs of bytes and two buffers: both are copied, or neither is.
pub record AreCopied (first second : List ℕ) (first_room first_after second_room second_after : List ℕ) (sizes : Sizes) (status : ℕ) : Type 0 where
  pub sizes_are : sizes ≡ record { first = length first; second = length second }
  pub done : status ≡ 0 → (first_after ≡ first ++ drop (length first) first_room)
      × (second_after ≡ second ++ drop (length second) second_room)
  pub small : (length first_room < length first) ⊎ (length second_room < length second) → status ≡ 6
  pub left : (status ≡ 0 → ⊥) → (first_after ≡ first_room) × (second_after ≡ second_room)
      × ((length first_room < length first) ⊎ (length second_room < length second))

-- ---- frames

-- the number of a frame's kind
abbrev pub frame_number : LinkFrame → ℕ
frame_number (frame.Attach attach) = 1
frame_number (frame.Flow flow) = 2
frame_number (frame.FirstTransfer transfer) = 3
frame_number (frame.RemoteTransfer transfer) = 4
frame_number (frame.TransferContinuation transfer) = 4
frame_number (frame.Disposition disposition) = 5
frame_number (frame.Detach detach) = 6

-- the disposition in a frame, if it has one
abbrev pub disposition_of : LinkFrame → Option Disposition
disposition_of (frame.Disposition disposition) = Some disposition
disposition_of _ = None

-- the detach in a frame, if it has one
abbrev pub detach_of : LinkFrame → Option Detach
detach_of (frame.Detach detach) = Some detach
detach_of _ = None

-- ---- what stands at a number

-- the transfer in the frame with this number, if there is one
abbrev pub transfer_at : ℕ → Option State → Option LinkTransfer
transfer_at number value = option_and_then link_transfer (slice_get (frames_in value) number)

-- the disposition in it
abbrev pub disposition_at : ℕ → Option State → Option Disposition
disposition_at number value = option_and_then disposition_of (slice_get (frames_in value) number)

-- the detach in it
abbrev pub detach_at : ℕ → Option State → Option Detach
detach_at number value = option_and_then detach_of (slice_get (frames_in value) number)

-- ---- errors

-- the error that a frame carries: that of a detach, or of the rejection in a disposition
abbrev pub error_of : LinkFrame → Option Error
error_of (frame.Detach detach) = detach.error
error_of (frame.Disposition disposition) = option_and_then rejection_error_of disposition.state
error_of _ = None

-- the error that the frame with this number carries
abbrev pub error_at : ℕ → Option State → Option Error
error_at number value = option_and_then error_of (slice_get (frames_in value) number)

-- the error of an outcome: that of a rejection
abbrev pub outcome_error : Result (Option DeliveryState) LinkStateError → Option Error
outcome_error (Ok state) = option_and_then rejection_error_of state
outcome_error (Err error) = None

-- the error of the outcome with this number
abbrev pub outcome_error_at : ℕ → Option State → Option Error
outcome_error_at number value = option_and_then (λ ended. outcome_error ended.1) (slice_get (outcomes_in value) number)

-- the tag of a transfer, if it has one
abbrev pub tag_bytes : LinkTransfer → List ℕ
tag_bytes sent = unwrap_or sent.performative.delivery_tag []

-- the words of an error's description, if it has one
abbrev pub description_bytes : Error → List ℕ
description_bytes error = unwrap_or error.description []
