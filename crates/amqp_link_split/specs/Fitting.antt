-- Transfers that fit the frame limit (OASIS AMQP 1.0 core, 2.3, 2.7.1 and 2.7.5).
use Rattle.std.specs.Prelude.{ℕ, ◌+◌, ◌-◌, ◌≤◌, ◌^◌, List, length, All, Some}
use Rattle.amqp_link_types.specs.Frames.{performative_of, payload_of}
use Rattle.amqp_link_types.specs.Size.{transfer_len}
use Rattle.amqp_link_types.specs.declared.frame.LinkFrame.{LinkFrame}
use Rattle.amqp_link_types.specs.declared.frame.LinkFrame.TheVariants.{FirstTransfer}
use Rattle.amqp_link_types.specs.declared.types.transfer.Transfer.{Transfer}
use Rattle.amqp_link_split.specs.Room.{payload_limit}
use Rattle.amqp_link_split.specs.Split.{IsFewestPieces}

-- a frame's transfer as it goes out: a session gives the first one of a delivery an id, here the longest
abbrev pub outgoing : LinkFrame → Transfer
outgoing (FirstTransfer x) = record x.performative { delivery_id = Some (2 ^ 32 - 1) }
outgoing f = performative_of f

-- the bytes of a frame: a header of four bytes, the transfer and the payload
abbrev pub frame_len : LinkFrame → ℕ
frame_len f = 4 + transfer_len (outgoing f) + length (payload_of f)

-- Each frame fits the frame limit, and no fewer pieces of the payload limit are the payload.
pub record IsFitting (t : Transfer) (limit : ℕ) (P : List ℕ) (frames : List LinkFrame) : Type 0 where
  pub within : All (λ f. frame_len f ≤ limit) frames
  pub fewest : IsFewestPieces P (payload_limit t limit) (length frames)
