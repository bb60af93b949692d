-- The frames of one delivery (OASIS AMQP 1.0 core, 2.7.5).
use Rattle.std.specs.Prelude.{◌≡◌, ℕ, ◌+◌, ◌<◌, false, List, [], length, nat_lt, ◌==◌, if◌then◌else◌, Option, Some, None, slice_index_or}
use Rattle.amqp_link_types.specs.declared.types.transfer.Transfer.{Transfer}
use Rattle.amqp_link_types.specs.declared.types.definitions.InputHandle.{InputHandle}
use Rattle.amqp_link_types.specs.declared.frame.LinkTransfer.{LinkTransfer}
use Rattle.amqp_link_types.specs.declared.frame.LinkFrame.{LinkFrame}
use Rattle.amqp_link_types.specs.declared.frame.LinkFrame.TheVariants.{RemoteTransfer, FirstTransfer, TransferContinuation}

-- the transfer in a frame, if it is one
abbrev pub link_transfer : LinkFrame → Option LinkTransfer
link_transfer (RemoteTransfer t) = Some t
link_transfer (FirstTransfer t) = Some t
link_transfer (TransferContinuation t) = Some t
link_transfer _ = None

-- the payload of a frame: none if it is no transfer
abbrev pub payload_of : LinkFrame → List ℕ
payload_of (RemoteTransfer t) = t.payload
payload_of (FirstTransfer t) = t.payload
payload_of (TransferContinuation t) = t.payload
payload_of _ = []

-- a transfer without any field
abbrev pub silent : Transfer
silent = record {
  handle = record { 0 = 0 };
  delivery_id = None;
  delivery_tag = None;
  message_format = None;
  settled = None;
  more = false;
  rcv_settle_mode = None;
  state = None;
  resume = false;
  aborted = false;
  batchable = false;
}

-- the fields of a frame's transfer: none if it is no transfer
abbrev pub performative_of : LinkFrame → Transfer
performative_of (RemoteTransfer t) = t.performative
performative_of (FirstTransfer t) = t.performative
performative_of (TransferContinuation t) = t.performative
performative_of _ = silent

-- without the five fields that only a first transfer has to carry
abbrev pub cleared : Transfer → Transfer
cleared t = record t {
  delivery_id = None;
  delivery_tag = None;
  message_format = None;
  settled = None;
  rcv_settle_mode = None;
}

-- Of n frames for the transfer t at a link's input handle, the frame at place i with this payload: the first
-- has all fields, the others are cleared, and all but the last have more = true.
abbrev pub frame_of : InputHandle → Transfer → ℕ → ℕ → List ℕ → LinkFrame
frame_of handle t i n payload =
    let c = cleared t in
    if i == 0
    then FirstTransfer (record {
      input_handle = handle;
      performative = record t { more = nat_lt (i + 1) n };
      payload = payload;
    })
    else TransferContinuation (record {
      input_handle = handle;
      performative = record c { more = nat_lt (i + 1) n };
      payload = payload;
    })

-- P holds of each element and its place
abbrev pub EachAt : {X : Type 0} → (ℕ → X → Type 0) → List X → Type 0
EachAt {X} P xs = (i : ℕ) (d : X) → i < length xs → P i (slice_index_or xs i d)

-- each frame is the one of its place, whatever its payload
abbrev pub AreFramesOf : InputHandle → Transfer → List LinkFrame → Type 0
AreFramesOf handle t frames = EachAt (λ i f. f ≡ frame_of handle t i (length frames) (payload_of f)) frames
