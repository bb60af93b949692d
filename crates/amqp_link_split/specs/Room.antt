-- The room that a frame has for a payload beside its transfer (OASIS AMQP 1.0 core, 2.3 and 2.7.5).
use Rattle.std.specs.Prelude.{ℕ, ◌+◌, ◌-◌, ◌^◌, min, Bool, true, nat_le, List, length, Some}
use Rattle.amqp_link_types.specs.declared.types.transfer.Transfer.{Transfer}
use Rattle.amqp_link_types.specs.Size.{transfer_len}

-- the transfer at its longest: more = true, and the longest delivery id that a session can give
abbrev pub longest : Transfer → Transfer
longest t = record t { delivery_id = Some (2 ^ 32 - 1); more = true }

-- its length
abbrev pub worst : Transfer → ℕ
worst t = transfer_len (longest t)

-- the frame header of four bytes and the transfer fit the frame, and one byte more if the payload is not
-- empty
abbrev pub has_room : Transfer → ℕ → List ℕ → Bool
has_room t frame payload = nat_le (4 + worst t + min 1 (length payload)) frame

-- the payload limit: the payload bytes for which a frame has room
abbrev pub payload_limit : Transfer → ℕ → ℕ
payload_limit t frame = frame - 4 - worst t
