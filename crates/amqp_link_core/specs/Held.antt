-- A delivery whose last transfer has not arrived, or that was not handed out yet.
use Rattle.std.specs.Prelude.{◌≡◌, ℕ, List, take}
use Rattle.std.specs.List.{concat}
use Rattle.amqp_link_types.specs.declared.types.transfer.Transfer.{Transfer}

-- the merged transfer, and the payloads in the order in which they arrived
pub record Held : Type 0 where
  pub performative : Transfer
  pub pieces : List (List ℕ)

-- its bytes so far
abbrev pub held_bytes : Held → List ℕ
held_bytes held = concat held.pieces

-- new holds the bytes of old up to a place; its other fields are those of old
pub record KeepsFront (old new : Held) (place : ℕ) : Type 0 where
  pub bytes : held_bytes new ≡ take place (held_bytes old)
  pub performative : new.performative ≡ old.performative
