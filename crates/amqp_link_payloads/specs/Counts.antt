-- What is kept of the sections of bytes as they are read.
use Rattle.std.specs.Prelude.{ℕ, List, ◌≡◌, ◌≤◌, ◌-◌, ◌^◌, nat_lt, Option, Some, None, if◌then◌else◌}
use Rattle.amqp_link_payloads.specs.declared.position.counts.Counts.{Counts}
use Rattle.amqp_link_payloads.specs.Position.{position}

-- n, if it is below the bound
abbrev pub number_below : ℕ → ℕ → Option ℕ
number_below bound n = if nat_lt n bound then Some n else None

-- the counts of F, of which the last n bytes are of the piece that is read
pub record HasCounted (c : Counts) (F : List ℕ) (n : ℕ) : Type 0 where
  pub number_is : c.number ≡ number_below (2 ^ 32) (position F).0
  pub from_within : c.from ≤ n
  pub since : n - c.from ≤ (position F).1
  pub offset_is : c.offset ≡ number_below (2 ^ 64) ((position F).1 - (n - c.from))
