-- What is kept of bytes that arrive in pieces.
use Rattle.std.specs.Prelude.{ℕ, Bool, List, ◌≡◌, ◌^◌, ◌||◌, length, nat_le}
use Rattle.amqp_link_payloads.specs.declared.position.sections.Sections.{Sections}
use Rattle.amqp_link_payloads.specs.Position.{position}
use Rattle.amqp_link_payloads.specs.Tail.{IsTailOf}

-- the pieces that were read join to F
pub record HasRead (s : Sections) (F : List ℕ) : Type 0 where
  pub number_is : s.number ≡ (position F).0
  pub offset_is : s.offset ≡ (position F).1
  pub tail_is : IsTailOf s.tail F
  pub length_is : s.length ≡ length F

-- more bytes than a u64 counts, or more sections past the first than a u32
abbrev pub is_too_long : List ℕ → Bool
is_too_long bytes = nat_le (2 ^ 64) (length bytes) || nat_le (2 ^ 32) (position bytes).0
