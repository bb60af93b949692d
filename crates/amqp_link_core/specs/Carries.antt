-- A position that is kept as payloads arrive (OASIS AMQP 1.0 core, 3.4.1).
use Rattle.std.specs.Prelude.{◌≡◌, ℕ, List, false}
use Rattle.amqp_link_payloads.specs.Sections.{HasRead, is_too_long}
use Rattle.amqp_link_core.specs.declared.position_carry.PositionCarry.{PositionCarry}

-- the payloads that were pushed join to F
abbrev pub HasPushed : PositionCarry → List ℕ → Type 0
HasPushed c F = HasRead c.sections F

-- they join to F, and F is not too long
pub record IsKept (c : PositionCarry) (F : List ℕ) : Type 0 where
  pub pushed : HasPushed c F
  pub counted : is_too_long F ≡ false
