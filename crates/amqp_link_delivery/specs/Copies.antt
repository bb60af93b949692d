-- Copies of what is sent.
use Rattle.std.specs.Prelude.{◌≡◌, ◌<◌, ◌⊎◌, length}
use Rattle.amqp_link_delivery.specs.declared.sendable.Sendable.{Sendable}

-- a copy has a copy of the body, and all else equal
pub record IsCopy {T : Type 0} (is_body_copy : T → T → Type 0) (sendable copy : Sendable T) : Type 0 where
  pub body : is_body_copy sendable.message.body copy.message.body
  pub rest : copy ≡ record sendable { message = record sendable.message { body = copy.message.body } }

-- the copy may allocate: for bytes in front of the body or behind it, or for the body
abbrev pub CarriesMore : {T : Type 0} → (T → Type 0) → Sendable T → Type 0
CarriesMore is_infallible sendable =
    (0 < length sendable.message.preamble)
    ⊎ (0 < length sendable.message.footer)
    ⊎ ¬ (is_infallible sendable.message.body)
