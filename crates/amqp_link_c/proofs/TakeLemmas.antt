-- All bytes of a delivery are a message: none are given back.
use Rattle.std.proofs.Common.{◌≡◌, Option, Some, None, Ok, Err}
use Rattle.std.specs.Prelude.{IsSomeAnd}
use Rattle.amqp_link_core.specs.Held.{Held}
use Rattle.amqp_link_inbox.specs.Taking.{IsGivenBack}
use Rattle.amqp_link_inbox.specs.declared.error.Undecoded.{Undecoded}
use Rattle.amqp_link_payloads.specs.Bodies.{whole_message}

ok_is_no_error : {A E : Type 0} {a : A} {error : E} → Ok a ≡ Err error → ⊥
ok_is_no_error h = cc

-- whatever is held
pub none_is_given_back : (held : Option Held) (undecoded : Undecoded)
    → IsSomeAnd held (λ h. IsGivenBack whole_message h undecoded) → ⊥
none_is_given_back None undecoded given = given
none_is_given_back (Some h) undecoded given = ok_is_no_error given.source
