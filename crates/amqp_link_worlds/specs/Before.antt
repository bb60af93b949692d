-- The first tests of three calls of a pair: only if none of them holds may the call be out of memory.
use Rattle.std.specs.Prelude.{ℕ, ◌^◌, ◌∷◌, [], ◌==◌, List, not, length, nat_le, nat_lt}
use Rattle.amqp_link_types.specs.Entries.{Tag}
use Rattle.amqp_link_worlds.specs.Steps.{PairTests, has_flag, is_empty, is_unknown, is_halfway_at_other}
use Rattle.amqp_link_worlds.specs.Worlds.{World, is_together}
use Rattle.amqp_link_worlds.specs.declared.error.PairError.TheVariants as error

-- of an attach, before the attaches of both endpoints are made to be measured
abbrev pub before_measuring : World → ℕ → PairTests
before_measuring w limit =
    (is_together w.phase, error.AlreadyAttached)
    ∷ (is_halfway_at_other limit w.phase, error.LimitChanged)
    ∷ (nat_lt limit 29, error.LimitTooSmall)
    ∷ []

-- of a send, before the delivery-tag is made
abbrev pub before_tag : World → List ℕ → PairTests
before_tag w payload =
    (not (is_together w.phase), error.NotAttached)
    ∷ (not (is_empty w.resuming), error.ResumeFirst)
    ∷ (nat_le (2 ^ 32) (length payload), error.PayloadTooLong)
    ∷ (w.ledger.link.flow_state.link_credit == 0, error.CreditMissing)
    ∷ []

-- of a hand-out, before the delivery's message is decoded
abbrev pub before_decoding : World → Tag → PairTests
before_decoding w tag =
    (not (is_together w.phase), error.NotAttached)
    ∷ (is_unknown w tag, error.UnknownTag)
    ∷ (not (has_flag (λ p. p.whole) w tag), error.NotWhole)
    ∷ (has_flag (λ p. p.taken) w tag, error.AlreadyHandedOut)
    ∷ (w.receiver.flow_state.link_credit == 0, error.TransferLimitExceeded)
    ∷ []
