-- Copies of outcomes that a ledger makes before its sender settles deliveries (OASIS AMQP 1.0 core, 2.6.12).
use Rattle.std.specs.Prelude.{ℕ, ◌||◌, not, Bool, List, [], map, Option, option_map, Result, Ok, if◌then◌else◌}
use Rattle.amqp_link_types.specs.declared.delivery.UnsettledMessage.{UnsettledMessage}
use Rattle.amqp_link_types.specs.declared.types.delivery_state.DeliveryState.{DeliveryState}
use Rattle.amqp_link_types.specs.declared.types.errors.LinkStateError.{LinkStateError}
use Rattle.amqp_link_types.specs.Entries.{Tag, Entries, entry_at}
use Rattle.amqp_link_sender.specs.Senders.{Sender, settles}

-- the outcome that a call returns for a delivery
abbrev pub OutcomeSeen : Type 0
OutcomeSeen = Result (Option DeliveryState) LinkStateError

-- the outcome of a delivery that its sender settles: the state stored in its entry
abbrev pub settled_outcome : Entries UnsettledMessage → Tag → Option OutcomeSeen
settled_outcome own tag = option_map (λ message. Ok message.state) (entry_at own tag)

-- those of the listed deliveries, if they are settled
abbrev pub copies_at : {T : Type 0} → Sender T → Bool → List (ℕ × Tag) → List (Option OutcomeSeen)
copies_at s settled listed =
    if settles s.snd_settle_mode || not settled then [] else map (λ pair. settled_outcome s.unsettled pair.1) listed
