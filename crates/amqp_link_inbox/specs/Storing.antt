-- What an inbox keeps of all deliveries, and what its link states of them (OASIS AMQP 1.0 core, 2.6.12 and 2.7.5).
use Rattle.std.specs.Prelude.{◌≡◌, ◌++◌, not, Bool, true, false, ℕ, List, [], ◌∷◌, Option, Some, None, is_some}
use Rattle.std.specs.Option.{option_map}
use Rattle.amqp_link_payloads.specs.Position.{position}
use Rattle.amqp_link_types.specs.Entries.{Tag, Entries, IsMap, entry_at, with_entry, without_entry}
use Rattle.amqp_link_types.specs.declared.types.delivery_state.DeliveryState.TheVariants.{Received}
use Rattle.amqp_link_types.specs.declared.types.transfer.Transfer.{Transfer}
use Rattle.amqp_link_core.specs.Held.{Held, held_bytes}
use Rattle.amqp_link_core.specs.IncompleteRefusals.{Test}
use Rattle.amqp_link_receiver.specs.ReceiverDeliveries.{forgotten, is_settled, with_kept_state}
use Rattle.amqp_link_receiver.specs.Receivers.{Receiver}
use Rattle.amqp_link_inbox.specs.KeptDeliveries.{IsAdded, addition_tests, first_kept, has_begun, stage_of}
use Rattle.amqp_link_inbox.specs.declared.arrival.Arrival.{Arrival}
use Rattle.amqp_link_inbox.specs.declared.arrival.Arrival.TheVariants as arrival
use Rattle.amqp_link_inbox.specs.declared.kept.Contents.{Contents}
use Rattle.amqp_link_inbox.specs.declared.kept.Contents.TheVariants as contents
use Rattle.amqp_link_inbox.specs.declared.kept.Kept.{Kept}
use Rattle.amqp_link_inbox.specs.declared.kept.Stage.{Stage}

-- what is kept of each delivery by its tag, and the complete ones that are settled and were not taken
pub record Store : Type 0 where
  pub entries : Entries Kept
  pub settled : List Held

-- how far the delivery of a tag has come, if one is kept
abbrev pub stage_at : Entries Kept → Tag → Option Stage
stage_at entries tag = option_map stage_of (entry_at entries tag)

-- what is held, if something is
abbrev pub held_in : Contents → List Held
held_in (contents.Begun held) = held ∷ []
held_in (contents.Complete held) = held ∷ []
held_in contents.Taken = []

-- What is kept of all once this is kept of a delivery, by whether it is settled and whether more of it is to come. One that
-- is settled and of which no more is to come is kept by its tag no longer, so that the tag may be used again: what is held of
-- it waits to be taken.
abbrev pub stored_by : Bool → Bool → Tag → Kept → Store → Store
stored_by true false tag kept s = record { entries = without_entry s.entries tag; settled = s.settled ++ held_in kept.contents }
stored_by true true tag kept s = record { entries = with_entry s.entries tag kept; settled = s.settled }
stored_by false more tag kept s = record { entries = with_entry s.entries tag kept; settled = s.settled }

abbrev pub stored : Bool → Tag → Kept → Store → Store
stored more tag kept s = stored_by kept.settled more tag kept s

-- nothing is kept of the delivery
abbrev pub dropped : Tag → Store → Store
dropped tag s = record { entries = without_entry s.entries tag; settled = s.settled }

module _ {T : Type 0} where
  -- the link states up to where what is held has arrived
  abbrev pub stated_in : Contents → Tag → Receiver T → Receiver T
  stated_in (contents.Begun held) tag link = with_kept_state tag (Received (position (held_bytes held)).0 (position (held_bytes held)).1) link
  stated_in (contents.Complete held) tag link = with_kept_state tag (Received (position (held_bytes held)).0 (position (held_bytes held)).1) link
  stated_in contents.Taken tag link = link

  -- what the link states of a delivery, by whether it is settled: then it has no entry
  abbrev pub stated_by : Bool → Contents → Tag → Receiver T → Receiver T
  stated_by true contents tag link = forgotten tag link
  stated_by false contents tag link = stated_in contents tag link

  abbrev pub stated : Tag → Kept → Receiver T → Receiver T
  stated tag kept link = stated_by kept.settled kept.contents tag link

-- ---- which arrival it is

-- of a transfer that begins a delivery
abbrev pub first_arrival : Bool → Bool → Arrival
first_arrival true settled = arrival.Begun
first_arrival false true = arrival.CompleteSettled
first_arrival false false = arrival.Complete

-- of a further one of a delivery that has begun
abbrev pub next_arrival : Bool → Bool → Arrival
next_arrival true settled = arrival.Continued
next_arrival false true = arrival.CompleteSettled
next_arrival false false = arrival.Complete

-- of a further one, by whether the delivery had only begun
abbrev pub added_arrival : Bool → Bool → Bool → Arrival
added_arrival true more settled = next_arrival more settled
added_arrival false more settled = arrival.Known

-- ---- what a transfer does

-- what is held of a delivery that begins with this transfer
abbrev pub first_held : Transfer → List ℕ → Held
first_held t bytes = record { performative = t; pieces = bytes ∷ [] }

module _ {T : Type 0} where
  -- It begins a delivery, in the place of what was kept of its tag.
  pub record Begins (tag : Tag) (t : Transfer) (bytes : List ℕ) (old : Store) (before : Receiver T) (came : Arrival) (replaced : Option Stage)
      (new : Store) (after : Receiver T) : Type 0 where
    pub store : new ≡ stored t.more tag (first_kept (first_held t bytes) t.more) old
    pub link : after ≡ stated tag (first_kept (first_held t bytes) t.more) before
    pub arrival : came ≡ first_arrival t.more (is_settled t)
    pub replaces : replaced ≡ stage_at old.entries tag

  -- It is added to what is kept of its tag; if that is nothing, it is ignored.
  abbrev pub AddsTo : Option Kept → Bool → Tag → Transfer → List ℕ → Store → Receiver T → Arrival → Store → Receiver T → Type 0
  AddsTo None begins tag t bytes old before came new after = (new ≡ old) × (after ≡ before) × (came ≡ arrival.Ignored)
  AddsTo (Some kept) begins tag t bytes old before came new after = (next : Kept)
      × IsAdded begins t bytes kept next × (new ≡ stored t.more tag next old) × (after ≡ stated tag next before)
      × (came ≡ added_arrival (has_begun kept.contents) t.more next.settled)

-- why a further transfer is refused, by what is kept of its tag
abbrev pub kept_tests : Bool → Option Kept → Transfer → List ℕ → List Test
kept_tests begins None t bytes = []
kept_tests begins (Some kept) t bytes = addition_tests begins kept t bytes

-- ---- what always holds of it

-- whether a delivery is kept and not settled
abbrev pub is_unsettled : Option Kept → Bool
is_unsettled None = false
is_unsettled (Some kept) = not kept.settled

-- The tags are distinct, and the link has an entry exactly for each delivery that is kept and not settled.
pub record IsStated {V : Type 0} (entries : Entries Kept) (unsettled : Entries V) : Type 0 where
  pub entries_map : IsMap entries
  pub unsettled_map : IsMap unsettled
  pub each : (tag : Tag) → is_some (entry_at unsettled tag) ≡ is_unsettled (entry_at entries tag)
