-- The bytes that are held of a delivery, and what a transfer makes of them (OASIS AMQP 1.0 core, 2.7.5).
use Rattle.std.specs.Prelude.{◌≡◌, ◌⊎◌, ◌++◌, ℕ, Bool, true, false, List, [], ◌∷◌, map, Option, Some, None, unwrap_or}
use Rattle.amqp_link_types.specs.Entries.{Tag, Entries, entry_at}
use Rattle.amqp_link_core.specs.Held.{held_bytes}
use Rattle.amqp_link_inbox.specs.KeptDeliveries.{bytes_until}
use Rattle.amqp_link_inbox.specs.Storing.{Store}
use Rattle.amqp_link_inbox.specs.declared.arrival.Arrival.{Arrival}
use Rattle.amqp_link_inbox.specs.declared.arrival.Arrival.TheVariants as arrival
use Rattle.amqp_link_inbox.specs.declared.kept.Contents.{Contents}
use Rattle.amqp_link_inbox.specs.declared.kept.Contents.TheVariants as contents
use Rattle.amqp_link_inbox.specs.declared.kept.Kept.{Kept}

-- the bytes that are held, if some are
abbrev pub bytes_in : Contents → Option (List ℕ)
bytes_in (contents.Begun held) = Some (held_bytes held)
bytes_in (contents.Complete held) = Some (held_bytes held)
bytes_in contents.Taken = None

abbrev pub bytes_kept : Option Kept → Option (List ℕ)
bytes_kept None = None
bytes_kept (Some kept) = bytes_in kept.contents

-- those of the delivery with this tag
abbrev pub bytes_at : Entries Kept → Tag → Option (List ℕ)
bytes_at entries tag = bytes_kept (entry_at entries tag)

-- those to which a transfer adds its own: none, if it begins a new delivery; else those before the place where it starts
abbrev pub bytes_before : Bool → Option (ℕ × ℕ) → Option (List ℕ) → List ℕ
bytes_before true start held = []
bytes_before false start held = bytes_until start (unwrap_or held [])

-- as a list of at most one
abbrev pub if_held : Option (List ℕ) → List (List ℕ)
if_held None = []
if_held (Some bytes) = bytes ∷ []

-- these wait as the last ones that are settled, and nothing is held by the tag
abbrev pub Wait : Tag → List (List ℕ) → Store → Store → Type 0
Wait tag last old new = (bytes_at new.entries tag ≡ None) × (map held_bytes new.settled ≡ map held_bytes old.settled ++ last)

-- What is held of a delivery after a transfer, by the arrival: its bytes after those before it, by its tag or in the queue;
-- what was held, where it has none; nothing, where it aborts.
abbrev pub IsHeld : Arrival → Tag → List ℕ → Store → Store → Type 0
IsHeld arrival.Begun tag whole old new = bytes_at new.entries tag ≡ Some whole
IsHeld arrival.Continued tag whole old new = bytes_at new.entries tag ≡ Some whole
IsHeld arrival.Complete tag whole old new = bytes_at new.entries tag ≡ Some whole
IsHeld arrival.CompleteSettled tag whole old new = Wait tag (whole ∷ []) old new
IsHeld arrival.Known tag whole old new =
    ((bytes_at new.entries tag ≡ bytes_at old.entries tag) × (new.settled ≡ old.settled)) ⊎ Wait tag (if_held (bytes_at old.entries tag)) old new
IsHeld (arrival.Aborted stage) tag whole old new = bytes_at new.entries tag ≡ None
IsHeld arrival.Ignored tag whole old new = new ≡ old
