-- The attach that is sent, with as many of its unsettled deliveries as fit (OASIS AMQP 1.0 core,
-- 2.6.3 and 2.7.3).
use Rattle.std.specs.Prelude.{◌≡◌, ℕ, ◌+◌, ◌/◌, ◌^◌, ◌<◌, ◌≤◌, ◌==◌, Bool, true, false, zero, suc, take, length, Option, Some, None, if◌then◌else◌}
use Rattle.amqp_link_types.specs.Entries.{Entries}
use Rattle.amqp_link_types.specs.Size.{attach_len}
use Rattle.amqp_link_types.specs.declared.types.attach.Attach.{Attach}
use Rattle.amqp_link_types.specs.declared.types.delivery_state.DeliveryState.{DeliveryState}

-- the unsettled deliveries that an attach states: each tag, with its state or without one
abbrev pub States : Type 0
States = Entries (Option DeliveryState)

-- whether the entries were halved
abbrev pub is_halved : ℕ → Bool
is_halved zero = false
is_halved (suc j) = true

-- The attach with the first of its entries, their number halved j times and rounded down, and marked
-- incomplete if it was halved at all. If there were no entries to begin with, its map is null.
abbrev pub with_entries : Attach → States → ℕ → Attach
with_entries attach entries j =
    record attach {
      unsettled = if length entries == 0 then None else Some (take (length entries / 2 ^ j) entries);
      incomplete_unsettled = is_halved j;
    }

-- a frame has room for its header of four bytes and the attach
pub record FitsFrame (attach : Attach) (frame : ℕ) : Type 0 where
  pub within : 4 + attach_len attach ≤ frame

-- j is the least number of halvings with which the attach fits
pub record Divided (attach : Attach) (entries : States) (j frame : ℕ) : Type 0 where
  pub fits : FitsFrame (with_entries attach entries j) frame
  pub least : (i : ℕ) → i < j → ¬ FitsFrame (with_entries attach entries i) frame

-- the attach does not fit with any number of halvings
pub record NeverFitsFrame (attach : Attach) (entries : States) (frame : ℕ) : Type 0 where
  pub none : (j : ℕ) → ¬ FitsFrame (with_entries attach entries j) frame

-- the attach that is sent is the one with the least number of halvings
pub record IsDivided (attach : Attach) (entries : States) (frame : ℕ) (now : Attach) : Type 0 where
  pub halvings : ℕ
  pub fewest : Divided attach entries halvings frame
  pub sent : now ≡ with_entries attach entries halvings
