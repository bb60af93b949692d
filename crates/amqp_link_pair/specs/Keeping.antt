-- What a pair keeps of each delivery: how far it has come, and whether transfers of it are under way.
use Rattle.std.specs.Prelude.{◌≡◌, ℕ, Bool, true, not, ◌++◌, if◌then◌else◌, is_some, map, Some}
use Rattle.amqp_link_payloads.specs.Position.{position}
use Rattle.amqp_link_types.specs.Entries.{Tag, Entries, entry_at, with_entry, without_entry}
use Rattle.amqp_link_types.specs.Frames.{payload_of, performative_of}
use Rattle.amqp_link_types.specs.declared.frame.LinkFrame.{LinkFrame}
use Rattle.amqp_link_types.specs.declared.types.terminus.Target.{Target}
use Rattle.amqp_link_receiver.specs.Receivers.{Receiver}
use Rattle.amqp_link_worlds.specs.Steps.{initial_progress, received}
use Rattle.amqp_link_worlds.specs.Worlds.{bytes_in, received_at}
use Rattle.amqp_link_worlds.specs.declared.progress.Progress.{Progress}
use Rattle.amqp_link_pair.specs.declared.deliveries.Kept.{Kept}

-- how far each delivery has come
abbrev pub progress_of : Entries Kept → Entries Progress
progress_of kept = map (λ e. (e.0, e.1.progress)) kept

-- a delivery that was just sent
abbrev pub just_sent : Kept
just_sent = record { progress = initial_progress; is_under_way = true }

-- its entry was put back unsent, or its transfers are under way
abbrev pub marked : Bool → Kept → Kept
marked put_back kept = record {
  progress = record kept.progress { put_back = put_back };
  is_under_way = not put_back;
}

-- it was withdrawn
abbrev pub withdrawn_of : Kept → Kept
withdrawn_of kept = record { progress = record kept.progress { withdrawn = true }; is_under_way = kept.is_under_way }

-- what is kept of all deliveries once one is withdrawn: nothing of it, unless something of it has arrived
abbrev pub without_withdrawn : Tag → Kept → Entries Kept → Entries Kept
without_withdrawn tag kept all =
    if is_some kept.progress.held then with_entry all tag (withdrawn_of kept) else without_entry all tag

-- a delivery once a transfer has arrived
abbrev pub kept_after : Kept → ℕ → LinkFrame → Kept
kept_after kept id frame = record {
  progress = received kept.progress id frame;
  is_under_way = (performative_of frame).more;
}

-- the receiver once it reports a front of a delivery
abbrev pub with_report : Tag → ℕ × ℕ → Receiver Target → Receiver Target
with_report tag place r = record r { unsettled = with_entry r.unsettled tag (Some (received_at place)) }

-- The next transfer of a tag has arrived, and the receiver reports the position of what is held then.
pub record IsReceived (old : Entries Kept) (r : Receiver Target) (tag : Tag) (id : ℕ) (frame : LinkFrame) (place : ℕ × ℕ) (whole : Bool)
    (new : Entries Kept) (after : Receiver Target) : Type 0 where
  pub before : Kept
  pub known : entry_at old tag ≡ Some before
  pub reported : place ≡ position (bytes_in before.progress.held ++ payload_of frame)
  pub ends : whole ≡ (received before.progress id frame).whole
  pub map : new ≡ with_entry old tag (kept_after before id frame)
  pub receiver : after ≡ with_report tag place r
