-- A delivery that a sender's ledger sends to an inbox, over several attachments (OASIS AMQP 1.0 core, 2.6.13 and 2.7.5).
use Rattle.std.specs.Prelude.{◌≡◌, ◌&&◌, ◌++◌, ℕ, Bool, true, false, List, [], ◌∷◌, flat_map, is_some, if◌then◌else◌}
use Rattle.std.specs.List.{list_any}
use Rattle.amqp_link_payloads.specs.Position.{position}
use Rattle.amqp_link_types.specs.Entries.{Tag}
use Rattle.amqp_link_core.specs.Resuming.{rest_from}
use Rattle.amqp_link_inbox.specs.Inboxes.{InboxState}
use Rattle.amqp_link_inbox_runs.specs.InboxRuns.{IsRun, Moment, brings, does_begin, held_at, payload_of, start_by}
use Rattle.amqp_link_inbox_runs.specs.InboxSteps.{Decoder}

-- some bytes follow these and make the whole
abbrev pub Opens : List ℕ → List ℕ → Type 0
Opens front whole = (rest : List ℕ) × (front ++ rest ≡ whole)

-- what is still to come of a payload, after the position of what is held
abbrev pub lacking : {T : Type 0} → Tag → List ℕ → InboxState T → List ℕ
lacking tag payload w = rest_from payload (position (held_at w tag)).0 (position (held_at w tag)).1

module _ {T B : Type 0} (tag : Tag) where
  -- the bytes that a call brings of the delivery
  abbrev pub brought : Moment T B → List ℕ
  brought m = if brings tag m then payload_of m.call else []

  -- the calls from the last one on that begins it, or all if none does
  abbrev pub since_begun : List (Moment T B) → List (Moment T B)
  since_begun [] = []
  since_begun (m ∷ moments) = if list_any (does_begin tag) moments then since_begun moments else m ∷ moments

  -- whether a transfer of it says where it starts
  abbrev pub does_start : Moment T B → Bool
  does_start m = brings tag m && is_some (start_by m.before m.call m.answer)

  -- none does: each starts where the one before has ended, as a ledger's do whose caller states nothing in them
  abbrev pub FollowOn : List (Moment T B) → Type 0
  FollowOn moments = list_any does_start moments ≡ false

module _ {T B : Type 0} (tag : Tag) (payload : List ℕ) where
  -- What comes of the delivery in one attachment, by whether it begins there: a front of its payload, or of what was lacking.
  abbrev pub ComesBy : Bool → InboxState T → List (Moment T B) → Type 0
  ComesBy true old moments = Opens (flat_map (brought tag) (since_begun tag moments)) payload
  ComesBy false old moments = Opens (flat_map (brought tag) moments) (lacking tag payload old)

  abbrev pub Comes : InboxState T → List (Moment T B) → Type 0
  Comes old moments = FollowOn tag moments × ComesBy (list_any (does_begin tag) moments) old moments

  -- the same of all that was to come
  abbrev pub ComesWholeBy : Bool → InboxState T → List (Moment T B) → Type 0
  ComesWholeBy true old moments = flat_map (brought tag) (since_begun tag moments) ≡ payload
  ComesWholeBy false old moments = flat_map (brought tag) moments ≡ lacking tag payload old

  abbrev pub ComesWhole : InboxState T → List (Moment T B) → Type 0
  ComesWhole old moments = FollowOn tag moments × ComesWholeBy (list_any (does_begin tag) moments) old moments

  -- several attachments, one after the other
  abbrev pub AreAttachments : Decoder B → InboxState T → List (List (Moment T B)) → InboxState T → Type 0
  AreAttachments decoded old [] new = new ≡ old
  AreAttachments decoded old (moments ∷ later) new =
      (next : InboxState T) × IsRun decoded old moments next × Comes old moments × AreAttachments decoded next later new
