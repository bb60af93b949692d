-- What holds after any list of calls on an inbox, whatever its peer has sent (OASIS AMQP 1.0 core, 2.6.12, 2.6.13 and 2.7.5).
use Rattle.std.specs.Prelude.{◌≡◌, ◌&&◌, ◌++◌, not, ℕ, Bool, true, false, List, [], ◌∷◌, Option, Some, None, Ok, Err, IfSome, bytes_eq, flat_map, is_some, map, option_and_then, take, unwrap_or, if◌then◌else◌}
use Rattle.std.specs.List.{concat, list_any}
use Rattle.std.specs.Option.{option_map, option_or}
use Rattle.amqp_link_payloads.specs.Position.{position}
use Rattle.amqp_link_types.specs.Entries.{Tag, entry_at}
use Rattle.amqp_link_types.specs.declared.types.delivery_state.DeliveryState.{DeliveryState}
use Rattle.amqp_link_types.specs.declared.types.delivery_state.DeliveryState.TheVariants.{Received}
use Rattle.amqp_link_types.specs.declared.types.errors.ReceiverAttachError.{ReceiverAttachError}
use Rattle.amqp_link_types.specs.declared.types.terminus.TargetArchetype.{TargetArchetype}
use Rattle.amqp_link_types.specs.declared.types.transfer.Transfer.{Transfer}
use Rattle.amqp_link_receiver.specs.Completing.{IsDelivery}
use Rattle.amqp_link_core.specs.Held.{held_bytes}
use Rattle.amqp_link_inbox.specs.Bytes.{bytes_at, bytes_before, if_held}
use Rattle.amqp_link_inbox.specs.Inboxes.{InboxState, is_new, resumed_at, tag_of}
use Rattle.amqp_link_inbox.specs.KeptDeliveries.{bytes_until}
use Rattle.amqp_link_inbox.specs.Storing.{IsStated, is_unsettled}
use Rattle.amqp_link_inbox.specs.Taking.{has_taken}
use Rattle.amqp_link_inbox.specs.declared.arrival.Arrival.{Arrival}
use Rattle.amqp_link_inbox.specs.declared.arrival.Arrival.TheVariants as arrival
use Rattle.amqp_link_inbox.specs.declared.error.TakeError.TheVariants as error
use Rattle.amqp_link_inbox_runs.specs.InboxAnswers.{Answers}
use Rattle.amqp_link_inbox_runs.specs.InboxSteps.{Decoder, Step}
use Rattle.amqp_link_inbox_runs.specs.declared.call.AnswerOf.{AnswerOf}
use Rattle.amqp_link_inbox_runs.specs.declared.call.AnswerOf.TheVariants as answer
use Rattle.amqp_link_inbox_runs.specs.declared.call.Call.{Call}
use Rattle.amqp_link_inbox_runs.specs.declared.call.Call.TheVariants as call

-- whether this names the delivery with this tag
abbrev pub names : Tag → Option Tag → Bool
names tag None = false
names tag (Some named) = bytes_eq tag named

-- whether one of these tags does
abbrev pub is_among : Tag → List Tag → Bool
is_among tag tags = list_any (bytes_eq tag) tags

-- a call with its answer, and the inbox before and after it
pub record Moment (T B : Type 0) : Type 0 where
  pub before : InboxState T
  pub call : Call
  pub answer : AnswerOf B
  pub after : InboxState T

-- ---- transfers

-- the bytes that a transfer has
abbrev pub payload_of : Call → List ℕ
payload_of (call.OnIncomingTransfer t bytes) = bytes
payload_of _ = []

-- the start of a transfer that is an arrival of this kind
abbrev pub start_for : Arrival → Option (ℕ × ℕ) → Option (ℕ × ℕ)
start_for arrival.Known start = None
start_for _ start = start

-- whether a transfer begins a delivery
abbrev pub begins_by : {T : Type 0} → InboxState T → Call → Bool
begins_by before (call.OnIncomingTransfer t bytes) = not t.aborted && is_new before t
begins_by before _ = false

-- what has come of a delivery after a call, by whether it brings some of it, and begins it: a transfer's bytes stand where it
-- starts, and without such a place follow all before
abbrev pub come_by : Bool → Bool → Option (ℕ × ℕ) → List ℕ → List ℕ → List ℕ
come_by brings begins start bytes held = if brings then (if begins then bytes else bytes_until start held ++ bytes) else held

module _ {T B : Type 0} where
  -- whether a transfer that was taken belongs to the delivery with this tag
  abbrev pub brings_by : Tag → InboxState T → Call → AnswerOf B → Bool
  brings_by tag before (call.OnIncomingTransfer t bytes) (answer.Arrived (Ok arrived)) = names tag (tag_of before t)
  brings_by tag before _ _ = false

  abbrev pub brings : Tag → Moment T B → Bool
  brings tag m = brings_by tag m.before m.call m.answer

  abbrev pub does_begin : Tag → Moment T B → Bool
  does_begin tag m = brings tag m && begins_by m.before m.call

  -- the calls before the first one that begins a delivery with this tag
  abbrev pub until_begun : Tag → List (Moment T B) → List (Moment T B)
  until_begun tag [] = []
  until_begun tag (m ∷ moments) = if does_begin tag m then [] else m ∷ until_begun tag moments

  -- the position from which a transfer resumes its delivery, if it says so; one of a delivery that was complete before adds
  -- nothing, wherever it starts
  abbrev pub start_by : InboxState T → Call → AnswerOf B → Option (ℕ × ℕ)
  start_by before (call.OnIncomingTransfer t bytes) (answer.Arrived (Ok arrived)) = start_for arrived.arrival (resumed_at before t)
  start_by before _ _ = None

  abbrev pub come_after : Tag → Moment T B → List ℕ → List ℕ
  come_after tag m held = come_by (brings tag m) (begins_by m.before m.call) (start_by m.before m.call m.answer) (payload_of m.call) held

  -- What has come of the latest delivery with this tag after these calls, where this was held of it before them.
  abbrev pub came : List ℕ → Tag → List (Moment T B) → List ℕ
  came held tag [] = held
  came held tag (m ∷ moments) = came (come_after tag m held) tag moments

-- the bytes that are held of a delivery, none if there are none
abbrev pub held_at : {T : Type 0} → InboxState T → Tag → List ℕ
held_at w tag = unwrap_or (bytes_at w.deliveries tag) []

-- Of each delivery of which bytes are held, they are those that have come.
abbrev pub HoldsWhatCame : {T B : Type 0} → InboxState T → List (Moment T B) → InboxState T → Type 0
HoldsWhatCame old moments new = (tag : Tag) → IfSome (bytes_at new.deliveries tag) (λ bytes. bytes ≡ came (held_at old tag) tag moments)

-- ---- what is handed out

module _ {B : Type 0} where
  -- whether a call hands out the delivery with this tag
  abbrev pub takes_by : Tag → Call → AnswerOf B → Bool
  takes_by tag (call.Take named) (answer.Taken r) = bytes_eq tag named && has_taken r
  takes_by tag _ _ = false

  module _ {T : Type 0} where
    abbrev pub takes : Tag → Moment T B → Bool
    takes tag m = takes_by tag m.call m.answer

    -- after each call that hands out a delivery none does before another with its tag begins
    abbrev pub TakesOnce : Tag → List (Moment T B) → Type 0
    TakesOnce tag [] = Unit {0}
    TakesOnce tag (m ∷ moments) = (takes tag m ≡ true → list_any (takes tag) (until_begun tag moments) ≡ false) × TakesOnce tag moments

-- ---- what is stated

-- the state of a delivery of which these bytes have arrived
abbrev pub received : List ℕ → Option DeliveryState
received bytes = Some (Received (position bytes).0 (position bytes).1)

module _ {T B : Type 0} where
  -- What a call states of the delivery with this tag, if it does: up to where it has arrived, or what a disposition states.
  abbrev pub states_by : Tag → InboxState T → Call → AnswerOf B → InboxState T → Option (Option DeliveryState)
  states_by tag before (call.OnIncomingTransfer t bytes) (answer.Arrived (Ok arrived)) after =
      if names tag (tag_of before t) then option_map received (bytes_at after.deliveries tag) else None
  states_by tag before (call.Dispose named settled state batchable) (answer.Disposed (Ok frame)) after =
      if bytes_eq tag named then Some (Some state) else None
  states_by tag before (call.DisposeAll tags settled state batchable) (answer.AllDisposed (Ok frames)) after =
      if is_among tag tags.items then Some (Some state) else None
  states_by tag before (call.KeepOutcome named state) (answer.OutcomeKept (Ok done)) after =
      if bytes_eq tag named then Some (Some state) else None
  states_by tag before (call.OnIncomingDisposition settled state named) (answer.DispositionTaken (Ok done)) after =
      if bytes_eq tag named then Some state else None
  states_by tag before _ _ after = None

  abbrev pub states : Tag → Moment T B → Option (Option DeliveryState)
  states tag m = states_by tag m.before m.call m.answer m.after

  -- what the last of these calls states that states something of it
  abbrev pub last_stated : Tag → List (Moment T B) → Option (Option DeliveryState)
  last_stated tag [] = None
  last_stated tag (m ∷ moments) = option_or (last_stated tag moments) (states tag m)

  -- Of each delivery that is kept and not settled the link states what was stated last, and what it stated before if nothing
  -- was.
  abbrev pub StatesTheLast : InboxState T → List (Moment T B) → InboxState T → Type 0
  StatesTheLast old moments new = (tag : Tag) → is_unsettled (entry_at new.deliveries tag) ≡ true
      → entry_at new.link.unsettled tag ≡ option_or (last_stated tag moments) (entry_at old.link.unsettled tag)

-- ---- those that are settled

-- the bytes that are held of the delivery with this tag, as a list of at most one, if it is kept no longer
abbrev pub if_left : {T : Type 0} → Option Tag → InboxState T → InboxState T → List (List ℕ)
if_left None before after = []
if_left (Some tag) before after = if is_some (entry_at after.deliveries tag) then [] else if_held (bytes_at before.deliveries tag)

-- the bytes of a delivery that a transfer adds to the queue, by what it has made of it: all of them, or those that were held
abbrev pub if_settled : Arrival → List ℕ → List (List ℕ) → List (List ℕ)
if_settled arrival.CompleteSettled whole left = whole ∷ []
if_settled arrival.Known whole left = left
if_settled _ whole left = []

module _ {T B : Type 0} where
  -- the bytes of the delivery that a call adds to the queue, as a list of at most one
  abbrev pub joined_by : InboxState T → Call → AnswerOf B → InboxState T → List (List ℕ)
  joined_by before (call.OnIncomingTransfer t bytes) (answer.Arrived (Ok arrived)) after =
      if_settled arrived.arrival
      (bytes_before (is_new before t) (resumed_at before t) (option_and_then (bytes_at before.deliveries) (tag_of before t)) ++ bytes)
      (if_left (tag_of before t) before after)
  joined_by before (call.OnIncomingDisposition settled state tag) (answer.DispositionTaken (Ok done)) after = if_left (Some tag) before after
  joined_by before _ _ after = []

  abbrev pub joined : Moment T B → List (List ℕ)
  joined m = joined_by m.before m.call m.answer m.after

  -- the bytes of the delivery that a call takes from the queue
  abbrev pub taken_by : InboxState T → Call → AnswerOf B → List (List ℕ)
  taken_by before call.TakeSettled (answer.SettledTaken r) = if has_taken r then map held_bytes (take 1 before.settled) else []
  taken_by before _ _ = []

  abbrev pub taken_first : Moment T B → List (List ℕ)
  taken_first m = taken_by m.before m.call m.answer

  -- What was taken from the queue and then what waits in it is what waited at first and then what joined it, in order.
  abbrev pub KeepsTheQueue : InboxState T → List (Moment T B) → InboxState T → Type 0
  KeepsTheQueue old moments new =
      flat_map taken_first moments ++ map held_bytes new.settled ≡ map held_bytes old.settled ++ flat_map joined moments

-- ---- lists of calls

module _ {T B : Type 0} (sent_as : T → TargetArchetype) (admitted : TargetArchetype → Option T) (refuses : T → T → Option ReceiverAttachError) where
  -- each call answers what it answers alone, and leaves what it leaves alone
  abbrev pub EachAnswers : List (Moment T B) → Type 0
  EachAnswers [] = Unit {0}
  EachAnswers (m ∷ moments) = Answers sent_as admitted refuses m.before m.call m.answer m.after × EachAnswers moments

module _ {T B : Type 0} (decoded : Decoder B) where
  -- Each call is a step from the inbox that the one before has left; after it the link has an entry exactly for each delivery
  -- that is kept and not settled.
  abbrev pub IsRun : InboxState T → List (Moment T B) → InboxState T → Type 0
  IsRun old [] new = new ≡ old
  IsRun old (m ∷ moments) new =
      (m.before ≡ old) × Step decoded m.before m.call m.answer m.after × IsStated m.after.deliveries m.after.link.unsettled × IsRun m.after moments new

  -- the calls were made in order, one for each answer
  pub record RunsCalls (old : InboxState T) (calls : List Call) (answers : List (AnswerOf B)) (new : InboxState T) : Type 0 where
    pub moments : List (Moment T B)
    pub steps : IsRun old moments new
    pub calls_are : calls ≡ map (λ m. m.call) moments
    pub answers_are : answers ≡ map (λ m. m.answer) moments

  -- an answer hands out what is decoded from these bytes, or gives them back
  abbrev pub IsTakenFrom : List ℕ → InboxState T → AnswerOf B → Type 0
  IsTakenFrom bytes before (answer.Taken (Ok delivery)) = (t : Transfer) × IsDelivery before.link t (decoded bytes) delivery
  IsTakenFrom bytes before (answer.Taken (Err (error.Undecoded undecoded))) = concat undecoded.pieces.items ≡ bytes
  IsTakenFrom bytes before _ = ⊥

  -- Each call that hands out a delivery hands out what has come of it before.
  abbrev pub TakesWhatCame : InboxState T → List (Moment T B) → Type 0
  TakesWhatCame old moments = (tag : Tag) (before after : List (Moment T B)) (m : Moment T B) → moments ≡ before ++ m ∷ after → takes tag m ≡ true
      → IsTakenFrom (came (held_at old tag) tag before) m.before m.answer
