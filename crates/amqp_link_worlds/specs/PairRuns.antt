-- Whole runs of a pair: events, their answers, and the worlds between.
use Rattle.std.specs.Prelude.{◌≡◌, ◌⊎◌, ◌<◌, ℕ, Bool, true, false, not, map, take, length, ◌&&◌, ◌||◌, List, [], ◌∷◌, ◌++◌, flat_map, Option, None, Some, IsSomeAnd, Result, Ok, Err, if◌then◌else◌}
use Rattle.std.specs.List.{list_any}
use Rattle.std.specs.Option.{option_or}
use Rattle.std.specs.Str.{bytes_eq}
use Rattle.amqp_link_payloads.specs.declared.error.DecodeError.{DecodeError}
use Rattle.amqp_link_payloads.specs.declared.message.Message.{Message}
use Rattle.amqp_link_types.specs.Entries.{Tag}
use Rattle.amqp_link_types.specs.Frames.{payload_of, performative_of}
use Rattle.amqp_link_types.specs.Refusals.{refusal}
use Rattle.amqp_link_ledger.specs.Fates.{MovesOnce, fates_of, latest}
use Rattle.amqp_link_worlds.specs.Before.{before_measuring, before_decoding}
use Rattle.amqp_link_worlds.specs.Steps.{PairTests, Attaches, StaysOrStops, Grants, Sends, Arrives, Cuts, Resumes, PutsBack, HandsOutDelivery, Settles, IsUndecoded, has_flag, attach_tests, grant_tests, send_tests, arrive_tests, cut_tests, next_tests, hand_out_tests, settle_tests, AbortArrives, SendsAbort, DropsAbort, WithdrawsDelivery, withdraw_tests}
use Rattle.amqp_link_worlds.specs.Wires.{OnWire}
use Rattle.amqp_link_worlds.specs.Worlds.{World, IsFront, IsOpen, bytes_in, held_at, registered_payload}
use Rattle.amqp_link_worlds.specs.declared.event.AnswerOf.{AnswerOf}
use Rattle.amqp_link_worlds.specs.declared.event.AnswerOf.TheVariants as answer
use Rattle.amqp_link_worlds.specs.declared.event.Event.{Event}
use Rattle.amqp_link_worlds.specs.declared.event.Event.TheVariants.{Attach, Grant, Send, Arrive, Cut, ResumeNext, PutBackNext, HandOut, Settle, Withdraw}
use Rattle.amqp_link_worlds.specs.declared.error.PairError.{PairError}
use Rattle.amqp_link_worlds.specs.declared.error.PairError.TheVariants as error

-- how a message is decoded from its bytes
abbrev pub Decoder : Type 0 → Type 0
Decoder B = List ℕ → Result (Message B) DecodeError

-- the payload of the first transfer on a wire
abbrev pub first_payload : List OnWire → List ℕ
first_payload [] = []
first_payload (next ∷ wire) = payload_of next.frame

-- whether the first transfer on a wire aborts its delivery
abbrev pub aborts_next : List OnWire → Bool
aborts_next [] = false
aborts_next (next ∷ wire) = (performative_of next.frame).aborted

-- the payload that an event sends
abbrev pub payload_to_send : Event → Option (List ℕ)
payload_to_send (Send payload) = Some payload
payload_to_send _ = None

module _ {B : Type 0} where
  -- whether an answer states that a delivery with this tag was sent
  abbrev pub is_send_of : Tag → Result (AnswerOf B) PairError → Bool
  is_send_of tag (Ok (answer.Sent sent count)) = bytes_eq tag sent
  is_send_of tag _ = false

  -- whether an answer states that a transfer with this tag arrived
  abbrev pub is_arrival_of : Tag → Result (AnswerOf B) PairError → Bool
  is_arrival_of tag (Ok (answer.Arrived came section offset whole)) = bytes_eq tag came
  is_arrival_of tag _ = false

  -- whether an event changes what the receiver holds of a tag: a transfer of it arrives, or it is settled
  abbrev pub changes_held : Tag → Event → AnswerOf B → Bool
  changes_held tag (Arrive id) (answer.Arrived came section offset whole) = bytes_eq tag came
  changes_held tag (Arrive id) (answer.Aborted came) = bytes_eq tag came
  changes_held tag (Settle settled) answer = bytes_eq tag settled
  changes_held tag event answer = false

  -- whether an answer states that the call was out of memory
  abbrev pub is_answer_out_of_memory : Result (AnswerOf B) PairError → Bool
  is_answer_out_of_memory (Err error.OutOfMemory) = true
  is_answer_out_of_memory _ = false

  -- whether the last of these answers does
  abbrev pub ends_out_of_memory : List (Result (AnswerOf B) PairError) → Bool
  ends_out_of_memory [] = false
  ends_out_of_memory (answer ∷ []) = is_answer_out_of_memory answer
  ends_out_of_memory (answer ∷ next ∷ answers) = ends_out_of_memory (next ∷ answers)

  -- no answer but the last states that its call was out of memory
  abbrev pub StopsInTime : List (Result (AnswerOf B) PairError) → Type 0
  StopsInTime [] = Unit {0}
  StopsInTime (answer ∷ []) = Unit {0}
  StopsInTime (answer ∷ next ∷ answers) = (is_answer_out_of_memory answer ≡ false) × StopsInTime (next ∷ answers)

  -- whether a delivery is out after an answered event: from its send or its resumption until a cut, an attach
  -- or its settlement
  abbrev pub is_out_after : Tag → Event → AnswerOf B → Bool → Bool
  is_out_after tag (Attach limit) answer out = false
  is_out_after tag (Send payload) (answer.Sent sent count) out = bytes_eq tag sent || out
  is_out_after tag Cut answer out = false
  is_out_after tag ResumeNext (answer.Resumed next count resume) out = bytes_eq tag next || out
  is_out_after tag (Settle settled) answer out = not (bytes_eq tag settled) && out
  is_out_after tag event answer out = out

  module _ (decoded : List ℕ → Result (Message B) DecodeError) where
    -- the tests that refuse an event, in order
    abbrev pub tests_of : World → Event → PairTests
    tests_of w (Attach limit) = attach_tests w limit
    tests_of w (Grant n) = grant_tests w
    tests_of w (Send payload) = send_tests w payload
    tests_of w (Arrive id) = arrive_tests w
    tests_of w Cut = cut_tests w
    tests_of w ResumeNext = next_tests w
    tests_of w PutBackNext = next_tests w
    tests_of w (HandOut tag) = hand_out_tests decoded w tag
    tests_of w (Settle tag) = settle_tests w tag
    tests_of w (Withdraw tag) = withdraw_tests w tag

    -- those of which none holds if the event is out of memory
    abbrev pub tests_before_memory : World → Event → PairTests
    tests_before_memory w (Attach limit) = before_measuring w limit
    tests_before_memory w (HandOut tag) = before_decoding w tag
    tests_before_memory w e = tests_of w e

    -- what an event does if it is not refused
    abbrev pub Does : World → Event → AnswerOf B → World → Type 0
    Does old (Attach limit) (answer.Attached count) new = Attaches old limit count new
    Does old (Grant n) (answer.Granted credit) new = Grants old n credit new
    Does old (Send payload) (answer.Sent tag count) new = Sends old payload tag count new
    Does old (Arrive id) (answer.Arrived tag section offset whole) new = Arrives old id tag (section, offset) whole new
    Does old (Arrive id) (answer.Aborted tag) new = AbortArrives old tag new
    Does old Cut answer.Cut new = Cuts old new
    Does old ResumeNext (answer.Resumed tag count resume) new = Resumes old tag count resume new
    Does old ResumeNext (answer.Aborted tag) new = SendsAbort old tag new
    Does old PutBackNext (answer.PutBack tag) new = PutsBack old tag new ⊎ DropsAbort old tag new
    Does old (HandOut tag) (answer.HandedOut delivery) new = HandsOutDelivery decoded old tag delivery new
    Does old (Settle tag) answer.Settled new = Settles old tag new
    Does old (Withdraw tag) answer.Withdrawn new = WithdrawsDelivery old tag new
    Does old _ _ new = ⊥

    -- What an event leaves if it is out of memory: all as it was, or an attach between its steps. A grant, a
    -- cut, a withdrawal and the arrival of an abort do not allocate.
    abbrev pub IsLeft : World → Event → World → Type 0
    IsLeft old (Attach limit) new = StaysOrStops old limit new
    IsLeft old (Grant n) new = ⊥
    IsLeft old Cut new = ⊥
    IsLeft old (Withdraw tag) new = ⊥
    IsLeft old (Arrive id) new = (aborts_next old.wire ≡ false) × (new ≡ old)
    IsLeft old _ new = new ≡ old

    -- what a refused event leaves: all as it was, but a delivery that cannot be decoded counts as handed out
    abbrev pub IsRefused : World → Event → PairError → World → Type 0
    IsRefused old (HandOut tag) error.Decode new = IsUndecoded old tag new
    IsRefused old e error new = new ≡ old

    -- a step: an event with its answer, and the worlds before and after it
    abbrev pub Step : World → Event → Result (AnswerOf B) PairError → World → Type 0
    Step old e (Ok answer) new = (refusal (tests_of old e) ≡ None) × Does old e answer new
    Step old e (Err error.OutOfMemory) new = (refusal (tests_before_memory old e) ≡ None) × IsLeft old e new
    Step old e (Err error) new = (refusal (tests_of old e) ≡ Some error) × IsRefused old e error new

    -- the same as a record
    pub record Moment : Type 0 where
      pub before : World
      pub event : Event
      pub answer : Result (AnswerOf B) PairError
      pub after : World

    -- each event is a step from the world that the one before has left
    abbrev pub IsRun : World → List Moment → World → Type 0
    IsRun old [] new = new ≡ old
    IsRun old (m ∷ moments) new = (m.before ≡ old) × Step m.before m.event m.answer m.after × IsRun m.after moments new

    -- from each world of a run on, the fate of a registration moves at most once: that of one made in the run too
    abbrev pub FatesMoveOnce : List Moment → World → Type 0
    FatesMoveOnce [] new = Unit {0}
    FatesMoveOnce (m ∷ moments) new = MovesOnce m.after.ledger.records new.ledger.records × FatesMoveOnce moments new

    -- ---- the answers to a list of events

    -- The events were done in order, one for each answer. If the run finished, all were done and none was out
    -- of memory; otherwise it stopped after the first that was, or before an event for whose answer there was
    -- no room.
    pub record RunsEvents (old : World) (events : List Event) (answers : List (Result (AnswerOf B) PairError)) (finished : Bool)
        (new : World) : Type 0 where
      pub moments : List Moment
      pub steps : IsRun old moments new
      pub answers_are : answers ≡ map (λ m. m.answer) moments
      pub events_are : take (length answers) events ≡ map (λ m. m.event) moments
      pub in_time : StopsInTime answers
      pub all : finished ≡ true → (length answers ≡ length events) × (ends_out_of_memory answers ≡ false)
      pub not_all : finished ≡ false → (length answers < length events) ⊎ (ends_out_of_memory answers ≡ true)

    -- ---- what was sent

    -- the payload that a step sends in a delivery with this tag
    abbrev pub payload_sent : Tag → Moment → Option (List ℕ)
    payload_sent tag m = if is_send_of tag m.answer then payload_to_send m.event else None

    -- the payload of the last delivery with this tag that these steps send
    abbrev pub last_sent : Tag → List Moment → Option (List ℕ)
    last_sent tag [] = None
    last_sent tag (m ∷ moments) = option_or (last_sent tag moments) (payload_sent tag m)

    -- The payload of the last delivery with this tag: what the last send of the tag in these steps gives; if none
    -- of them sends it, what was registered before.
    abbrev pub last_payload : World → List Moment → Tag → Option (List ℕ)
    last_payload old moments tag = option_or (last_sent tag moments) (registered_payload old tag)

    -- Each delivery whose latest registration is pending or handed out is registered with the payload of the last
    -- delivery with its tag, and the receiver holds a front of that. Of a delivery whose last transfer has arrived
    -- it holds all of it.
    pub record HoldsWhatWasSent (old : World) (moments : List Moment) (new : World) : Type 0 where
      pub payload : (tag : Tag) → IsOpen (latest (fates_of tag new.ledger.records)) → registered_payload new tag ≡ last_payload old moments tag
      pub front : (tag : Tag) → IsOpen (latest (fates_of tag new.ledger.records)) → IsSomeAnd (last_payload old moments tag) (IsFront (bytes_in (held_at new tag)))
      pub whole : (tag : Tag) → has_flag (λ p. p.whole) new tag ≡ true → Some (bytes_in (held_at new tag)) ≡ last_payload old moments tag

    -- ---- what arrived

    -- the payload that a step takes off the wire, if its transfer has this tag
    abbrev pub payload_arrived : Tag → Moment → List ℕ
    payload_arrived tag m = if is_arrival_of tag m.answer then first_payload m.before.wire else []

    -- whether a step sends a delivery with this tag
    abbrev pub does_send : Tag → Moment → Bool
    does_send tag m = is_send_of tag m.answer

    -- the steps after the last send of a tag, or all if there is none
    abbrev pub since_send : Tag → List Moment → List Moment
    since_send tag [] = []
    since_send tag (m ∷ moments) =
        if list_any (does_send tag) moments then since_send tag moments
        else if does_send tag m then moments else m ∷ moments

    -- What arrived of a tag: what was held at the beginning of the run, if the tag was sent before it, and
    -- then the payloads that arrived since the send of the tag.
    abbrev pub arrived : World → List Moment → Tag → List ℕ
    arrived old moments tag =
        (if list_any (does_send tag) moments then [] else bytes_in (held_at old tag)) ++ flat_map (payload_arrived tag) (since_send tag moments)

    -- of each delivery whose latest registration is pending or handed out, the receiver holds exactly what
    -- arrived
    abbrev pub HoldsWhatArrived : World → List Moment → World → Type 0
    HoldsWhatArrived old moments new = (tag : Tag) → IsOpen (latest (fates_of tag new.ledger.records)) → bytes_in (held_at new tag) ≡ arrived old moments tag
