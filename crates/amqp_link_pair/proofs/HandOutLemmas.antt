-- A pair's receiver hands out a delivery.
use Rattle.std.proofs.Common.{◌≡◌, ◌∙◌, ◌⊎◌, sym, ap, subst, refl, ℕ, Bool, true, false, not, ◌||◌, List, [], ◌∷◌, ◌==◌, None, Some, Option, inl, inr}
use Rattle.std.specs.Prelude.{is_some, IfSome, IfOk, IfErr, Result, Ok, Err, option_and_then}
use Rattle.std.specs.Option.{option_map_or}
use Rattle.amqp_link_payloads.specs.declared.error.DecodeError.{DecodeError}
use Rattle.amqp_link_payloads.specs.declared.message.Message.{Message}
use Rattle.amqp_link_types.specs.Deliveries.{Delivered}
use Rattle.amqp_link_types.specs.Entries.{Tag, Entries, entry_at, with_entry}
use Rattle.amqp_link_types.specs.Refusals.{AnswersOrOutOfMemory, refusal}
use Rattle.amqp_link_types.specs.declared.types.terminus.Target.{Target}
use Rattle.amqp_link_core.specs.Held.{Held}
use Rattle.amqp_link_receiver.specs.Completing.{spent}
use Rattle.amqp_link_receiver.specs.Receivers.{Receiver}
use Rattle.amqp_link_worlds.specs.Callable.{CanComplete}
use Rattle.amqp_link_worlds.specs.Invariants.{IsWorld}
use Rattle.amqp_link_worlds.specs.Steps.{HandsOutDelivery, LeftByHandOut, PairTests, after_hand_out, hand_out_tests, is_error}
use Rattle.amqp_link_worlds.specs.Worlds.{World, bytes_in, held_at, is_together}
use Rattle.amqp_link_worlds.specs.declared.error.PairError.{PairError}
use Rattle.amqp_link_worlds.specs.declared.error.PairError.TheVariants as error
use Rattle.amqp_link_worlds.specs.declared.progress.Progress.{Progress}
use Rattle.amqp_link_worlds.proofs.CallLemmas.{can_complete}
use Rattle.amqp_link_worlds.proofs.WorldLemmas.{IsWorld-hands_out}
use Rattle.amqp_link_worlds.specs.Before.{before_decoding}
use Rattle.amqp_link_pair.specs.HandingOut.{IsGivenAt, LeftByDeliveries, credit_tests, handing_out_tests, held_in, taken_from}
use Rattle.amqp_link_pair.specs.Keeping.{progress_of}
use Rattle.amqp_link_pair.specs.PairViews.{AreMarked}
use Rattle.amqp_link_pair.specs.declared.deliveries.Kept.{Kept}
use Rattle.amqp_link_pair.proofs.MarkLemmas.{marks_stay}
use Rattle.amqp_link_pair.proofs.ProgressLemmas.{held_of_kept, known_at, progress_at, progress_in, progress_of-put}

-- ---- before the receiver is called

-- what is held of a delivery, the receiver can complete
pub can_take : (w : World) (kept : Entries Kept) (tag : Tag) → w.deliveries ≡ progress_of kept → IsWorld w → is_together w.phase ≡ true
    → IfSome (held_in (entry_at kept tag)) (λ h. CanComplete w.receiver h)
can_take w kept tag is world on =
    let at : held_at w tag ≡ held_in (entry_at kept tag) = ap (λ m. option_and_then (λ (p : Progress). p.held) (entry_at m tag)) is ∙ held_of_kept kept tag in
    let each : (o : Option Held) → held_at w tag ≡ o → IfSome o (λ h. CanComplete w.receiver h) =
    λ o. elim o as (λ o. held_at w tag ≡ o → IfSome o (λ h. CanComplete w.receiver h)) [
      | None ↦ λ e. tt
      | Some h ↦ λ e. can_complete w tag h world on e
    ] in
    each (held_in (entry_at kept tag)) at

-- ---- the tests

-- a first test that does not hold falls away
past_first : (b : Bool) (e : PairError) (tests : PairTests) → b ≡ false → refusal ((b, e) ∷ tests) ≡ refusal tests
past_first b e tests h = rw (h) refl

-- nothing is held, or the delivery was withdrawn, by how far it has come
abbrev unknown_by : Option Progress → Bool
unknown_by q = not (is_some (option_and_then (λ (p : Progress). p.held) q)) || option_map_or (λ (p : Progress). p.withdrawn) q false

-- those before the message is decoded, by how far the delivery has come
abbrev credit_by : Option Progress → Receiver Target → PairTests
credit_by q r =
    (unknown_by q, error.UnknownTag)
    ∷ (not (option_map_or (λ (p : Progress). p.whole) q false), error.NotWhole)
    ∷ (option_map_or (λ (p : Progress). p.taken) q false, error.AlreadyHandedOut)
    ∷ (r.flow_state.link_credit == 0, error.TransferLimitExceeded)
    ∷ []

credit_of : (r : Receiver Target) (o : Option Kept) → credit_tests o r ≡ credit_by (progress_in o) r
credit_of r None = refl
credit_of r (Some k) = refl

pub credit_tests_are : (w : World) (kept : Entries Kept) (tag : Tag) → w.deliveries ≡ progress_of kept → is_together w.phase ≡ true
    → refusal (before_decoding w tag) ≡ refusal (credit_tests (entry_at kept tag) w.receiver)
credit_tests_are w kept tag is on =
    past_first (not (is_together w.phase)) error.NotAttached (credit_by (entry_at w.deliveries tag) w.receiver) (ap not on)
    ∙ ap (λ q. refusal (credit_by q w.receiver)) (ap (λ m. entry_at m tag) is ∙ progress_at kept tag)
    ∙ ap refusal (sym (credit_of w.receiver (entry_at kept tag)))

module _ {B : Type 0} (decoded : List ℕ → Result (Message B) DecodeError) where
  -- and all of them
  abbrev tests_by : Option Progress → Receiver Target → PairTests
  tests_by q r =
      (unknown_by q, error.UnknownTag)
      ∷ (not (option_map_or (λ (p : Progress). p.whole) q false), error.NotWhole)
      ∷ (option_map_or (λ (p : Progress). p.taken) q false, error.AlreadyHandedOut)
      ∷ (r.flow_state.link_credit == 0, error.TransferLimitExceeded)
      ∷ (is_error (decoded (bytes_in (option_and_then (λ (p : Progress). p.held) q))), error.Decode)
      ∷ []

  tests_of : (r : Receiver Target) (o : Option Kept) → handing_out_tests decoded o r ≡ tests_by (progress_in o) r
  tests_of r None = refl
  tests_of r (Some k) = refl

  pub tests_are : (w : World) (kept : Entries Kept) (tag : Tag) → w.deliveries ≡ progress_of kept → is_together w.phase ≡ true
      → refusal (hand_out_tests decoded w tag) ≡ refusal (handing_out_tests decoded (entry_at kept tag) w.receiver)
  tests_are w kept tag is on =
      past_first (not (is_together w.phase)) error.NotAttached (tests_by (entry_at w.deliveries tag) w.receiver) (ap not on)
      ∙ ap (λ q. refusal (tests_by q w.receiver)) (ap (λ m. entry_at m tag) is ∙ progress_at kept tag)
      ∙ ap refusal (sym (tests_of w.receiver (entry_at kept tag)))

-- a result by other tests with the same refusal
pub answers_same : {A : Type 0} (r : Result A PairError) (tests others : PairTests) → refusal others ≡ refusal tests
    → AnswersOrOutOfMemory error.OutOfMemory r tests → AnswersOrOutOfMemory error.OutOfMemory r others
answers_same (Ok a) tests others same h = same ∙ h
answers_same (Err e) tests others same h =
    elim h as (λ _. AnswersOrOutOfMemory {A = Unit {0}} error.OutOfMemory (Err e) others) [
      | inl memory ↦ inl memory
      | inr refused ↦ inr (same ∙ refused)
    ]

-- ---- after it

-- nothing has changed, or the delivery counts as handed out
abbrev pub IsOutcome : Tag → Entries Kept → Receiver Target → Entries Kept → Receiver Target → Type 0
IsOutcome tag old r new after =
    ((new ≡ old) × (after ≡ r))
    ⊎ ((k : Kept) × (entry_at old tag ≡ Some k) × (new ≡ with_entry old tag (taken_from k)) × (after ≡ spent r))

module _ (tag : Tag) (old : Entries Kept) (r : Receiver Target) (new : Entries Kept) (after : Receiver Target) where
  refused_outcome : (e : PairError) → LeftByDeliveries e tag old r new after → IsOutcome tag old r new after
  refused_outcome error.Decode l = inr l
  refused_outcome error.AlreadyAttached l = inl l
  refused_outcome error.LimitChanged l = inl l
  refused_outcome error.LimitTooSmall l = inl l
  refused_outcome error.NotAttached l = inl l
  refused_outcome error.ResumeFirst l = inl l
  refused_outcome error.PayloadTooLong l = inl l
  refused_outcome error.CreditMissing l = inl l
  refused_outcome error.TagPending l = inl l
  refused_outcome error.WireEmpty l = inl l
  refused_outcome error.StillHandedOut l = inl l
  refused_outcome error.NothingToResume l = inl l
  refused_outcome error.UnknownTag l = inl l
  refused_outcome error.NotWhole l = inl l
  refused_outcome error.AlreadyWhole l = inl l
  refused_outcome error.AlreadyHandedOut l = inl l
  refused_outcome error.TransferLimitExceeded l = inl l
  refused_outcome error.OnWire l = inl l
  refused_outcome error.OutOfMemory l = inl l

  pub outcome_of : {B : Type 0} (decoded : List ℕ → Result (Message B) DecodeError) (result : Result (Delivered B) PairError)
      → IfOk result (λ delivery. IsGivenAt decoded tag old r delivery new after) → IfErr result (λ e. LeftByDeliveries e tag old r new after)
      → IsOutcome tag old r new after
  outcome_of decoded (Ok delivery) g l = inr (g.before, g.known, g.map, g.receiver)
  outcome_of decoded (Err e) g l = refused_outcome e l

-- the world in which this is kept and the receiver stands so
abbrev pub with_kept : World → Entries Kept → Receiver Target → World
with_kept w kept r = record w { deliveries = progress_of kept; receiver = r }

module _ (w : World) (tag : Tag) (old : Entries Kept) (new : Entries Kept) (after : Receiver Target) (is : w.deliveries ≡ progress_of old) where
  same_world : new ≡ old → after ≡ w.receiver → with_kept w new after ≡ w
  same_world n r = λ i. record w { deliveries = (ap progress_of n ∙ sym is) i; receiver = r i }

  -- the delivery counts as handed out
  pub taken_world : (k : Kept) → new ≡ with_entry old tag (taken_from k) → after ≡ spent w.receiver → with_kept w new after ≡ after_hand_out w tag k.progress
  taken_world k n r = λ i. record w {
    deliveries = (ap progress_of n ∙ progress_of-put old tag (taken_from k) ∙ ap (λ m. with_entry m tag (record k.progress { taken = true })) (sym is)) i;
    receiver = r i;
  }

  known_in : (k : Kept) → entry_at old tag ≡ Some k → entry_at w.deliveries tag ≡ Some k.progress
  known_in k known = ap (λ m. entry_at m tag) is ∙ known_at old tag k known

  pub world_after : IsWorld w → is_together w.phase ≡ true → IsOutcome tag old w.receiver new after → IsWorld (with_kept w new after)
  world_after world on o =
      elim o as (λ _. IsWorld (with_kept w new after)) [
        | inl same ↦ subst IsWorld (sym (same_world same.0 same.1)) world
        | inr taken ↦ let k : Kept = taken.0 in IsWorld-hands_out w (with_kept w new after) tag k.progress world on (known_in k taken.1) (taken_world k taken.2 taken.3)
      ]

  pub marks_after : AreMarked w old → IsOutcome tag old w.receiver new after → AreMarked (with_kept w new after) new
  marks_after marks o =
      elim o as (λ _. AreMarked (with_kept w new after) new) [
        | inl same ↦ subst (AreMarked (with_kept w new after)) (sym same.0) marks
        | inr taken ↦ let k : Kept = taken.0 in
            subst (AreMarked (with_kept w new after)) (sym taken.2)
            (marks_stay w (with_kept w new after) old marks refl tag k (taken_from k) refl refl taken.1 refl)
      ]

  -- the answer of the call
  pub hands_out : {B : Type 0} (decoded : List ℕ → Result (Message B) DecodeError) (result : Result (Delivered B) PairError)
      → IfOk result (λ delivery. IsGivenAt decoded tag old w.receiver delivery new after)
      → IfOk result (λ delivery. HandsOutDelivery decoded w tag delivery (with_kept w new after))
  hands_out decoded (Err e) g = tt
  hands_out decoded (Ok delivery) g =
      let k : Kept = g.before in
      record {
        before = k.progress;
        held = g.held;
        known = known_in k g.known;
        holds = g.holds;
        given = g.given;
        world = taken_world k g.map g.receiver;
      }

  -- and what its refusal leaves
  left_world : (A : Type 0) (e : PairError) → LeftByDeliveries e tag old w.receiver new after → LeftByHandOut {A = A} (Err e) w tag (with_kept w new after)
  left_world A error.Decode l = let k : Kept = l.0 in (k.progress, known_in k l.1, taken_world k l.2 l.3)
  left_world A error.AlreadyAttached l = same_world l.0 l.1
  left_world A error.LimitChanged l = same_world l.0 l.1
  left_world A error.LimitTooSmall l = same_world l.0 l.1
  left_world A error.NotAttached l = same_world l.0 l.1
  left_world A error.ResumeFirst l = same_world l.0 l.1
  left_world A error.PayloadTooLong l = same_world l.0 l.1
  left_world A error.CreditMissing l = same_world l.0 l.1
  left_world A error.TagPending l = same_world l.0 l.1
  left_world A error.WireEmpty l = same_world l.0 l.1
  left_world A error.StillHandedOut l = same_world l.0 l.1
  left_world A error.NothingToResume l = same_world l.0 l.1
  left_world A error.UnknownTag l = same_world l.0 l.1
  left_world A error.NotWhole l = same_world l.0 l.1
  left_world A error.AlreadyWhole l = same_world l.0 l.1
  left_world A error.AlreadyHandedOut l = same_world l.0 l.1
  left_world A error.TransferLimitExceeded l = same_world l.0 l.1
  left_world A error.OnWire l = same_world l.0 l.1
  left_world A error.OutOfMemory l = same_world l.0 l.1

  pub left_by_hand_out : (A : Type 0) (result : Result A PairError) → IfErr result (λ e. LeftByDeliveries e tag old w.receiver new after) → LeftByHandOut result w tag (with_kept w new after)
  left_by_hand_out A (Ok delivery) l = tt
  left_by_hand_out A (Err e) l = left_world A e l
