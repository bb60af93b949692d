-- What a call of a pair answers and leaves is a step, and steps follow one another.
use Rattle.std.proofs.Common.{◌≡◌, ◌≢◌, sym, ℕ, ◌≤◌, Bool, true, false, List, [], ◌∷◌, refl, ap, subst, ◌∙◌, inl, inr, Ok, Err, Result, arith, nat_lt}
use Rattle.std.specs.Result.{result_map_both}
use Rattle.std.specs.Prelude.{Some, None, IfOk, OnErr, IsErrOf}
use Rattle.std.proofs.lemmas.Bool.{le-ltb}
use Rattle.amqp_link_types.specs.Entries.{Tag}
use Rattle.amqp_link_types.specs.Refusals.{refusal, AnswersExactly, AnswersOrOutOfMemory, AnswersThenOutOfMemory}
use Rattle.amqp_link_types.proofs.MapLemmas.{false_is_not_true}
use Rattle.amqp_link_ledger.proofs.ListSteps.{some_is}
use Rattle.amqp_link_worlds.specs.Before.{before_measuring}
use Rattle.amqp_link_worlds.specs.PairRuns.{Decoder, aborts_next, tests_of, tests_before_memory, Does, IsLeft, IsRefused, Step, RunsEvents, StopsInTime, is_answer_out_of_memory, ends_out_of_memory}
use Rattle.amqp_link_worlds.specs.declared.event.AnswerOf.{AnswerOf}
use Rattle.amqp_link_worlds.specs.declared.event.Event.{Event}
use Rattle.amqp_link_worlds.specs.declared.event.Event.TheVariants.{Attach, Grant, Arrive, HandOut, Cut, Withdraw}
use Rattle.amqp_link_worlds.specs.Steps.{PairTests, LeftByAttach, LeftByHandOut, grant_tests, send_tests, arrive_tests, cut_tests, next_tests, settle_tests, withdraw_tests, is_halfway_at_other}
use Rattle.amqp_link_worlds.specs.Worlds.{World, is_together}
use Rattle.amqp_link_worlds.specs.declared.error.PairError.{PairError}
use Rattle.amqp_link_worlds.specs.declared.error.PairError.TheVariants.{AlreadyAttached, LimitChanged, LimitTooSmall, OutOfMemory, Decode}

-- ---- answers

pub then_or : {A : Type 0} (r : Result A PairError) (tests : PairTests) → AnswersThenOutOfMemory OutOfMemory r tests → AnswersOrOutOfMemory OutOfMemory r tests
then_or (Ok a) tests h = h
then_or (Err e) tests h = elim (h) [ inl memory ↦ inl memory.0 | inr test ↦ inr test ]

pub exactly_or : {A : Type 0} (r : Result A PairError) (tests : PairTests) → AnswersExactly r tests → AnswersOrOutOfMemory OutOfMemory r tests
exactly_or (Ok a) tests h = h
exactly_or (Err e) tests h = inr h

-- whether an error is that a call is out of memory
abbrev is_memory : PairError → Bool
is_memory OutOfMemory = true
is_memory error = false

-- none of these tests names it
abbrev NamesNone : PairTests → Type 0
NamesNone [] = Unit {0}
NamesNone (test ∷ tests) = (is_memory test.1 ≡ false) × NamesNone tests

none_names_it : (tests : PairTests) → NamesNone tests → refusal tests ≢ Some OutOfMemory
none_names_it [] names h = cc
none_names_it (test ∷ tests) names h = by test.0 (none_names_it tests names.1) h
  where
    by : (holds : Bool) → (refusal tests ≡ Some OutOfMemory → ⊥) → refusal ((holds, test.1) ∷ tests) ≡ Some OutOfMemory → ⊥
    by true rest h = false_is_not_true (sym names.0 ∙ ap is_memory (some_is h))
    by false rest h = rest h

pub grant_needs_none : (w : World) → refusal (grant_tests w) ≢ Some OutOfMemory
grant_needs_none w = none_names_it (grant_tests w) (refl, tt)

pub send_needs_none : (w : World) (payload : List ℕ) → refusal (send_tests w payload) ≢ Some OutOfMemory
send_needs_none w payload = none_names_it (send_tests w payload) (refl, (refl, (refl, (refl, (refl, tt)))))

pub arrive_needs_none : (w : World) → refusal (arrive_tests w) ≢ Some OutOfMemory
arrive_needs_none w = none_names_it (arrive_tests w) (refl, (refl, tt))

pub cut_needs_none : (w : World) → refusal (cut_tests w) ≢ Some OutOfMemory
cut_needs_none w = none_names_it (cut_tests w) (refl, (refl, tt))

pub next_needs_none : (w : World) → refusal (next_tests w) ≢ Some OutOfMemory
next_needs_none w = none_names_it (next_tests w) (refl, (refl, tt))

pub settle_needs_none : (w : World) (tag : Tag) → refusal (settle_tests w tag) ≢ Some OutOfMemory
settle_needs_none w tag = none_names_it (settle_tests w tag) (refl, (refl, (refl, (refl, (refl, tt)))))

pub withdraw_needs_none : (w : World) (tag : Tag) → refusal (withdraw_tests w tag) ≢ Some OutOfMemory
withdraw_needs_none w tag = none_names_it (withdraw_tests w tag) (refl, (refl, (refl, tt)))

-- what a call returns that is out of memory only if no test holds
pub memory_last : {A : Type 0} (r : Result A PairError) (tests : PairTests) → refusal tests ≢ Some OutOfMemory → AnswersThenOutOfMemory OutOfMemory r tests → IsErrOf r OutOfMemory
    → refusal tests ≡ None
memory_last r tests other answers is = elim (subst (λ r. AnswersThenOutOfMemory OutOfMemory r tests) is answers) [ inl memory ↦ memory.1 | inr test ↦ absurd (other test) ]

-- what a call returns that does not allocate
pub memory_exactly : {A : Type 0} (r : Result A PairError) (tests : PairTests) → refusal tests ≢ Some OutOfMemory → AnswersExactly r tests → IsErrOf r OutOfMemory → refusal tests ≡ None
memory_exactly r tests other answers is = absurd (other (subst (λ r. AnswersExactly r tests) is answers))

-- an attach is out of memory only past these tests
pub attach_measures : (w : World) (limit : ℕ) → (is_together w.phase ≡ false) × (is_halfway_at_other limit w.phase ≡ false) × (29 ≤ limit) → refusal (before_measuring w limit) ≡ None
attach_measures w limit h = none (is_together w.phase) (is_halfway_at_other limit w.phase) (nat_lt limit 29) h.0 h.1 (le-ltb limit 29 h.2)
  where
    none : (a b c : Bool) → a ≡ false → b ≡ false → c ≡ false → refusal ((a, AlreadyAttached) ∷ (b, LimitChanged) ∷ (c, LimitTooSmall) ∷ []) ≡ None
    none true b c h k l = absurd (false_is_not_true (sym h))
    none false true c h k l = absurd (false_is_not_true (sym k))
    none false false true h k l = absurd (false_is_not_true (sym l))
    none false false false h k l = refl

module _ {B : Type 0} (decoded : Decoder B) (old new : World) where
  -- what a call leaves, as a step has it
  abbrev pub LeftBy : {A : Type 0} → Event → Result A PairError → Type 0
  LeftBy e (Ok a) = Unit {0}
  LeftBy e (Err OutOfMemory) = IsLeft decoded old e new
  LeftBy e (Err error) = IsRefused decoded old e error new

  pub left_by_attach : {A : Type 0} (r : Result A PairError) (limit : ℕ) → LeftByAttach r old limit new → LeftBy (Attach limit) r
  left_by_attach (Ok a) limit l = l
  left_by_attach (Err OutOfMemory) limit l = l
  left_by_attach (Err _) limit l = l

  pub left_by_hand_out : {A : Type 0} (r : Result A PairError) (tag : Tag) → LeftByHandOut r old tag new → LeftBy (HandOut tag) r
  left_by_hand_out (Ok a) tag l = l
  left_by_hand_out (Err OutOfMemory) tag l = l
  left_by_hand_out (Err Decode) tag l = l
  left_by_hand_out (Err _) tag l = l

  -- of a call that leaves all as it was
  pub left_same : {A : Type 0} (e : Event) (r : Result A PairError) → (new ≡ old → IsLeft decoded old e new) → ((error : PairError) → new ≡ old → IsRefused decoded old e error new)
      → OnErr r (new ≡ old) → LeftBy e r
  left_same e (Ok a) memory refused l = tt
  left_same e (Err OutOfMemory) memory refused l = memory l
  left_same e (Err error) memory refused l = refused error l

  -- the same of a call that does not allocate
  left_exactly : {A : Type 0} (e : Event) (r : Result A PairError) → refusal (tests_of decoded old e) ≢ Some OutOfMemory → ((error : PairError) → new ≡ old → IsRefused decoded old e error new)
      → AnswersExactly r (tests_of decoded old e) → OnErr r (new ≡ old) → LeftBy e r
  left_exactly e (Ok a) needs_none refused answers l = tt
  left_exactly e (Err OutOfMemory) needs_none refused answers l = absurd (needs_none answers)
  left_exactly e (Err error) needs_none refused answers l = refused error l

  pub left_by_grant : {A : Type 0} (r : Result A PairError) (n : ℕ) → AnswersExactly r (grant_tests old) → OnErr r (new ≡ old) → LeftBy (Grant n) r
  left_by_grant r n = left_exactly (Grant n) r (grant_needs_none old) (λ _ same. same)

  pub left_by_cut : {A : Type 0} (r : Result A PairError) → AnswersExactly r (cut_tests old) → OnErr r (new ≡ old) → LeftBy Cut r
  left_by_cut r = left_exactly Cut r (cut_needs_none old) (λ _ same. same)

  pub left_by_withdraw : {A : Type 0} (r : Result A PairError) (tag : Tag) → AnswersExactly r (withdraw_tests old tag) → OnErr r (new ≡ old) → LeftBy (Withdraw tag) r
  left_by_withdraw r tag = left_exactly (Withdraw tag) r (withdraw_needs_none old tag) (λ _ same. same)

  -- an arrival is out of memory only if it aborts no delivery
  pub left_by_arrive : {A : Type 0} (r : Result A PairError) (id : ℕ) → (IsErrOf r OutOfMemory → aborts_next old.wire ≡ false) → OnErr r (new ≡ old) → LeftBy (Arrive id) r
  left_by_arrive (Ok a) id carries l = tt
  left_by_arrive (Err OutOfMemory) id carries l = (carries refl, l)
  left_by_arrive (Err error) id carries l = l

  -- what a call returns and leaves is a step
  pub stepped : {A : Type 0} (e : Event) (r : Result A PairError) (to : A → AnswerOf B) → IfOk r (λ a. Does decoded old e (to a) new) → AnswersOrOutOfMemory OutOfMemory r (tests_of decoded old e)
      → (IsErrOf r OutOfMemory → refusal (tests_before_memory decoded old e) ≡ None) → LeftBy e r → Step decoded old e (result_map_both to (λ error. error) r) new
  stepped e (Ok a) to done answers memory left = (answers, done)
  stepped e (Err OutOfMemory) to done answers memory left = (memory refl, left)
  stepped e (Err error) to done answers memory left = (elim (answers) [ inl is ↦ absurd (not_memory is) | inr h ↦ h ], left)
    where
      not_memory : error ≢ OutOfMemory
      not_memory h = cc

-- ---- steps in a row

module _ {B : Type 0} (decoded : Decoder B) where
  pub no_events : (w : World) → RunsEvents decoded w [] [] true w
  no_events w = record {
    moments = [];
    steps = refl;
    answers_are = refl;
    events_are = refl;
    in_time = tt;
    all = λ _. (refl, refl);
    not_all = λ h. absurd (false_is_not_true (sym h));
  }

  -- there is no room for an answer
  pub no_room : (w : World) (e : Event) (events : List Event) → RunsEvents decoded w (e ∷ events) [] false w
  no_room w e events = record {
    moments = [];
    steps = refl;
    answers_are = refl;
    events_are = refl;
    in_time = tt;
    all = λ h. absurd (false_is_not_true h);
    not_all = λ _. inl (omega arith);
  }

  -- an event is done, and it is the last
  pub the_last : (old new : World) (e : Event) (events : List Event) (answer : Result (AnswerOf B) PairError) → Step decoded old e answer new → is_answer_out_of_memory answer ≡ true
      → RunsEvents decoded old (e ∷ events) (answer ∷ []) false new
  the_last old new e events answer step memory = record {
    moments = record { before = old; event = e; answer = answer; after = new } ∷ [];
    steps = (refl, step, refl);
    answers_are = refl;
    events_are = refl;
    in_time = tt;
    all = λ h. absurd (false_is_not_true h);
    not_all = λ _. inr memory;
  }

  -- an event is done, and others follow
  pub an_event_then : (a b c : World) (e : Event) (events : List Event) (answer : Result (AnswerOf B) PairError) (answers : List (Result (AnswerOf B) PairError)) (finished : Bool)
      → Step decoded a e answer b → is_answer_out_of_memory answer ≡ false → RunsEvents decoded b events answers finished c → RunsEvents decoded a (e ∷ events) (answer ∷ answers) finished c
  an_event_then a b c e events answer answers finished step goes_on run = record {
    moments = record { before = a; event = e; answer = answer; after = b } ∷ run.moments;
    steps = (refl, step, run.steps);
    answers_are = ap (λ l. answer ∷ l) run.answers_are;
    events_are = ap (λ l. e ∷ l) run.events_are;
    in_time = in_time answers run.in_time;
    all = λ h. (omega (arith, (run.all h).0), ends answers ∙ (run.all h).1);
    not_all = λ h. elim (run.not_all h) [ inl fewer ↦ inl (omega (arith, fewer)) | inr memory ↦ inr (ends answers ∙ memory) ];
  }
    where
      in_time : (answers : List (Result (AnswerOf B) PairError)) → StopsInTime answers → StopsInTime (answer ∷ answers)
      in_time [] h = tt
      in_time (next ∷ answers) h = (goes_on, h)

      ends : (answers : List (Result (AnswerOf B) PairError)) → ends_out_of_memory (answer ∷ answers) ≡ ends_out_of_memory answers
      ends [] = goes_on
      ends (next ∷ answers) = refl
