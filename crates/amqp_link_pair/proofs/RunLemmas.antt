-- What each call of a list returns and leaves is a step.
use Rattle.std.proofs.Common.{◌≡◌, ◌⊎◌, sym, ap, ℕ, ◌≤◌, false, Bool, subst, ◌∙◌, List, ◌∷◌, [], Ok, Err, Result, drop, length, ◌+◌, ◌<◌, get_or, true}
use Rattle.std.specs.Result.{result_map_both}
use Rattle.std.specs.Prelude.{None, IfOk, IsErrOf, OnOk, OnErr}
use Rattle.std.proofs.lemmas.List.{drop_all, drop_more}
use Rattle.amqp_link_payloads.specs.Bodies.{whole_message}
use Rattle.amqp_link_payloads.specs.declared.message.whole.Whole.{Whole}
use Rattle.amqp_link_types.specs.Deliveries.{Delivered}
use Rattle.amqp_link_types.specs.Entries.{Tag}
use Rattle.amqp_link_types.specs.Refusals.{refusal, AnswersExactly, AnswersOrOutOfMemory, AnswersThenOutOfMemory}
use Rattle.amqp_link_worlds.specs.Before.{before_decoding}
use Rattle.amqp_link_worlds.specs.PairRuns.{Does, Step, RunsEvents, aborts_next, is_answer_out_of_memory}
use Rattle.amqp_link_worlds.specs.Steps.{Attaches, LeftByAttach, Grants, Sends, Cuts, PutsBack, DropsAbort, HandsOutDelivery, LeftByHandOut, Settles, WithdrawsDelivery, is_halfway_at_other}
use Rattle.amqp_link_worlds.specs.Steps.{attach_tests, grant_tests, send_tests, arrive_tests, cut_tests, next_tests, hand_out_tests, settle_tests, withdraw_tests}
use Rattle.amqp_link_worlds.specs.Worlds.{World, is_together}
use Rattle.amqp_link_worlds.specs.declared.error.PairError.{PairError}
use Rattle.amqp_link_worlds.specs.declared.error.PairError.TheVariants.{OutOfMemory}
use Rattle.amqp_link_worlds.specs.declared.event.AnswerOf.{AnswerOf}
use Rattle.amqp_link_worlds.specs.declared.event.AnswerOf.TheVariants as answer
use Rattle.amqp_link_worlds.specs.declared.event.Event.{Event}
use Rattle.amqp_link_worlds.specs.declared.event.Event.TheVariants.{Attach, Grant, Send, Arrive, Cut, ResumeNext, PutBackNext, HandOut, Settle, Withdraw}
use Rattle.amqp_link_worlds.proofs.CalledLemmas.{stepped, exactly_or, then_or, memory_exactly, memory_last, attach_measures, left_by_attach, left_by_grant, left_by_cut, left_by_withdraw, left_by_arrive, left_by_hand_out, left_same, grant_needs_none, send_needs_none, arrive_needs_none, cut_needs_none, next_needs_none, settle_needs_none, withdraw_needs_none, no_events, no_room, the_last, an_event_then}
use Rattle.amqp_link_pair.specs.Aborting.{ArrivesOrAborts, ResumesOrAborts, arrival_answer, resumption_answer}
use Rattle.amqp_link_pair.specs.declared.pair.OrAborted.{OrAborted}
use Rattle.amqp_link_pair.specs.declared.pair.OrAborted.TheVariants.{Aborted, Answer}
use Rattle.amqp_link_pair.specs.declared.pair.Arrived.{Arrived}
use Rattle.amqp_link_pair.specs.declared.pair.Resumed.{Resumed}
use Rattle.amqp_link_pair.specs.declared.pair.Sent.{Sent}

-- ---- one call

-- a call's result, as an answer, is that of a step
pub record MakesStep {A : Type 0} (old : World) (made : Event) (r : Result A PairError) (to : A → AnswerOf Whole) (new : World) : Type 0 where
  pub step : Step whole_message old made (result_map_both to (λ error. error) r) new

module _ {A : Type 0} {old new : World} {event made : Event} {r : Result A PairError} {to : A → AnswerOf Whole} (is : event ≡ made) where
  at_event : MakesStep old made r to new → Step whole_message old event (result_map_both to (λ error. error) r) new
  at_event m = subst (λ e. Step whole_message old e (result_map_both to (λ error. error) r) new) (sym is) m.step

  -- where it succeeded
  pub ok_step : {a : A} → r ≡ Ok a → MakesStep old made r to new → Step whole_message old event (Ok (to a)) new
  ok_step was m = subst (λ r. Step whole_message old event (result_map_both to (λ error. error) r) new) was (at_event m)

  -- where it was refused
  pub err_step : {error : PairError} {result : Result (AnswerOf Whole) PairError} → r ≡ Err error → result ≡ Err error → MakesStep old made r to new → Step whole_message old event result new
  err_step was out m = subst (λ result. Step whole_message old event result new) (sym out) (subst (λ r. Step whole_message old event (result_map_both to (λ error. error) r) new) was (at_event m))

-- what an arrival and a resumption do is what their answers state
does_arrive : (old new : World) (id : ℕ) (r : Result (OrAborted Arrived) PairError) → IfOk r (λ came. ArrivesOrAborts old id came new)
    → IfOk r (λ came. Does whole_message old (Arrive id) (arrival_answer came) new)
does_arrive old new id (Ok (Answer came)) done = done
does_arrive old new id (Ok (Aborted tag)) done = done
does_arrive old new id (Err error) done = tt

does_resume : (old new : World) (r : Result (OrAborted Resumed) PairError) → IfOk r (λ resumed. ResumesOrAborts old resumed new)
    → IfOk r (λ resumed. Does whole_message old ResumeNext (resumption_answer resumed) new)
does_resume old new (Ok (Answer resumed)) done = done
does_resume old new (Ok (Aborted tag)) done = done
does_resume old new (Err error) done = tt

module _ {old new : World} where
  pub attach_steps : {limit : ℕ} {r : Result ℕ PairError} → IfOk r (λ count. Attaches old limit count new) → AnswersOrOutOfMemory OutOfMemory r (attach_tests old limit)
      → (IsErrOf r OutOfMemory → (is_together old.phase ≡ false) × (is_halfway_at_other limit old.phase ≡ false) × (29 ≤ limit)) → LeftByAttach r old limit new
      → MakesStep old (Attach limit) r answer.Attached new
  attach_steps {limit} {r} done answers memory left =
      record { step = stepped whole_message old new (Attach limit) r answer.Attached done answers (λ is. attach_measures old limit (memory is)) (left_by_attach whole_message old new r limit left) }

  pub grant_steps : {n : ℕ} {r : Result ℕ PairError} → IfOk r (λ credit. Grants old n credit new) → AnswersExactly r (grant_tests old) → OnErr r (new ≡ old)
      → MakesStep old (Grant n) r answer.Granted new
  grant_steps {n} {r} done answers left =
      let or = exactly_or r (grant_tests old) answers in
      record { step = stepped whole_message old new (Grant n) r answer.Granted done or (memory_exactly r (grant_tests old) (grant_needs_none old) answers) (left_by_grant whole_message old new r n answers left) }

  pub send_steps : {payload : List ℕ} {r : Result Sent PairError} → IfOk r (λ sent. Sends old payload sent.tag sent.frames new)
      → AnswersThenOutOfMemory OutOfMemory r (send_tests old payload) → OnErr r (new ≡ old)
      → MakesStep old (Send payload) r (λ sent. answer.Sent sent.tag sent.frames) new
  send_steps {payload} {r} done answers left =
      record {
        step = stepped whole_message old new (Send payload) r (λ sent. answer.Sent sent.tag sent.frames) done (then_or r (send_tests old payload) answers)
            (memory_last r (send_tests old payload) (send_needs_none old payload) answers) (left_same whole_message old new (Send payload) r (λ same. same) (λ _ same. same) left);
      }

  pub arrive_steps : {id : ℕ} {r : Result (OrAborted Arrived) PairError} → IfOk r (λ came. ArrivesOrAborts old id came new)
      → AnswersThenOutOfMemory OutOfMemory r (arrive_tests old) → (IsErrOf r OutOfMemory → aborts_next old.wire ≡ false) → OnErr r (new ≡ old)
      → MakesStep old (Arrive id) r arrival_answer new
  arrive_steps {id} {r} done answers carries left =
      record {
        step = stepped whole_message old new (Arrive id) r arrival_answer (does_arrive old new id r done) (then_or r (arrive_tests old) answers)
            (memory_last r (arrive_tests old) (arrive_needs_none old) answers) (left_by_arrive whole_message old new r id carries left);
      }

  pub cut_steps : {r : Result (Unit {0}) PairError} → OnOk r (Cuts old new) → AnswersExactly r (cut_tests old) → OnErr r (new ≡ old) → MakesStep old Cut r (λ _. answer.Cut) new
  cut_steps {r} done answers left =
      record {
        step = stepped whole_message old new Cut r (λ _. answer.Cut) done (exactly_or r (cut_tests old) answers) (memory_exactly r (cut_tests old) (cut_needs_none old) answers)
            (left_by_cut whole_message old new r answers left);
      }

  pub resume_steps : {r : Result (OrAborted Resumed) PairError} → IfOk r (λ resumed. ResumesOrAborts old resumed new) → AnswersThenOutOfMemory OutOfMemory r (next_tests old) → OnErr r (new ≡ old)
      → MakesStep old ResumeNext r resumption_answer new
  resume_steps {r} done answers left =
      record {
        step = stepped whole_message old new ResumeNext r resumption_answer (does_resume old new r done) (then_or r (next_tests old) answers)
            (memory_last r (next_tests old) (next_needs_none old) answers) (left_same whole_message old new ResumeNext r (λ same. same) (λ _ same. same) left);
      }

  pub put_back_steps : {r : Result Tag PairError} → IfOk r (λ tag. PutsBack old tag new ⊎ DropsAbort old tag new) → AnswersThenOutOfMemory OutOfMemory r (next_tests old) → OnErr r (new ≡ old)
      → MakesStep old PutBackNext r answer.PutBack new
  put_back_steps {r} done answers left =
      record {
        step = stepped whole_message old new PutBackNext r answer.PutBack done (then_or r (next_tests old) answers)
            (memory_last r (next_tests old) (next_needs_none old) answers) (left_same whole_message old new PutBackNext r (λ same. same) (λ _ same. same) left);
      }

  pub withdraw_steps : {tag : Tag} {r : Result (Unit {0}) PairError} → OnOk r (WithdrawsDelivery old tag new) → AnswersExactly r (withdraw_tests old tag) → OnErr r (new ≡ old)
      → MakesStep old (Withdraw tag) r (λ _. answer.Withdrawn) new
  withdraw_steps {tag} {r} done answers left =
      record {
        step = stepped whole_message old new (Withdraw tag) r (λ _. answer.Withdrawn) done (exactly_or r (withdraw_tests old tag) answers)
            (memory_exactly r (withdraw_tests old tag) (withdraw_needs_none old tag) answers) (left_by_withdraw whole_message old new r tag answers left);
      }

  pub hand_out_steps : {tag : Tag} {r : Result (Delivered Whole) PairError} → IfOk r (λ delivery. HandsOutDelivery whole_message old tag delivery new)
      → AnswersOrOutOfMemory OutOfMemory r (hand_out_tests whole_message old tag) → (IsErrOf r OutOfMemory → refusal (before_decoding old tag) ≡ None) → LeftByHandOut r old tag new
      → MakesStep old (HandOut tag) r answer.HandedOut new
  hand_out_steps {tag} {r} done answers memory left =
      record { step = stepped whole_message old new (HandOut tag) r answer.HandedOut done answers memory (left_by_hand_out whole_message old new r tag left) }

  pub settle_steps : {tag : Tag} {r : Result (Unit {0}) PairError} → OnOk r (Settles old tag new) → AnswersThenOutOfMemory OutOfMemory r (settle_tests old tag) → OnErr r (new ≡ old)
      → MakesStep old (Settle tag) r (λ _. answer.Settled) new
  settle_steps {tag} {r} done answers left =
      record {
        step = stepped whole_message old new (Settle tag) r (λ _. answer.Settled) done (then_or r (settle_tests old tag) answers)
            (memory_last r (settle_tests old tag) (settle_needs_none old tag) answers) (left_same whole_message old new (Settle tag) r (λ same. same) (λ _ same. same) left);
      }

-- ---- a list of calls

module _ (events : List Event) (i : ℕ) (now : World) where
  -- a run of the events that are left
  abbrev pub RunsRest : List (Result (AnswerOf Whole) PairError) → Bool → World → Type 0
  RunsRest answers finished new = RunsEvents whole_message now (drop i events) answers finished new

  -- all are done
  pub all_done : length events ≤ i → RunsRest [] true now
  all_done past = subst (λ l. RunsEvents whole_message now l [] true now) (sym (drop_all i events past)) (no_events whole_message now)

  module _ (event : Event) (within : i < length events) (at : event ≡ get_or events i event) where
    left : event ∷ drop (i + 1) events ≡ drop i events
    left = ap (λ e. e ∷ drop (i + 1) events) at ∙ sym (drop_more events i event within)

    -- there is no room for the next answer
    pub stops_before : RunsRest [] false now
    stops_before = subst (λ l. RunsEvents whole_message now l [] false now) left (no_room whole_message now event (drop (i + 1) events))

    module _ (answer : Result (AnswerOf Whole) PairError) (next : World) (step : Step whole_message now event answer next) where
      -- the next is out of memory
      pub stops_after : is_answer_out_of_memory answer ≡ true → RunsRest (answer ∷ []) false next
      stops_after memory = subst (λ l. RunsEvents whole_message now l (answer ∷ []) false next) left (the_last whole_message now next event (drop (i + 1) events) answer step memory)

      -- the next is done, and the others follow
      pub goes_on : (answers : List (Result (AnswerOf Whole) PairError)) (finished : Bool) (new : World) → is_answer_out_of_memory answer ≡ false
          → RunsEvents whole_message next (drop (i + 1) events) answers finished new → RunsRest (answer ∷ answers) finished new
      goes_on answers finished new more run = subst (λ l. RunsEvents whole_message now l (answer ∷ answers) finished new) left
          (an_event_then whole_message now next new event (drop (i + 1) events) answer answers finished step more run)
