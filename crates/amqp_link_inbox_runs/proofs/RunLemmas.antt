-- One call more.
use Rattle.std.proofs.Common.{◌≡◌, ◌∙◌, ◌++◌, ap, append_assoc, refl, sym, List, [], ◌∷◌, Option}
use Rattle.std.proofs.lemmas.List.{append-nil, map-append}
use Rattle.amqp_link_types.specs.declared.types.errors.ReceiverAttachError.{ReceiverAttachError}
use Rattle.amqp_link_types.specs.declared.types.terminus.TargetArchetype.{TargetArchetype}
use Rattle.amqp_link_inbox.specs.Inboxes.{InboxState}
use Rattle.amqp_link_inbox.specs.Storing.{IsStated}
use Rattle.amqp_link_inbox_runs.specs.InboxAnswers.{Answers}
use Rattle.amqp_link_inbox_runs.specs.InboxRuns.{EachAnswers, IsRun, Moment, RunsCalls}
use Rattle.amqp_link_inbox_runs.specs.InboxSteps.{Decoder, Step}
use Rattle.amqp_link_inbox_runs.specs.declared.call.AnswerOf.{AnswerOf}
use Rattle.amqp_link_inbox_runs.specs.declared.call.Call.{Call}

module _ {T B : Type 0} (decoded : Decoder B) (sent_as : T → TargetArchetype) (admitted : TargetArchetype → Option T)
    (refuses : T → T → Option ReceiverAttachError) where
  -- some of the calls were made, and these are left
  pub record HasRun (old : InboxState T) (calls left : List Call) (answers : List (AnswerOf B)) (new : InboxState T) : Type 0 where
    pub done : List Call
    pub calls_are : calls ≡ done ++ left
    pub run : RunsCalls decoded old done answers new
    pub answered : EachAnswers sent_as admitted refuses run.moments

  pub none_yet : (old : InboxState T) (calls left : List Call) (answers : List (AnswerOf B)) → left ≡ calls → answers ≡ [] → HasRun old calls left answers old
  none_yet old calls left answers all none = record {
    done = [];
    calls_are = sym all;
    run = record { moments = []; steps = refl; calls_are = refl; answers_are = none };
    answered = tt;
  }

  steps_and : (old w new : InboxState T) (moments : List (Moment T B)) (m : Moment T B) → m.before ≡ w → m.after ≡ new
      → IsRun decoded old moments w → Step decoded m.before m.call m.answer m.after → IsStated m.after.deliveries m.after.link.unsettled
      → IsRun decoded old (moments ++ m ∷ []) new
  steps_and old w new [] m before after run step is = (before ∙ run, step, is, sym after)
  steps_and old w new (n ∷ moments) m before after run step is = (run.0, run.1, run.2, steps_and n.after w new moments m before after run.3 step is)

  answers_and : (moments : List (Moment T B)) (m : Moment T B) → EachAnswers sent_as admitted refuses moments
      → Answers sent_as admitted refuses m.before m.call m.answer m.after → EachAnswers sent_as admitted refuses (moments ++ m ∷ [])
  answers_and [] m each last = (last, tt)
  answers_and (n ∷ moments) m each last = (each.0, answers_and moments m each.1 last)

  pub one_more : (old w new : InboxState T) (calls left rest : List Call) (answers all : List (AnswerOf B)) (c : Call) (a : AnswerOf B)
      → HasRun old calls left answers w → left ≡ c ∷ rest → all ≡ answers ++ a ∷ [] → Step decoded w c a new → IsStated new.deliveries new.link.unsettled
      → Answers sent_as admitted refuses w c a new
      → HasRun old calls rest all new
  one_more old w new calls left rest answers all c a h next answered step is whole =
      let m : Moment T B = record { before = w; call = c; answer = a; after = new } in
      let moments = h.run.moments in
      record {
        done = h.done ++ c ∷ [];
        calls_are = h.calls_are ∙ ap (λ l. h.done ++ l) next ∙ sym (append_assoc h.done (c ∷ []) rest);
        run = record {
          moments = moments ++ m ∷ [];
          steps = steps_and old w new moments m refl refl h.run.steps step is;
          calls_are = ap (λ l. l ++ c ∷ []) h.run.calls_are ∙ sym (map-append (λ (m : Moment T B). m.call) moments (m ∷ []));
          answers_are = answered ∙ ap (λ l. l ++ a ∷ []) h.run.answers_are ∙ sym (map-append (λ (m : Moment T B). m.answer) moments (m ∷ []));
        };
        answered = answers_and moments m h.answered whole;
      }

  pub all_made : (old new : InboxState T) (calls left : List Call) (answers : List (AnswerOf B)) → HasRun old calls left answers new → left ≡ []
      → (run : RunsCalls decoded old calls answers new) × EachAnswers sent_as admitted refuses run.moments
  all_made old new calls left answers h none = (
    record {
      moments = h.run.moments;
      steps = h.run.steps;
      calls_are = h.calls_are ∙ ap (λ l. h.done ++ l) none ∙ append-nil h.done ∙ h.run.calls_are;
      answers_are = h.run.answers_are;
    },
    h.answered,
  )
