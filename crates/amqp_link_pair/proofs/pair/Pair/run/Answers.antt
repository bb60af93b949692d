use Rattle.std.proofs.Common.{sym, ap, ◌∙◌, subst, true, false, [], ◌∷◌, ◌++◌, append_assoc}
use Rattle.std.proofs.lemmas.List.{append-nil}
use Rattle.amqp_link_payloads.specs.Bodies.{whole_message}
use Rattle.amqp_link_worlds.specs.PairRuns.{RunsEvents}
use Rattle.amqp_link_worlds.proofs.RunLemmas.{FatesMoveOnce-run, held_is_what_arrived, MovesOnce-run}
use Rattle.amqp_link_worlds.proofs.SentLemmas.{run_holds_what_was_sent}
use Rattle.amqp_link_pair.proofs.RunLemmas.{all_done, goes_on, stops_after, stops_before}
use Rattle.amqp_link_pair.proofs.pair.Pair.run.Goals as goal

-- ---- there is no room for the next answer

pub returns-then-is_err-clause-run : goal.returns-then-is_err-clause-run
returns-then-is_err-clause-run c =
    subst (λ l. RunsEvents whole_message c.args.self.now c.args.events.now l false c.loop-event.self) (append-nil c.loop-event.answers.items ∙ sym c.reserve.ensures.items)
    (c.loop-event.invariant.goes_on [] false c.loop-event.self
    (stops_before c.args.events.now c.loop-event.event-index c.loop-event.self c.event-item.result c.loop-event-test.true c.event-item.is))

pub returns-then-is_err-clause-arrived : goal.returns-then-is_err-clause-arrived
returns-then-is_err-clause-arrived c = λ run. held_is_what_arrived whole_message c.args.self.now c.loop-event.self run.moments c.global.ensures run.steps

pub returns-then-is_err-clause-sent : goal.returns-then-is_err-clause-sent
returns-then-is_err-clause-sent c = λ run. run_holds_what_was_sent whole_message c.args.self.now c.loop-event.self run.moments c.global.ensures run.steps

pub returns-then-is_err-clause-made : goal.returns-then-is_err-clause-made
returns-then-is_err-clause-made c = λ run. FatesMoveOnce-run whole_message c.args.self.now c.loop-event.self run.moments run.steps

pub returns-then-is_err-clause-fates : goal.returns-then-is_err-clause-fates
returns-then-is_err-clause-fates c =
    let run = returns-then-is_err-clause-run c in
    MovesOnce-run whole_message c.args.self.now c.loop-event.self run.moments run.steps

-- ---- a call was out of memory

pub returns-then-stops-clause-run : goal.returns-then-stops-clause-run
returns-then-stops-clause-run c =
    subst (λ l. RunsEvents whole_message c.args.self.now c.args.events.now l false c.answer_to-answer.new.self)
    (ap (λ l. l ++ c.answer_to-answer.result ∷ []) (sym c.reserve.ensures.items) ∙ sym c.push_reserved.ensures.items)
    (c.loop-event.invariant.goes_on (c.answer_to-answer.result ∷ []) false c.answer_to-answer.new.self
    (stops_after c.args.events.now c.loop-event.event-index c.loop-event.self c.event-item.result c.loop-event-test.true c.event-item.is
    c.answer_to-answer.result c.answer_to-answer.new.self c.answer_to-answer.ensures.step (sym c.is_answer_out_of_memory-stops.ensures ∙ c.if-stops.true)))

pub returns-then-stops-clause-arrived : goal.returns-then-stops-clause-arrived
returns-then-stops-clause-arrived c = λ run. held_is_what_arrived whole_message c.args.self.now c.answer_to-answer.new.self run.moments c.global.ensures run.steps

pub returns-then-stops-clause-sent : goal.returns-then-stops-clause-sent
returns-then-stops-clause-sent c = λ run. run_holds_what_was_sent whole_message c.args.self.now c.answer_to-answer.new.self run.moments c.global.ensures run.steps

pub returns-then-stops-clause-made : goal.returns-then-stops-clause-made
returns-then-stops-clause-made c = λ run. FatesMoveOnce-run whole_message c.args.self.now c.answer_to-answer.new.self run.moments run.steps

pub returns-then-stops-clause-fates : goal.returns-then-stops-clause-fates
returns-then-stops-clause-fates c =
    let run = returns-then-stops-clause-run c in
    MovesOnce-run whole_message c.args.self.now c.answer_to-answer.new.self run.moments run.steps

-- ---- a call was made, and the next follows

pub loop-event-preserved : goal.loop-event-preserved
loop-event-preserved c = record {
  goes_on = λ later finished new run.
      subst (λ l. RunsEvents whole_message c.args.self.now c.args.events.now l finished new)
      (sym (append_assoc c.loop-event.answers.items (c.answer_to-answer.result ∷ []) later)
      ∙ ap (λ l. l ++ later) (ap (λ l. l ++ c.answer_to-answer.result ∷ []) (sym c.reserve.ensures.items) ∙ sym c.push_reserved.ensures.items))
      (c.loop-event.invariant.goes_on (c.answer_to-answer.result ∷ later) finished new
      (goes_on c.args.events.now c.loop-event.event-index c.loop-event.self c.event-item.result c.loop-event-test.true c.event-item.is
      c.answer_to-answer.result c.answer_to-answer.new.self c.answer_to-answer.ensures.step later finished new (sym c.is_answer_out_of_memory-stops.ensures ∙ c.if-stops.false) run));
  kept = c.answer_to-answer.ensures.kept;
}

-- ---- all calls were made

pub returns-clause-run : goal.returns-clause-run
returns-clause-run c =
    subst (λ l. RunsEvents whole_message c.args.self.now c.args.events.now l true c.loop-event.self) (append-nil c.loop-event.answers.items)
    (c.loop-event.invariant.goes_on [] true c.loop-event.self (all_done c.args.events.now c.loop-event.event-index c.loop-event.self c.loop-event-test.false))

pub returns-clause-arrived : goal.returns-clause-arrived
returns-clause-arrived c = λ run. held_is_what_arrived whole_message c.args.self.now c.loop-event.self run.moments c.global.ensures run.steps

pub returns-clause-sent : goal.returns-clause-sent
returns-clause-sent c = λ run. run_holds_what_was_sent whole_message c.args.self.now c.loop-event.self run.moments c.global.ensures run.steps

pub returns-clause-made : goal.returns-clause-made
returns-clause-made c = λ run. FatesMoveOnce-run whole_message c.args.self.now c.loop-event.self run.moments run.steps

pub returns-clause-fates : goal.returns-clause-fates
returns-clause-fates c =
    let run = returns-clause-run c in
    MovesOnce-run whole_message c.args.self.now c.loop-event.self run.moments run.steps
