use Rattle.std.proofs.Common.{◌≡◌, arith, length, refl}
use Rattle.std.proofs.lemmas.List.{nil_from_length}
use Rattle.std.specs.Vec.Iter.{into_iter_items}
use Rattle.amqp_link_types.specs.Entries.{entry_at}
use Rattle.amqp_link_inbox.specs.Bytes.{bytes_at}
use Rattle.amqp_link_inbox_runs.specs.InboxRuns.{held_at}
use Rattle.amqp_link_inbox_runs.proofs.HeldLemmas.{at_first, run_are}
use Rattle.amqp_link_inbox_runs.proofs.QueueLemmas.{run_queue}
use Rattle.amqp_link_inbox_runs.proofs.RunLemmas.{all_made, none_yet, one_more}
use Rattle.amqp_link_inbox_runs.proofs.StatesLemmas.{run_states}
use Rattle.amqp_link_inbox_runs.proofs.TakenLemmas.{run_takes_once, run_takes_what_came}
use Rattle.amqp_link_inbox_runs.proofs.lists.run.Goals as goal

pub loop-call-init : goal.loop-call-init
loop-call-init g c =
    let gives = c.into_iter-call-iterator.ensures.into_iter_gives in
    record {
      run = none_yet g.B.FromBody.decoded g.T.LinkTarget.sent_as g.T.LinkTarget.admitted g.T.VerifyTargetArchetype.refused_by_receiver c.args.inbox.now c.args.calls.items (into_iter_items c.into_iter-call-iterator.result) c.in-Ok.answers.items gives.0 c.in-Ok.ensures.items;
      stated = c.is_stated.ensures;
      room = omega (arith, gives.1, c.in-Ok.ensures.len, c.in-Ok.ensures.capacity, c.len.ensures);
    }

pub loop-call-preserved : goal.loop-call-preserved
loop-call-preserved g c =
    let next = c.in-Some.ensures.steps in
    let left = into_iter_items c.loop-call.call-iterator in
    record {
      run =
          one_more g.B.FromBody.decoded g.T.LinkTarget.sent_as g.T.LinkTarget.admitted g.T.VerifyTargetArchetype.refused_by_receiver c.args.inbox.now c.loop-call.inbox c.answer_to.new.inbox c.args.calls.items left (into_iter_items c.next.new.self)
          c.loop-call.answers.items c.push_reserved.new.self.items c.in-Some.call c.answer_to.result c.loop-call.invariant.run next.0 c.push_reserved.ensures.items
          c.answer_to.ensures.step c.is_stated-in-loop-call.ensures c.answer_to.ensures.answers;
      stated = c.is_stated-in-loop-call.ensures;
      room = omega (arith, c.loop-call.invariant.room, next.1, c.push_reserved.ensures.len, c.push_reserved.ensures.capacity);
    }

pub push_reserved-requires : goal.push_reserved-requires
push_reserved-requires g c = omega (arith, c.loop-call.invariant.room, c.in-Some.ensures.steps.1)

pub returns-clause-run : goal.returns-clause-run
returns-clause-run g c =
    let left = into_iter_items c.loop-call.call-iterator in
    let none : length left ≡ 0 = omega (arith, c.in-None.ensures.steps.0) in
    all_made g.B.FromBody.decoded g.T.LinkTarget.sent_as g.T.LinkTarget.admitted g.T.VerifyTargetArchetype.refused_by_receiver c.args.inbox.now c.loop-call.inbox c.args.calls.items left c.loop-call.answers.items c.loop-call.invariant.run (nil_from_length left none)

pub returns-clause-held : goal.returns-clause-held
returns-clause-held g c =
    let old = c.args.inbox.now in
    λ run tag. run_are g.B.FromBody.decoded tag old c.loop-call.inbox run.moments (held_at old tag) c.is_stated.ensures run.steps (at_first (bytes_at old.deliveries tag))

pub returns-clause-states : goal.returns-clause-states
returns-clause-states g c =
    let old = c.args.inbox.now in
    λ run tag. run_states g.B.FromBody.decoded tag old c.loop-call.inbox run.moments (entry_at old.link.unsettled tag) c.is_stated.ensures run.steps (λ _. refl)

pub returns-clause-once : goal.returns-clause-once
returns-clause-once g c = λ run tag. run_takes_once g.B.FromBody.decoded tag c.args.inbox.now c.loop-call.inbox run.moments c.is_stated.ensures run.steps

pub returns-clause-taken : goal.returns-clause-taken
returns-clause-taken g c = λ run. run_takes_what_came g.B.FromBody.decoded c.args.inbox.now c.loop-call.inbox run.moments c.is_stated.ensures run.steps

pub returns-clause-queue : goal.returns-clause-queue
returns-clause-queue g c = λ run. run_queue g.B.FromBody.decoded c.args.inbox.now c.loop-call.inbox run.moments c.is_stated.ensures run.steps
