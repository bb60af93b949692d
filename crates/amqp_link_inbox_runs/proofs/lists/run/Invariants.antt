use Rattle.std.proofs.Common.{◌+◌, ◌≤◌}
use Rattle.std.specs.Vec.{vec_capacity, vec_len}
use Rattle.std.specs.Vec.Iter.{into_iter_items, into_iter_len}
use Rattle.amqp_link_inbox.specs.Storing.{IsStated}
use Rattle.amqp_link_inbox_runs.proofs.RunLemmas.{HasRun}
use Rattle.amqp_link_inbox_runs.proofs.lists.run.Given as goal

-- the calls that were made, with an answer each, and room for the others
abbrev pub invariant-loop-call : goal.invariant-loop-call
invariant-loop-call g l = record {
  run : HasRun g.B.FromBody.decoded g.T.LinkTarget.sent_as g.T.LinkTarget.admitted g.T.VerifyTargetArchetype.refused_by_receiver l.initial.inbox l.fn.calls.items (into_iter_items l.call-iterator) l.answers.items l.inbox;
  stated : IsStated l.inbox.deliveries l.inbox.link.unsettled;
  room : vec_len l.answers + into_iter_len l.call-iterator ≤ vec_capacity l.answers;
}
