use Rattle.amqp_link_inbox_runs.proofs.MakingLemmas.{takes_attach}
use Rattle.amqp_link_inbox_runs.proofs.lists.making.attach_taken.Goals as goal

pub returns-clause-step : goal.returns-clause-step
returns-clause-step g c =
    let call = c.on_incoming_attach in
    takes_attach c.args.inbox.now call.new.self g.T.LinkTarget.admitted g.T.VerifyTargetArchetype.refused_by_receiver c.args.attach call.result call.ensures.after call.ensures.left
