use Rattle.amqp_link_dispositions.specs.Keeping.{is_settled_one}
use Rattle.amqp_link_inbox_runs.proofs.MakingLemmas.{disposes_all}
use Rattle.amqp_link_inbox_runs.proofs.lists.making.dispose_all.Goals as goal

pub returns-clause-step : goal.returns-clause-step
returns-clause-step g c =
    let old = c.args.inbox.now in
    let call = c.dispose_all in
    disposes_all old call.new.self c.as_slice.result.now c.args.tags.items (is_settled_one c.args.settled old.link.rcv_settle_mode) c.args.state call.result
    c.as_slice.ensures.value call.ensures.refused call.ensures.after call.ensures.left
