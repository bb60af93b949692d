use Rattle.std.proofs.Common.{refl}
use Rattle.amqp_link_inbox_runs.proofs.MakingLemmas.{keeps_either_way}
use Rattle.amqp_link_inbox_runs.proofs.lists.making.flow_taken.Goals as goal

pub returns-clause-step : goal.returns-clause-step
returns-clause-step g c =
    keeps_either_way c.args.inbox.now c.on_incoming_flow.result _ refl refl c.on_incoming_flow.ensures.after c.on_incoming_flow.ensures.left
