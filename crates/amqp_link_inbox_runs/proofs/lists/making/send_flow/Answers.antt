use Rattle.std.proofs.Common.{refl}
use Rattle.amqp_link_inbox_runs.proofs.MakingLemmas.{keeps_either_way}
use Rattle.amqp_link_inbox_runs.proofs.lists.making.send_flow.Goals as goal

pub returns-clause-step : goal.returns-clause-step
returns-clause-step g c =
    keeps_either_way c.args.inbox.now c.send_flow.result _ refl refl c.send_flow.ensures.after c.send_flow.ensures.left
