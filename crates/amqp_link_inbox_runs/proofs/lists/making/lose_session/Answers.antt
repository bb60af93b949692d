use Rattle.amqp_link_inbox_runs.proofs.MakingLemmas.{is_as}
use Rattle.amqp_link_inbox_runs.proofs.lists.making.lose_session.Goals as goal

pub returns-clause-step : goal.returns-clause-step
returns-clause-step g c =
    is_as _ c.on_session_lost.ensures
