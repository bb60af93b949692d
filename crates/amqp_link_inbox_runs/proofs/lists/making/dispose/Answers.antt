use Rattle.amqp_link_inbox_runs.proofs.MakingLemmas.{disposes, is_as}
use Rattle.amqp_link_inbox_runs.proofs.lists.making.dispose.Goals as goal

pub returns-clause-step : goal.returns-clause-step
returns-clause-step g c =
    disposes c.dispose.result _ c.dispose.ensures.refused c.dispose.ensures.after c.dispose.ensures.left (λ info is. is_as _ is) (λ is. is_as _ is)
