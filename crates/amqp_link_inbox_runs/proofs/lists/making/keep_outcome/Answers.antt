use Rattle.amqp_link_inbox_runs.proofs.MakingLemmas.{is_as, keeps_outcome}
use Rattle.amqp_link_inbox_runs.proofs.lists.making.keep_outcome.Goals as goal

pub returns-clause-step : goal.returns-clause-step
returns-clause-step g c =
    keeps_outcome c.keep_outcome.result _ c.keep_outcome.ensures.refused c.keep_outcome.ensures.after c.keep_outcome.ensures.left (λ is. is_as _ is) (λ is. is_as _ is)
