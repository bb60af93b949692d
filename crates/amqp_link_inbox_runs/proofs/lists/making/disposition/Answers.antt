use Rattle.amqp_link_inbox_runs.proofs.MakingLemmas.{is_as, two_ways}
use Rattle.amqp_link_inbox_runs.proofs.lists.making.disposition.Goals as goal

pub returns-clause-step : goal.returns-clause-step
returns-clause-step g c =
    two_ways c.on_incoming_disposition.result c.on_incoming_disposition.ensures.after c.on_incoming_disposition.ensures.left (λ is. is_as _ is) (λ _ is. is_as _ is)
