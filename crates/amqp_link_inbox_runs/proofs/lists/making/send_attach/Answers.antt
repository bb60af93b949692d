use Rattle.amqp_link_inbox_runs.proofs.MakingLemmas.{is_as, two_ways}
use Rattle.amqp_link_inbox_runs.proofs.lists.making.send_attach.Goals as goal

pub returns-clause-step : goal.returns-clause-step
returns-clause-step g c =
    two_ways c.send_attach.result c.send_attach.ensures.after c.send_attach.ensures.left (λ is. is_as _ is) (λ _ is. is_as _ is)
