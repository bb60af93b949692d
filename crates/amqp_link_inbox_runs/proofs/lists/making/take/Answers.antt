use Rattle.amqp_link_inbox_runs.proofs.MakingLemmas.{is_as}
use Rattle.amqp_link_inbox_runs.proofs.lists.making.take.Goals as goal

pub returns-clause-step : goal.returns-clause-step
returns-clause-step g c =
    record { refused = c.take.ensures.refused; delivered = c.take.ensures.delivered; undecoded = c.take.ensures.undecoded; after = is_as _ c.take.ensures.after }
