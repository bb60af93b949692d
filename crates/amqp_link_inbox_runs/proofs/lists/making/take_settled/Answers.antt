use Rattle.amqp_link_inbox_runs.proofs.MakingLemmas.{is_as}
use Rattle.amqp_link_inbox_runs.proofs.lists.making.take_settled.Goals as goal

pub returns-clause-step : goal.returns-clause-step
returns-clause-step g c =
    record { refused = c.take_settled.ensures.refused; delivered = c.take_settled.ensures.delivered; undecoded = c.take_settled.ensures.undecoded; after = is_as _ c.take_settled.ensures.after }
