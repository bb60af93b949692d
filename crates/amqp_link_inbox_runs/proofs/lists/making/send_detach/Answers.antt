use Rattle.std.proofs.Common.{refl}
use Rattle.amqp_link_inbox_runs.proofs.MakingLemmas.{keeps_if_moved}
use Rattle.amqp_link_inbox_runs.proofs.lists.making.send_detach.Goals as goal

pub returns-clause-step : goal.returns-clause-step
returns-clause-step g c =
    keeps_if_moved c.args.inbox.now _ _ (λ _. refl) (λ _. refl) c.send_detach.ensures.after
