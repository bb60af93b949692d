use Rattle.std.proofs.Common.{◌≡◌, arith}
use Rattle.std.proofs.lemmas.Grind.{common_steps}
use Rattle.amqp_link_exchange.specs.Plans.{resumed_count}
use Rattle.amqp_link_exchange.proofs.PlanLemmas.{counts_add}
use Rattle.amqp_link_exchange.proofs.planning.resumed_among.Goals as goal

pub returns-clause-rest : goal.returns-clause-rest
returns-clause-rest c =
    let value : c.loop-step.resumed ≡ resumed_count c.args.steps.now = grind (arith, common_steps) in
    omega (arith, counts_add c.args.steps.now, value)
