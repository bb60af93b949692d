use Rattle.std.proofs.Common.{rules, ◌≡◌, refl, Err}
use Rattle.amqp_link_pair.proofs.RunLemmas.{ok_step, err_step, arrive_steps}
use Rattle.amqp_link_pair.proofs.pair.Pair.answer_arrive.Goals as goal

pub returns-in_err-arrive-clause-step : goal.returns-in_err-arrive-clause-step
returns-in_err-arrive-clause-step c =
    let out : c.from_residual.result ≡ Err c.in_err-arrive.field-0.0 = search rules in
    err_step refl c.in_err-arrive.was out (arrive_steps c.arrive.ensures.done c.arrive.ensures.refused c.arrive.ensures.memory c.arrive.ensures.left)

pub returns-clause-step : goal.returns-clause-step
returns-clause-step c = rw (c.answer_of_arrival.ensures) (ok_step refl c.in_ok-arrive.was (arrive_steps c.arrive.ensures.done c.arrive.ensures.refused c.arrive.ensures.memory c.arrive.ensures.left))
