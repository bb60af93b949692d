use Rattle.std.proofs.Common.{rules, ◌≡◌, refl, Err}
use Rattle.amqp_link_pair.proofs.RunLemmas.{ok_step, err_step, settle_steps}
use Rattle.amqp_link_pair.proofs.pair.Pair.answer_settle.Goals as goal

pub returns-in_err-settle-clause-step : goal.returns-in_err-settle-clause-step
returns-in_err-settle-clause-step c =
    let out : c.from_residual.result ≡ Err c.in_err-settle.field-0.0 = search rules in
    err_step refl c.in_err-settle.was out (settle_steps c.settle.ensures.done c.settle.ensures.refused c.settle.ensures.left)

pub returns-clause-step : goal.returns-clause-step
returns-clause-step c = ok_step refl c.in_ok-settle.was (settle_steps c.settle.ensures.done c.settle.ensures.refused c.settle.ensures.left)
