use Rattle.std.proofs.Common.{rules, ◌≡◌, refl, Err}
use Rattle.amqp_link_pair.proofs.RunLemmas.{ok_step, err_step, withdraw_steps}
use Rattle.amqp_link_pair.proofs.pair.Pair.answer_withdraw.Goals as goal

pub returns-in_err-withdraw-clause-step : goal.returns-in_err-withdraw-clause-step
returns-in_err-withdraw-clause-step c =
    let out : c.from_residual.result ≡ Err c.in_err-withdraw.field-0.0 = search rules in
    err_step refl c.in_err-withdraw.was out (withdraw_steps c.withdraw.ensures.done c.withdraw.ensures.refused c.withdraw.ensures.left)

pub returns-clause-step : goal.returns-clause-step
returns-clause-step c = ok_step refl c.in_ok-withdraw.was (withdraw_steps c.withdraw.ensures.done c.withdraw.ensures.refused c.withdraw.ensures.left)
