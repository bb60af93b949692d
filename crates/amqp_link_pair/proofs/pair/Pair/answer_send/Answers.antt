use Rattle.std.proofs.Common.{rules, ◌≡◌, refl, Err}
use Rattle.amqp_link_pair.proofs.RunLemmas.{ok_step, err_step, send_steps}
use Rattle.amqp_link_pair.proofs.pair.Pair.answer_send.Goals as goal

pub returns-in_err-sent-clause-step : goal.returns-in_err-sent-clause-step
returns-in_err-sent-clause-step c =
    let out : c.from_residual.result ≡ Err c.in_err-sent.field-0.0 = search rules in
    err_step refl c.in_err-sent.was out (send_steps c.send.ensures.done c.send.ensures.refused c.send.ensures.left)

pub returns-clause-step : goal.returns-clause-step
returns-clause-step c = ok_step refl c.in_ok-sent.was (send_steps c.send.ensures.done c.send.ensures.refused c.send.ensures.left)
