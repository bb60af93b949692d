use Rattle.std.proofs.Common.{rules, ◌≡◌, refl, Err}
use Rattle.amqp_link_pair.proofs.RunLemmas.{ok_step, err_step, put_back_steps}
use Rattle.amqp_link_pair.proofs.pair.Pair.answer_put_back_next.Goals as goal

pub returns-in_err-put_back_next-clause-step : goal.returns-in_err-put_back_next-clause-step
returns-in_err-put_back_next-clause-step c =
    let out : c.from_residual.result ≡ Err c.in_err-put_back_next.field-0.0 = search rules in
    err_step refl c.in_err-put_back_next.was out (put_back_steps c.put_back_next.ensures.done c.put_back_next.ensures.refused c.put_back_next.ensures.left)

pub returns-clause-step : goal.returns-clause-step
returns-clause-step c = ok_step refl c.in_ok-put_back_next.was (put_back_steps c.put_back_next.ensures.done c.put_back_next.ensures.refused c.put_back_next.ensures.left)
