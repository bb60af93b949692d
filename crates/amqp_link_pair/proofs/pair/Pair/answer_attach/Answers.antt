use Rattle.std.proofs.Common.{rules, ◌≡◌, refl, Err}
use Rattle.amqp_link_pair.proofs.RunLemmas.{ok_step, err_step, attach_steps}
use Rattle.amqp_link_pair.proofs.pair.Pair.answer_attach.Goals as goal

pub returns-in_err-attach-clause-step : goal.returns-in_err-attach-clause-step
returns-in_err-attach-clause-step c =
    let out : c.from_residual.result ≡ Err c.in_err-attach.field-0.0 = search rules in
    err_step refl c.in_err-attach.was out (attach_steps c.attach.ensures.done c.attach.ensures.refused c.attach.ensures.memory c.attach.ensures.left)

pub returns-clause-step : goal.returns-clause-step
returns-clause-step c = ok_step refl c.in_ok-attach.was (attach_steps c.attach.ensures.done c.attach.ensures.refused c.attach.ensures.memory c.attach.ensures.left)
