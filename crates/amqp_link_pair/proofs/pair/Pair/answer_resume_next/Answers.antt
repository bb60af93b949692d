use Rattle.std.proofs.Common.{rules, ◌≡◌, refl, Err}
use Rattle.amqp_link_pair.proofs.RunLemmas.{ok_step, err_step, resume_steps}
use Rattle.amqp_link_pair.proofs.pair.Pair.answer_resume_next.Goals as goal

pub returns-in_err-resume_next-clause-step : goal.returns-in_err-resume_next-clause-step
returns-in_err-resume_next-clause-step c =
    let out : c.from_residual.result ≡ Err c.in_err-resume_next.field-0.0 = search rules in
    err_step refl c.in_err-resume_next.was out (resume_steps c.resume_next.ensures.done c.resume_next.ensures.refused c.resume_next.ensures.left)

pub returns-clause-step : goal.returns-clause-step
returns-clause-step c = rw (c.answer_of_resumption.ensures) (ok_step refl c.in_ok-resume_next.was (resume_steps c.resume_next.ensures.done c.resume_next.ensures.refused c.resume_next.ensures.left))
