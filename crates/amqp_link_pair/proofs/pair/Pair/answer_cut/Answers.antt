use Rattle.std.proofs.Common.{rules, ◌≡◌, refl, Err}
use Rattle.amqp_link_pair.proofs.RunLemmas.{ok_step, err_step, cut_steps}
use Rattle.amqp_link_pair.proofs.pair.Pair.answer_cut.Goals as goal

pub returns-in_err-cut-clause-step : goal.returns-in_err-cut-clause-step
returns-in_err-cut-clause-step c =
    let out : c.from_residual.result ≡ Err c.in_err-cut.field-0.0 = search rules in
    err_step refl c.in_err-cut.was out (cut_steps c.cut.ensures.done c.cut.ensures.refused c.cut.ensures.left)

pub returns-clause-step : goal.returns-clause-step
returns-clause-step c = ok_step refl c.in_ok-cut.was (cut_steps c.cut.ensures.done c.cut.ensures.refused c.cut.ensures.left)
