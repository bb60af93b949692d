use Rattle.std.proofs.Common.{rules, ◌≡◌, refl, Err}
use Rattle.amqp_link_pair.proofs.RunLemmas.{ok_step, err_step, grant_steps}
use Rattle.amqp_link_pair.proofs.pair.Pair.answer_grant.Goals as goal

pub returns-in_err-grant-clause-step : goal.returns-in_err-grant-clause-step
returns-in_err-grant-clause-step c =
    let out : c.from_residual.result ≡ Err c.in_err-grant.field-0.0 = search rules in
    err_step refl c.in_err-grant.was out (grant_steps c.grant.ensures.done c.grant.ensures.refused c.grant.ensures.left)

pub returns-clause-step : goal.returns-clause-step
returns-clause-step c = ok_step refl c.in_ok-grant.was (grant_steps c.grant.ensures.done c.grant.ensures.refused c.grant.ensures.left)
