use Rattle.std.proofs.Common.{rules, ◌≡◌, refl, Err}
use Rattle.amqp_link_pair.proofs.RunLemmas.{ok_step, err_step, hand_out_steps}
use Rattle.amqp_link_pair.proofs.pair.Pair.answer_hand_out.Goals as goal

pub returns-in_err-hand_out-clause-step : goal.returns-in_err-hand_out-clause-step
returns-in_err-hand_out-clause-step c =
    let out : c.from_residual.result ≡ Err c.in_err-hand_out.field-0.0 = search rules in
    err_step refl c.in_err-hand_out.was out (hand_out_steps c.hand_out.ensures.done c.hand_out.ensures.refused c.hand_out.ensures.memory c.hand_out.ensures.left)

pub returns-clause-step : goal.returns-clause-step
returns-clause-step c = ok_step refl c.in_ok-hand_out.was (hand_out_steps c.hand_out.ensures.done c.hand_out.ensures.refused c.hand_out.ensures.memory c.hand_out.ensures.left)
