use Rattle.amqp_link_credit.proofs.SendTaken.{no_send_refusal}
use Rattle.amqp_link_credit.proofs.TakenLemmas.{run_receives, run_completes}
use Rattle.amqp_link_credit.proofs.laws.a_run_refuses_only_for_memory.Goals as goal

pub returns : goal.returns
returns c = record {
  held = run_receives;
  whole = λ w f rest id number offset message k taken t. run_completes w f rest id number offset message k taken t;
  sent = no_send_refusal;
}
