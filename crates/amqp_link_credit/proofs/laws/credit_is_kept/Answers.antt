use Rattle.amqp_link_credit.proofs.OrderLemmas.{run_is_kept}
use Rattle.amqp_link_credit.proofs.laws.credit_is_kept.Goals as goal

pub returns : goal.returns
returns c = record {
  credit = λ count limit calls new h room s. (run_is_kept count limit calls new h room s).credit;
  kept = run_is_kept;
}
