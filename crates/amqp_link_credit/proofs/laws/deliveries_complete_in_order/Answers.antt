use Rattle.amqp_link_credit.proofs.OrderLemmas.{in_order}
use Rattle.amqp_link_credit.proofs.laws.deliveries_complete_in_order.Goals as goal

pub returns : goal.returns
returns c = λ old calls new s. in_order calls old new s
