use Rattle.amqp_link_exchange.proofs.OnceLemmas.{answered_once}
use Rattle.amqp_link_exchange.proofs.laws.each_tag_is_answered_once.Goals as goal

pub returns : goal.returns
returns c = λ own remote mo mr tag. answered_once tag own remote mo mr
