use Rattle.amqp_link_worlds.proofs.OutLemmas.{out_follows, out_stays}
use Rattle.amqp_link_worlds.proofs.laws.out_from_send_or_resumption_on.Goals as goal

pub returns-clause-answered : goal.returns-clause-answered
returns-clause-answered g c = λ decoded. out_follows decoded

pub returns-clause-refused : goal.returns-clause-refused
returns-clause-refused g c = λ decoded. out_stays decoded
