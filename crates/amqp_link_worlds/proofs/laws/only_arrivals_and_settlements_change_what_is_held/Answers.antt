use Rattle.amqp_link_worlds.proofs.RunLemmas.{step_keeps_held, refusal_keeps_held}
use Rattle.amqp_link_worlds.proofs.laws.only_arrivals_and_settlements_change_what_is_held.Goals as goal

pub returns-clause-answered : goal.returns-clause-answered
returns-clause-answered g c = λ decoded. step_keeps_held decoded

pub returns-clause-refused : goal.returns-clause-refused
returns-clause-refused g c = λ decoded. refusal_keeps_held decoded
