use Rattle.amqp_link_payloads.proofs.FrontLemmas.{position_rises, place_of_front}
use Rattle.amqp_link_payloads.proofs.laws.positions_name_fronts.Goals as goal

pub returns-clause-rises : goal.returns-clause-rises
returns-clause-rises c = position_rises

pub returns-clause-found : goal.returns-clause-found
returns-clause-found c = place_of_front
