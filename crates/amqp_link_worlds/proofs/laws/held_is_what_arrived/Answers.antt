use Rattle.amqp_link_worlds.proofs.RunLemmas.{held_is_what_arrived}
use Rattle.amqp_link_worlds.proofs.laws.held_is_what_arrived.Goals as goal

pub returns : goal.returns
returns g c = λ decoded. held_is_what_arrived decoded
