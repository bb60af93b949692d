use Rattle.amqp_link_worlds.proofs.RunLemmas.{step_keeps_payload}
use Rattle.amqp_link_worlds.proofs.laws.no_payload_changes.Goals as goal

pub returns : goal.returns
returns g c = λ decoded. step_keeps_payload decoded
