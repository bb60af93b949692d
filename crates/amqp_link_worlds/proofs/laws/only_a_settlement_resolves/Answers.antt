use Rattle.amqp_link_worlds.proofs.ResolveLemmas.{resolved_by_settling}
use Rattle.amqp_link_worlds.proofs.laws.only_a_settlement_resolves.Goals as goal

pub returns : goal.returns
returns g c = λ decoded. resolved_by_settling decoded
