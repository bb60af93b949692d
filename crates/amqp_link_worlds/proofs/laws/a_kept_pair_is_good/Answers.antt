use Rattle.amqp_link_worlds.proofs.WorldLemmas.{Good-from_world, IsRecorded-from_world}
use Rattle.amqp_link_worlds.proofs.laws.a_kept_pair_is_good.Goals as goal

pub returns-clause-good : goal.returns-clause-good
returns-clause-good c = Good-from_world

pub returns-clause-ledger : goal.returns-clause-ledger
returns-clause-ledger c = IsRecorded-from_world
