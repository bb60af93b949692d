use Rattle.std.proofs.Common.{subst}
use Rattle.amqp_link_ledger.specs.Fates.{IsRecorded}
use Rattle.amqp_link_worlds.specs.Worlds.{World}
use Rattle.amqp_link_worlds.proofs.WorldLemmas.{IsRecorded-from_world}
use Rattle.amqp_link_pair.specs.PairViews.{world_of}
use Rattle.amqp_link_pair.proofs.pair.Pair.ledger.Goals as goal

pub returns-clause-recorded : goal.returns-clause-recorded
returns-clause-recorded c =
    subst (λ (w : World). IsRecorded w.ledger.link.unsettled w.ledger.records) c.self.view_is
    (IsRecorded-from_world (world_of c.self.inside) c.self.invariant.world)
