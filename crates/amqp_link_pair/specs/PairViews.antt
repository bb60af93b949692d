-- The world that the fields of a pair stand for, and what a pair keeps of it. No public clause cites what it
-- keeps.
use Rattle.std.specs.Prelude.{◌≡◌, true, not, IfSome, IsSome}
use Rattle.amqp_link_types.specs.Entries.{Tag, Entries, entry_at}
use Rattle.amqp_link_worlds.specs.Invariants.{IsWorld}
use Rattle.amqp_link_worlds.specs.Steps.{is_empty}
use Rattle.amqp_link_worlds.specs.Wires.{frames_of}
use Rattle.amqp_link_worlds.specs.Worlds.{World, is_together}
use Rattle.amqp_link_pair.specs.Endpoints.{phase_of, IsEnds}
use Rattle.amqp_link_pair.specs.Keeping.{progress_of}
use Rattle.amqp_link_pair.specs.declared.deliveries.Kept.{Kept}
use Rattle.amqp_link_pair.specs.declared.pair.Pair.TheInside.{Inside}

abbrev pub world_of : Inside → World
world_of pair = record {
  phase = phase_of pair.ends.stage pair.ends.limit;
  ledger = pair.ends.ledger;
  receiver = pair.ends.receiver;
  deliveries = progress_of pair.deliveries;
  resuming = pair.resuming.list;
  wire = pair.wire.transfers;
}

-- while both endpoints are attached, the mark of a pending delivery states whether transfers of it are under
-- way
abbrev pub AreMarked : World → Entries Kept → Type 0
AreMarked w kept = is_together w.phase ≡ true → (tag : Tag) → IsSome (entry_at w.ledger.link.unsettled tag)
    → IfSome (entry_at kept tag) (λ k. k.is_under_way ≡ not (is_empty (frames_of tag w.wire)))

pub record IsPair (pair : Inside) : Type 0 where
  pub ends : IsEnds pair.ends
  pub world : IsWorld (world_of pair)
  pub marks : AreMarked (world_of pair) pair.deliveries
