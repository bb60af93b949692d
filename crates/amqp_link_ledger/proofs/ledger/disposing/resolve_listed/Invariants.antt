use Rattle.std.proofs.Common.{◌≡◌, [], map}
use Rattle.std.specs.List.{filter_map}
use Rattle.std.specs.Vec.Iter.{into_iter_items}
use Rattle.amqp_link_types.specs.declared.delivery.UnsettledMessage.{UnsettledMessage}
use Rattle.amqp_link_types.specs.Entries.{Entries}
use Rattle.amqp_link_dispositions.specs.Ending.{settled_at}
use Rattle.amqp_link_ledger.specs.Disposing.{settled_outcome}
use Rattle.amqp_link_ledger.specs.Fates.{resolved}
use Rattle.amqp_link_ledger.proofs.BatchLemmas.{outcomes_from, ended_from}
use Rattle.amqp_link_ledger.proofs.ledger.disposing.resolve_listed.Given as goal

abbrev pub invariant-loop-tag : goal.invariant-loop-tag
invariant-loop-tag l = record {
  none : into_iter_items l.initial.outcomes ≡ [] → (l.registrations.records ≡ l.initial.registrations.records) × (into_iter_items l.outcomes ≡ []);
  each : (own : Entries UnsettledMessage) → into_iter_items l.initial.outcomes ≡ map (λ pair. settled_outcome own pair.1) l.listed
      → (into_iter_items l.outcomes ≡ outcomes_from own l.listed l.tag-index)
      × (resolved (ended_from own l.listed l.tag-index) l.registrations.records
      ≡ resolved (filter_map (settled_at own) (map (λ pair. pair.1) l.listed)) l.initial.registrations.records);
}
