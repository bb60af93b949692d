use Rattle.std.proofs.Common.{◌≡◌, map, drop, IsTrue}
use Rattle.std.specs.Vec.Iter.{into_iter_items}
use Rattle.amqp_link_ledger.specs.Fates.{resolved}
use Rattle.amqp_link_ledger.proofs.registrations.Registrations.resolve_all.Given as goal

abbrev pub invariant-loop-tag : goal.invariant-loop-tag
invariant-loop-tag l = record {
  left : resolved (drop l.tag-index l.ended) l.self.records ≡ resolved l.ended l.initial.self.records;
  outcomes : into_iter_items l.outcomes ≡ map (λ e. e.1) (drop l.tag-index l.ended);
  room : IsTrue l.initial.self.has_room → IsTrue l.self.has_room;
}
