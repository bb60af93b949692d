use Rattle.std.proofs.Common.{◌≡◌, drop, IsTrue}
use Rattle.amqp_link_ledger.specs.Fates.{resolved}
use Rattle.amqp_link_ledger.proofs.registrations.Registrations.resolve_illegal.Given as goal

abbrev pub invariant-loop-tag : goal.invariant-loop-tag
invariant-loop-tag l = record {
  left : resolved (drop l.tag-index l.ended) l.self.records ≡ resolved l.ended l.initial.self.records;
  room : IsTrue l.initial.self.has_room → IsTrue l.self.has_room;
}
