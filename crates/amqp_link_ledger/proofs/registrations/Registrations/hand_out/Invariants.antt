use Rattle.std.proofs.Common.{◌≡◌, drop, IsTrue}
use Rattle.amqp_link_ledger.specs.Fates.{handed_out}
use Rattle.amqp_link_ledger.proofs.registrations.Registrations.hand_out.Given as goal

abbrev pub invariant-loop-tag : goal.invariant-loop-tag
invariant-loop-tag l = record {
  left : handed_out (drop l.tag-index l.list) l.self.records ≡ handed_out l.list l.initial.self.records;
  room : IsTrue l.initial.self.has_room → IsTrue l.self.has_room;
}
