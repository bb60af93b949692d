use Rattle.std.proofs.Common.{◌≡◌, drop}
use Rattle.amqp_link_types.specs.Entries.{without_entries}
use Rattle.amqp_link_inbox.specs.Disposing.{settled_tags}
use Rattle.amqp_link_inbox.proofs.deliveries.Deliveries.remove_settled.Given as goal

-- what was dropped and what is left to be make the whole
abbrev pub invariant-loop-info : goal.invariant-loop-info
invariant-loop-info l = record {
  entries : without_entries l.self.entries (settled_tags l.how.given l.how.own (drop l.info-index l.infos))
      ≡ without_entries l.initial.self.entries (settled_tags l.how.given l.how.own l.infos);
  settled : l.self.settled ≡ l.initial.self.settled;
}
