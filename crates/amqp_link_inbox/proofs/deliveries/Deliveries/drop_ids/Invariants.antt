use Rattle.std.proofs.Common.{◌≡◌, length}
use Rattle.amqp_link_inbox.proofs.IdLemmas.{halfway}
use Rattle.amqp_link_inbox.proofs.deliveries.Deliveries.drop_ids.Given as goal

-- those before the index have none
abbrev pub invariant-loop-index : goal.invariant-loop-index
invariant-loop-index l = record {
  entries : l.self-inside.entries.entries ≡ halfway l.initial.self-inside.entries.entries l.index;
  settled : l.self-inside.settled ≡ l.initial.self-inside.settled;
  end : l.index-end ≡ length l.initial.self-inside.entries.entries;
}
