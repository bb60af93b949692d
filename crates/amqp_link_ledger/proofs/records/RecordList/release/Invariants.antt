use Rattle.std.proofs.Common.{◌≡◌, ◌+◌, ◌≤◌, drop, length}
use Rattle.std.specs.VecDeque.{deque_capacity, deque_len}
use Rattle.amqp_link_ledger.specs.Fates.{after_gone}
use Rattle.amqp_link_ledger.specs.declared.fate.Fate.TheVariants.{Released}
use Rattle.amqp_link_ledger.proofs.records.RecordList.release.Given as goal

-- those below the counter are released, and the others are left, in the same room
abbrev pub invariant-loop : goal.invariant-loop
invariant-loop l = record {
  count : l.self-inside.released ≡ l.counter;
  left : drop l.counter (after_gone l.initial.self-inside.released l.initial.self-inside.kept.items) ≡ l.self-inside.kept.items;
  within : l.counter ≤ length (after_gone l.initial.self-inside.released l.initial.self-inside.kept.items);
  total : l.self-inside.released + deque_len l.self-inside.kept ≡ l.initial.self-inside.released + deque_len l.initial.self-inside.kept;
  fewer : deque_len l.self-inside.kept ≤ deque_len l.initial.self-inside.kept;
  capacity : deque_capacity l.self-inside.kept ≡ deque_capacity l.initial.self-inside.kept;
  gone : l.self-inside.gone ≡ Released;
}
