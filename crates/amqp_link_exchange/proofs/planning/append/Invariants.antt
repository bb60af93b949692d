use Rattle.std.proofs.Common.{◌≡◌, ◌+◌, ◌≤◌, ◌++◌, length, vec_len, vec_capacity}
use Rattle.std.specs.Vec.Iter.{into_iter_items}
use Rattle.amqp_link_exchange.proofs.planning.append.Given as goal

-- what was appended and what is left make the whole, and there is room for what is left
abbrev pub invariant-loop-delivery : goal.invariant-loop-delivery
invariant-loop-delivery l = record {
  items : l.list.items ++ into_iter_items l.delivery-iterator ≡ l.initial.list.items ++ into_iter_items l.initial.delivery-iterator;
  room : vec_len l.list + length (into_iter_items l.delivery-iterator) ≤ vec_capacity l.list;
}
