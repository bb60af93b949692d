use Rattle.std.proofs.Common.{◌≡◌, ◌+◌, drop}
use Rattle.amqp_link_values.specs.Length.{items_len, pairs_len}
use Rattle.amqp_link_values.specs.View.{items_view, pairs_view}
use Rattle.amqp_link_values.proofs.length.value.+encoded_len.Given as goal

-- what is counted and what is left make the whole
abbrev pub invariant-list_len-loop-item : goal.invariant-list_len-loop-item
invariant-list_len-loop-item l =
    l.content + items_len (items_view (drop l.item-index l.item-items))
    ≡ items_len (items_view l.item-items)

abbrev pub invariant-map_len-loop-key : goal.invariant-map_len-loop-key
invariant-map_len-loop-key l =
    l.content + pairs_len (pairs_view (drop l.key-index l.key-items))
    ≡ pairs_len (pairs_view l.key-items)
