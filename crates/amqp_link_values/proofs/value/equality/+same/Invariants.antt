use Rattle.std.proofs.Common.{◌≡◌, drop}
use Rattle.amqp_link_values.specs.Same.{same_items, same_pairs}
use Rattle.amqp_link_values.specs.View.{items_view, pairs_view}
use Rattle.amqp_link_values.proofs.value.equality.+same.Given as goal

-- as far as the loop came all are the same, so what is left decides
abbrev pub invariant-same_lists-loop-i : goal.invariant-same_lists-loop-i
invariant-same_lists-loop-i l =
    same_items (items_view l.left) (items_view l.right)
    ≡ same_items (items_view (drop l.i l.left)) (items_view (drop l.i l.right))

abbrev pub invariant-same_maps-loop-i : goal.invariant-same_maps-loop-i
invariant-same_maps-loop-i l =
    same_pairs (pairs_view l.left) (pairs_view l.right)
    ≡ same_pairs (pairs_view (drop l.i l.left)) (pairs_view (drop l.i l.right))
