-- A list or a map that is not empty carries something that is copied.
use Rattle.std.proofs.Common.{◌≡◌, ◌<◌, [], ◌∷◌, refl, ap, true, length, rules, arith, Vec, Global, ◌∙◌}
use Rattle.std.proofs.Common.{List as Items}
use Rattle.amqp_link_values.specs.Copies.{data_carries_more}
use Rattle.amqp_link_values.specs.Data.{list, map}
use Rattle.amqp_link_values.specs.View.{view, items_view, pairs_view}
use Rattle.amqp_link_values.specs.declared.value.Value.{Value, List, Map, the_lemmas}

items_carry : (vs : Items Value) → 0 < length vs → data_carries_more (list (items_view vs)) ≡ true
items_carry [] h = absurd (omega arith)
items_carry (v ∷ vs) h = refl

pairs_carry : (ps : Items (Value × Value)) → 0 < length ps → data_carries_more (map (pairs_view ps)) ≡ true
pairs_carry [] h = absurd (omega arith)
pairs_carry (p ∷ ps) h = refl

view-List : (v : Vec Value Global) → view (List v) ≡ list (items_view v.items)
view-List v = search (rules, the_lemmas)

view-Map : (v : Vec (Value × Value) Global) → view (Map v) ≡ map (pairs_view v.items)
view-Map v = search (rules, the_lemmas)

pub list_carries : (v : Vec Value Global) → 0 < length v.items → data_carries_more (view (List v)) ≡ true
list_carries v h = ap data_carries_more (view-List v) ∙ items_carry v.items h

pub map_carries : (v : Vec (Value × Value) Global) → 0 < length v.items → data_carries_more (view (Map v)) ≡ true
map_carries v h = ap data_carries_more (view-Map v) ∙ pairs_carry v.items h

pub ruleset carrying = (list_carries, map_carries)
