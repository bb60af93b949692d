-- Several changes of a map, one after the other: helpers of the functions that make them.
use Rattle.std.specs.Prelude.{List, [], ◌∷◌, Option, Some}
use Rattle.amqp_link_types.specs.declared.types.delivery_state.DeliveryState.{DeliveryState}
use Rattle.amqp_link_types.specs.Entries.{Tag, Entries, changed_at}

-- a tag, and the state that is set there
abbrev pub StateChange : Type 0
StateChange = Tag × DeliveryState

-- the map with these states set, where there is an entry
abbrev pub with_states : {V : Type 0} → (V → Option DeliveryState → V) → Entries V → List StateChange → Entries V
with_states set es [] = es
with_states set es (c ∷ cs) = with_states set (changed_at (λ value. set value (Some c.1)) (c.0 ∷ []) es) cs
