-- The tags that an attach names are those of the map, and there are as many.
use Rattle.std.proofs.Common.{◌≡◌, ◌<◌, ◌++◌, sym, subst, [], ◌∷◌, refl, ap, length, arith, Option}
use Rattle.std.specs.List.{IsDistinct}
use Rattle.std.specs.Map.{keys_of}
use Rattle.std.specs.Str.{bytes_eq}
use Rattle.amqp_link_types.specs.declared.delivery.UnsettledMessage.{UnsettledMessage}
use Rattle.amqp_link_types.specs.declared.types.delivery_state.DeliveryState.{DeliveryState}
use Rattle.amqp_link_types.specs.Entries.{Tag, Entries, IsMap}
use Rattle.amqp_link_types.specs.Unsettled.{states_of}

keys_of-states : (es : Entries UnsettledMessage) → keys_of (states_of es) ≡ keys_of es
keys_of-states [] = refl
keys_of-states (e ∷ es) = ap (λ keys. e.0 ∷ keys) (keys_of-states es)

pub IsMap-states : (es : Entries UnsettledMessage) → IsMap es → IsMap (states_of es)
IsMap-states es distinct = subst (IsDistinct bytes_eq) (sym (keys_of-states es)) distinct

pub some_states : (copied : Entries (Option DeliveryState)) (e : Tag × UnsettledMessage) (more es : Entries UnsettledMessage) →
    copied ++ states_of (e ∷ more) ≡ states_of es → 0 < length es
some_states copied e more (f ∷ fs) h = omega arith
some_states [] e more [] h = let n = ap length h in absurd (omega arith)
some_states (s ∷ ss) e more [] h = let n = ap length h in absurd (omega arith)
