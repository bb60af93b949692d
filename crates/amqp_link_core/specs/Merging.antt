-- The merged fields of all transfers of one delivery (OASIS AMQP 1.0 core, 2.7.5).
use Rattle.std.specs.Prelude.{◌≡◌, Bool, true, false, List, [], ◌∷◌, map, filter, find, filter_map, slice_get, Option, Some, None, option_and_then, IsSomeAnd}
use Rattle.std.specs.List.{list_any, last_or}
use Rattle.std.specs.Option.{option_or}
use Rattle.amqp_link_types.specs.DeliveryStates.{is_terminal}
use Rattle.amqp_link_types.specs.declared.types.delivery_state.DeliveryState.{DeliveryState}
use Rattle.amqp_link_types.specs.declared.types.transfer.Transfer.{Transfer}

-- a transfer, and whether it began the delivery or resumed it
pub record Came : Type 0 where
  pub opens : Bool
  pub transfer : Transfer

-- one that begins the delivery
abbrev pub opening : Transfer → Came
opening t = record { opens = true; transfer = t }

-- a continuation
abbrev pub following : Transfer → Came
following t = record { opens = false; transfer = t }

-- those that are there
abbrev pub present : {A : Type 0} → List (Option A) → List A
present options = filter_map (λ o. o) options

-- the first item, if there is one
abbrev pub first : {A : Type 0} → List A → Option A
first items = slice_get items 0

-- the last item, if there is one
abbrev pub last : {A : Type 0} → List A → Option A
last items = last_or None items

-- true where some flag is, else false where there is a flag
abbrev pub settled_by : List Bool → Option Bool
settled_by [] = None
settled_by (flag ∷ flags) = Some (list_any (λ is. is) (flag ∷ flags))

-- the first terminal state, or the last
abbrev pub state_by : List DeliveryState → Option DeliveryState
state_by states = option_or (find is_terminal states) (last states)

-- The merged fields of all transfers of a delivery, in the order in which they arrived. Each is a statement
-- about the whole list: the id is that of the last transfer which began or resumed the delivery, the format
-- the first that is there, the settled flag true if one is, the state the first terminal one or else the last;
-- all other fields, the tag too, are the first transfer's.
pub record Merged (came : List Came) (merged : Transfer) : Type 0 where
  pub id : merged.delivery_id ≡ option_and_then (λ c. c.transfer.delivery_id) (last (filter (λ c. c.opens) came))
  pub format : merged.message_format ≡ first (present (map (λ c. c.transfer.message_format) came))
  pub settled : merged.settled ≡ settled_by (present (map (λ c. c.transfer.settled) came))
  pub state : merged.state ≡ state_by (present (map (λ c. c.transfer.state) came))
  pub others : IsSomeAnd (first came) (λ one.
      merged ≡ record one.transfer {
        delivery_id = merged.delivery_id;
        message_format = merged.message_format;
        settled = merged.settled;
        state = merged.state;
      })

-- a transfer without format, settled flag and state, which are the fields that a continuation can add
pub record IsSilent (t : Transfer) : Type 0 where
  pub format : t.message_format ≡ None
  pub settled : t.settled ≡ None
  pub state : t.state ≡ None

-- a delivery after it is resumed by a silent transfer: it has the transfer's id
abbrev pub resumed : Transfer → Transfer → Transfer
resumed old t = record old { delivery_id = t.delivery_id }
