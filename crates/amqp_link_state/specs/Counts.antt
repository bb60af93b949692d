-- Delivery-counts, which wrap, and link-credit (OASIS AMQP 1.0 core, 2.6.7). A count is a serial number of 32
-- bits (RFC 1982).
use Rattle.std.specs.Prelude.{ℕ, ◌+◌, ◌-◌, ◌%◌, ◌^◌, ℤ, pos, ◌+ℤ◌, ◌-ℤ◌, nat_lt, if◌then◌else◌}
use Rattle.std.specs.Prelude.{Bool, true, false, ◌||◌, Option, Some, None, unwrap_or}
use Rattle.std.specs.Int.{w32, saturate_unsigned}
use Rattle.std.specs.Option.{option_map_or}
use Rattle.amqp_link_state.specs.declared.state.LinkFlowStateInner.{LinkFlowStateInner}
use Rattle.amqp_link_types.specs.declared.types.definitions.OutputHandle.{OutputHandle}
use Rattle.amqp_link_types.specs.declared.types.performatives.LinkFlow.{LinkFlow}

-- the one number from -2^31 to 2^31 - 1 that is a - b modulo 2^32
abbrev pub sdiff : ℕ → ℕ → ℤ
sdiff a b =
    let d = (a + (2 ^ 32 - b % 2 ^ 32)) % 2 ^ 32 in
    if nat_lt d (2 ^ 31) then pos d else pos d -ℤ pos (2 ^ 32)

-- a sender's link-credit at its own count, if a receiver at this count grants this much: count + grant - own,
-- held between 0 and 2^32 - 1
abbrev pub granted : ℕ → ℕ → ℕ → ℕ
granted count grant own = saturate_unsigned w32 (pos grant +ℤ sdiff count own)

-- delivery-count + link-credit, which spending a credit does not change
abbrev pub count_limit : LinkFlowStateInner → ℕ
count_limit flow = (flow.delivery_count + flow.link_credit) % 2 ^ 32

-- n credits were spent: taken from the credit and added to the count
abbrev pub after_consuming : ℕ → LinkFlowStateInner → LinkFlowStateInner
after_consuming n flow = record flow {
  delivery_count = (flow.delivery_count + n) % 2 ^ 32;
  link_credit = flow.link_credit - n;
}

-- A receiver at this count of its sender's: delivery-count + link-credit, up to which the sender may send, stays, so
-- that the credit is what is left of it, and none if the sender is past it.
abbrev pub moved_to : ℕ → LinkFlowStateInner → LinkFlowStateInner
moved_to count own = record own {
  delivery_count = count;
  link_credit = granted own.delivery_count own.link_credit count;
}

-- ---- flows

-- the flow state as a flow with this handle, without properties
abbrev pub flow_of : LinkFlowStateInner → OutputHandle → Bool → LinkFlow
flow_of own handle echo = record {
  handle = record { 0 = handle.0 };
  delivery_count = Some own.delivery_count;
  link_credit = Some own.link_credit;
  available = Some own.available;
  drain = own.drain;
  echo = echo;
  properties = None;
}

-- the receiver's delivery-count by its flow, or the initial one if the flow has none
abbrev pub count_in : LinkFlow → LinkFlowStateInner → ℕ
count_in flow own = unwrap_or flow.delivery_count own.initial_delivery_count

-- a sender's link-credit after a receiver's flow, before any drain
abbrev pub credit_after : LinkFlow → LinkFlowStateInner → ℕ
credit_after flow own = option_map_or
    (λ credit. granted (count_in flow own) credit own.delivery_count) flow.link_credit own.link_credit

-- a sender after that flow: a drain adds all credit to the count
abbrev pub sender_after : LinkFlow → LinkFlowStateInner → LinkFlowStateInner
sender_after flow own =
    if flow.drain
    then record own {
      delivery_count = (own.delivery_count + credit_after flow own) % 2 ^ 32;
      link_credit = 0;
      drain = true;
    }
    else record own { link_credit = credit_after flow own; drain = false }

-- the reply to that flow: there is always one to a drain
abbrev pub sender_reply : LinkFlow → LinkFlowStateInner → OutputHandle → Option LinkFlow
sender_reply flow own handle =
    if flow.drain || flow.echo then Some (flow_of (sender_after flow own) handle false) else None

-- A sender after that flow if it keeps what it is to drain: the credit stands until it is spent or given back.
abbrev pub sender_keeping : LinkFlow → LinkFlowStateInner → LinkFlowStateInner
sender_keeping flow own = record own { link_credit = credit_after flow own; drain = flow.drain }

-- its reply: only to a flow that asks for an echo
abbrev pub keeping_reply : LinkFlow → LinkFlowStateInner → OutputHandle → Option LinkFlow
keeping_reply flow own handle = if flow.echo then Some (flow_of (sender_keeping flow own) handle false) else None

-- a sender whose credit is all added to its count
abbrev pub given_back : LinkFlowStateInner → LinkFlowStateInner
given_back own = record own { delivery_count = (own.delivery_count + own.link_credit) % 2 ^ 32; link_credit = 0 }

-- a sender with the number of waiting deliveries that its user sets
abbrev pub with_available : Option ℕ → LinkFlowStateInner → LinkFlowStateInner
with_available available own = record own { available = unwrap_or available own.available }

-- the flow that a sender sends by itself: with its properties if they are to be included
abbrev pub sender_flow : LinkFlowStateInner → OutputHandle → Bool → Bool → LinkFlow
sender_flow own handle echo include_properties = record (flow_of own handle echo) {
  properties = if include_properties then own.properties else None;
}

-- a receiver after a sender's flow: it keeps its credit and its drain flag
abbrev pub receiver_after : LinkFlow → LinkFlowStateInner → LinkFlowStateInner
receiver_after flow own = record own {
  delivery_count = unwrap_or flow.delivery_count own.delivery_count;
  available = unwrap_or flow.available own.available;
}

abbrev pub receiver_reply : LinkFlow → LinkFlowStateInner → OutputHandle → Option LinkFlow
receiver_reply flow own handle =
    if flow.echo then Some (flow_of (receiver_after flow own) handle false) else None

-- a receiver with the credit and the drain flag that its user sets
abbrev pub with_stated : Option ℕ → Option Bool → LinkFlowStateInner → LinkFlowStateInner
with_stated credit drain own = record own {
  link_credit = unwrap_or credit own.link_credit;
  drain = unwrap_or drain own.drain;
}

-- the flow that a receiver sends: without available, and with its properties if they are to be included
abbrev pub stated_flow : LinkFlowStateInner → OutputHandle → Bool → Bool → LinkFlow
stated_flow own handle echo include_properties = record (flow_of own handle echo) {
  available = None;
  properties = if include_properties then own.properties else None;
}
