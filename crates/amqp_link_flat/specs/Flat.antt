-- What C passes and what it gets: a struct without a pointer for each performative that is no tree, with a flag beside each
-- field that may be missing (OASIS AMQP 1.0 core, 2.7 and 3.4).
use Rattle.std.specs.Prelude.{◌==◌, ◌≡◌, IsTrue, ℕ, Bool, false, List, Option, Some, None, if◌then◌else◌, is_some, unwrap_or}
use Rattle.amqp_link_flat.specs.Numbers.{role_number}
use Rattle.amqp_link_flat.specs.declared.delivery_state.DeliveryStateFields.{DeliveryStateFields}
use Rattle.amqp_link_flat.specs.declared.detach.Detach as flat_detach
use Rattle.amqp_link_flat.specs.declared.disposition.Disposition as flat_disposition
use Rattle.amqp_link_flat.specs.declared.flow.Flow.{Flow}
use Rattle.amqp_link_types.specs.declared.types.definitions.Error.{Error}
use Rattle.amqp_link_types.specs.declared.types.delivery_state.DeliveryState.{DeliveryState}
use Rattle.amqp_link_types.specs.declared.types.delivery_state.DeliveryState.TheVariants as state
use Rattle.amqp_link_types.specs.declared.types.performatives.Detach.{Detach}
use Rattle.amqp_link_types.specs.declared.types.performatives.Disposition.{Disposition}
use Rattle.amqp_link_types.specs.declared.types.performatives.LinkFlow.{LinkFlow}

-- a field, if it is there
abbrev pub given : {X : Type 0} → Bool → X → Option X
given has x = if has then Some x else None

-- ---- flows

-- the flow that C passes: it has no properties
abbrev pub link_flow : Flow → LinkFlow
link_flow f = record {
  handle = record { 0 = f.handle };
  delivery_count = given f.has_delivery_count f.delivery_count;
  link_credit = given f.has_link_credit f.link_credit;
  available = given f.has_available f.available;
  drain = f.drain;
  echo = f.echo;
  properties = None;
}

-- a flow as C gets it
abbrev pub plain_flow : LinkFlow → Flow
plain_flow f = record {
  handle = f.handle.0;
  delivery_count = unwrap_or f.delivery_count 0;
  link_credit = unwrap_or f.link_credit 0;
  available = unwrap_or f.available 0;
  has_delivery_count = is_some f.delivery_count;
  has_link_credit = is_some f.link_credit;
  has_available = is_some f.available;
  drain = f.drain;
  echo = f.echo;
}

-- ---- states of deliveries

-- the error with these texts, if there is one
abbrev pub stated_error : Bool → Bool → List ℕ → List ℕ → Option Error
stated_error has_error has_description condition description = given has_error (record {
  condition = condition;
  description = given has_description description;
  info = None;
})

-- a rejection with an error, the one state that takes memory
abbrev pub CarriesError : DeliveryStateFields → Type 0
CarriesError f = (f.kind ≡ 2) × IsTrue f.has_error

-- the state that C passes, without the error of a rejection; nothing if its kind is none
abbrev pub bare_state : DeliveryStateFields → Option (Option DeliveryState)
bare_state f =
    if f.kind == 0 then Some None else (
    if f.kind == 1 then Some (Some state.Accepted) else (
    if f.kind == 2 then Some (Some (state.Rejected None)) else (
    if f.kind == 3 then Some (Some state.Released) else (
    if f.kind == 4 then Some (Some (state.Modified (given f.has_delivery_failed f.delivery_failed)
    (given f.has_undeliverable_here f.undeliverable_here) None)) else (
    if f.kind == 5 then Some (Some (state.Received f.section_number f.section_offset)) else None)))))

-- the state that C passes, with the texts of a rejection's error; nothing if its kind is none
abbrev pub stated_state : DeliveryStateFields → List ℕ → List ℕ → Option (Option DeliveryState)
stated_state f condition description =
    if f.kind == 2
    then Some (Some (state.Rejected (stated_error f.has_error f.has_description condition description)))
    else bare_state f

-- a state of this kind, without anything else
abbrev pub only_kind : ℕ → DeliveryStateFields
only_kind kind = record {
  section_offset = 0;
  kind = kind;
  section_number = 0;
  has_error = false;
  has_description = false;
  has_delivery_failed = false;
  delivery_failed = false;
  has_undeliverable_here = false;
  undeliverable_here = false;
}

-- whether there is an error with a description
abbrev pub is_described : Option Error → Bool
is_described None = false
is_described (Some error) = is_some error.description

-- the error of a rejection, if it carries one
abbrev pub rejection_error_of : DeliveryState → Option Error
rejection_error_of (state.Rejected error) = error
rejection_error_of _ = None

-- a state as C gets it
abbrev pub plain_state : Option DeliveryState → DeliveryStateFields
plain_state None = only_kind 0
plain_state (Some state.Accepted) = only_kind 1
plain_state (Some (state.Rejected error)) =
    record (only_kind 2) { has_error = is_some error; has_description = is_described error }
plain_state (Some state.Released) = only_kind 3
plain_state (Some (state.Modified failed undeliverable annotations)) = record (only_kind 4) {
  has_delivery_failed = is_some failed;
  delivery_failed = unwrap_or failed false;
  has_undeliverable_here = is_some undeliverable;
  undeliverable_here = unwrap_or undeliverable false;
}
plain_state (Some (state.Received number offset)) = record (only_kind 5) { section_number = number; section_offset = offset }

-- ---- detaches and dispositions

-- the detach that C passes, with the texts of its error
abbrev pub stated_detach : flat_detach.Detach → List ℕ → List ℕ → Detach
stated_detach d condition description = record {
  handle = record { 0 = d.handle };
  closed = d.closed;
  error = stated_error d.has_error d.has_description condition description;
}

-- a detach as C gets it
abbrev pub plain_detach : Detach → flat_detach.Detach
plain_detach d = record {
  handle = d.handle.0;
  closed = d.closed;
  has_error = is_some d.error;
  has_description = is_described d.error;
}

-- a disposition as C gets it
abbrev pub plain_disposition : Disposition → flat_disposition.Disposition
plain_disposition d = record {
  state = plain_state d.state;
  role = role_number d.role;
  first = d.first;
  last = unwrap_or d.last d.first;
  has_last = is_some d.last;
  settled = d.settled;
  batchable = d.batchable;
}
