-- Values of the definitions that were worked out by hand: docs/DEFINITIONS.md lists them.
use Rattle.std.proofs.Common.{◌≡◌, ℕ, ◌+◌, true, false, List, [], ◌∷◌, replicate, refl, Option, Some, None, Ok, Err}
use Rattle.std.specs.Prelude.{codes}
use Rattle.amqp_link_types.specs.Copies.{error_carries_more, connection_stop_carries_more, session_stop_carries_more, refusal_carries_more}
use Rattle.amqp_link_types.specs.Copies.{outcome_carries_more, result_carries_more, source_carries_more, target_carries_more, archetype_carries_more}
use Rattle.amqp_link_types.specs.Copies.{attach_carries_more, flow_carries_more, transfer_carries_more, disposition_carries_more, detach_carries_more}
use Rattle.amqp_link_types.specs.Entries.{Entries, with_entry, without_entry, without_entries, changed_at}
use Rattle.amqp_link_types.specs.Size.{attach_len, transfer_len, before, list_of, state_len}
use Rattle.amqp_link_types.specs.Size.{outcome_len, source_len, target_len, expiry_field}
use Rattle.amqp_link_types.specs.declared.types.attach.Attach.{Attach}
use Rattle.amqp_link_types.specs.declared.types.definitions.Error.{Error}
use Rattle.amqp_link_types.specs.declared.types.definitions.ReceiverSettleMode.TheVariants as rcv_mode
use Rattle.amqp_link_types.specs.declared.types.definitions.Role.TheVariants as role
use Rattle.amqp_link_types.specs.declared.types.definitions.SenderSettleMode.TheVariants as snd_mode
use Rattle.amqp_link_types.specs.declared.types.delivery_state.DeliveryState.{DeliveryState}
use Rattle.amqp_link_types.specs.declared.types.delivery_state.DeliveryState.TheVariants.{Accepted, Received}
use Rattle.amqp_link_types.specs.declared.types.delivery_state.Outcome.TheVariants as outcome
use Rattle.amqp_link_types.specs.declared.types.errors.LinkStateError.TheVariants as refused
use Rattle.amqp_link_types.specs.declared.types.stop_reason.ConnectionStopReason.TheVariants as connection
use Rattle.amqp_link_types.specs.declared.types.stop_reason.SessionStopReason.TheVariants as session
use Rattle.amqp_link_types.specs.declared.types.terminus.Source.{Source}
use Rattle.amqp_link_types.specs.declared.types.terminus.Target.{Target}
use Rattle.amqp_link_types.specs.declared.types.terminus.TargetArchetype.TheVariants as archetype
use Rattle.amqp_link_types.specs.declared.types.terminus.TerminusDurability.TheVariants as durable
use Rattle.amqp_link_types.specs.declared.types.terminus.TerminusExpiryPolicy.TheVariants as expiry
use Rattle.amqp_link_types.specs.declared.types.transfer.Transfer.{Transfer}
use Rattle.amqp_link_types.specs.DeliveryStates.{is_terminal}
use Rattle.amqp_link_types.specs.Unsettled.{states_of}

-- ---- maps

put_in_place : with_entry {V = ℕ} ((1 ∷ [], 5) ∷ (2 ∷ [], 6) ∷ []) (1 ∷ []) 7 ≡ (1 ∷ [], 7) ∷ (2 ∷ [], 6) ∷ []
put_in_place = refl

put_last : with_entry {V = ℕ} ((1 ∷ [], 5) ∷ []) (2 ∷ []) 6 ≡ (1 ∷ [], 5) ∷ (2 ∷ [], 6) ∷ []
put_last = refl

two_removals : without_entries {V = ℕ} ((1 ∷ [], 5) ∷ (2 ∷ [], 6) ∷ (3 ∷ [], 7) ∷ []) ((1 ∷ []) ∷ (3 ∷ []) ∷ []) ≡ (2 ∷ [], 6) ∷ []
two_removals = refl

changed_in_place : changed_at {V = ℕ} (λ v. v + 1) ((3 ∷ []) ∷ (1 ∷ []) ∷ (4 ∷ []) ∷ []) ((1 ∷ [], 5) ∷ (2 ∷ [], 6) ∷ (3 ∷ [], 7) ∷ []) ≡ (1 ∷ [], 6) ∷ (2 ∷ [], 6) ∷ (3 ∷ [], 8) ∷ []
changed_in_place = refl

last_takes_the_gap : without_entry {V = ℕ} ((1 ∷ [], 5) ∷ (2 ∷ [], 6) ∷ (3 ∷ [], 7) ∷ []) (1 ∷ []) ≡ (3 ∷ [], 7) ∷ (2 ∷ [], 6) ∷ []
last_takes_the_gap = refl

-- ---- lengths

state_at_the_start : state_len (Received 0 0) ≡ 8
unfolding before list_of
state_at_the_start = refl

-- a transfer at handle 0 with the longest delivery id, this tag, format 0, settled false, and more
abbrev measured : List ℕ → Transfer
measured tag = record {
  handle = record { 0 = 0 };
  delivery_id = Some 4294967295;
  delivery_tag = Some tag;
  message_format = Some 0;
  settled = Some false;
  more = true;
  rcv_settle_mode = None;
  state = None;
  resume = false;
  aborted = false;
  batchable = false;
}

short_tag : transfer_len (measured (replicate 4 0)) ≡ 21
unfolding transfer_len before list_of
short_tag = refl

tag_of_244 : transfer_len (measured (replicate 244 0)) ≡ 267
unfolding transfer_len before list_of
tag_of_244 = refl

accepted : transfer_len (record (measured (replicate 4 0)) { state = Some Accepted }) ≡ 26
unfolding transfer_len before list_of
accepted = refl

-- an outcome with an error of this condition alone
rejected_for_a_reason : outcome_len (outcome.Rejected (Some (record { condition = codes "x:y"; description = None; info = None }))) ≡ 17
unfolding before list_of
rejected_for_a_reason = refl

expiry_at_detach : expiry_field expiry.LinkDetach ≡ Some 13
expiry_at_detach = refl

expiry_by_default : expiry_field expiry.SessionEnd ≡ None
expiry_by_default = refl

expiry_at_close : expiry_field expiry.ConnectionClose ≡ Some 18
expiry_at_close = refl

no_expiry : expiry_field expiry.Never ≡ Some 7
no_expiry = refl

-- a source and a target with all defaults
abbrev plain_source : Source
plain_source = record {
  address = None;
  durable = durable.None;
  expiry_policy = expiry.SessionEnd;
  timeout = 0;
  dynamic = false;
  dynamic_node_properties = None;
  distribution_mode = None;
  filter = None;
  default_outcome = None;
  outcomes = None;
  capabilities = None;
}

abbrev plain_target : Target
plain_target = record {
  address = None;
  durable = durable.None;
  expiry_policy = expiry.SessionEnd;
  timeout = 0;
  dynamic = false;
  dynamic_node_properties = None;
  capabilities = None;
}

default_source : source_len plain_source ≡ 4
unfolding before list_of
default_source = refl

addressed_source : source_len (record plain_source { address = Some (codes "q1") }) ≡ 10
unfolding before list_of
addressed_source = refl

lasting_target : target_len (record plain_target { timeout = 256 }) ≡ 14
unfolding before list_of
lasting_target = refl

-- a sender's attach of the link "l" at handle 0 with count 0, and all else default
abbrev plain_attach : Attach
plain_attach = record {
  name = codes "l";
  handle = record { 0 = 0 };
  role = role.Sender;
  snd_settle_mode = snd_mode.Mixed;
  rcv_settle_mode = rcv_mode.First;
  source = Some plain_source;
  target = Some (archetype.Target plain_target);
  unsettled = None;
  incomplete_unsettled = false;
  initial_delivery_count = Some 0;
  max_message_size = None;
  offered_capabilities = None;
  desired_capabilities = None;
  properties = None;
}

plainest_attach : attach_len plain_attach ≡ 24
unfolding attach_len before list_of
plainest_attach = refl

-- four deliveries of which no state is known
abbrev four_entries : Entries (Option DeliveryState)
four_entries = (replicate 4 0, None) ∷ (replicate 4 1, None) ∷ (replicate 4 2, None) ∷ (replicate 4 3, None) ∷ []

attach_of_four : attach_len (record plain_attach { unsettled = Some four_entries }) ≡ 54
unfolding attach_len before list_of
attach_of_four = refl

-- ---- states

received_is_not_terminal : is_terminal (Received 0 2) ≡ false
received_is_not_terminal = refl

state_of_one_just_sent : states_of ((1 ∷ [], record { payload = 7 ∷ []; state = None; message_format = 0 }) ∷ []) ≡ (1 ∷ [], None) ∷ []
state_of_one_just_sent = refl

-- ---- copies

-- an error of this condition alone
abbrev x_y : Error
x_y = record { condition = codes "x:y"; description = None; info = None }

error_carries : error_carries_more x_y ≡ true
error_carries = refl

closed_carries_nothing : connection_stop_carries_more connection.Closed ≡ false
closed_carries_nothing = refl

stop_carries : session_stop_carries_more (session.ConnectionStopped (connection.RemoteClosedWithError x_y)) ≡ true
stop_carries = refl

no_room_carries_nothing : refusal_carries_more refused.NoRoom ≡ false
no_room_carries_nothing = refl

ended_carries_nothing : refusal_carries_more (refused.SessionStopped session.Ended) ≡ false
ended_carries_nothing = refl

released_carries_nothing : outcome_carries_more outcome.Released ≡ false
released_carries_nothing = refl

accepted_carries_nothing : result_carries_more (Ok (Some Accepted)) ≡ false
accepted_carries_nothing = refl

closed_with_an_error_carries : result_carries_more (Err (refused.RemoteClosedWithError x_y)) ≡ true
closed_with_an_error_carries = refl

plain_source_carries_nothing : source_carries_more plain_source ≡ false
plain_source_carries_nothing = refl

addressed_source_carries : source_carries_more (record plain_source { address = Some (codes "q1") }) ≡ true
addressed_source_carries = refl

plain_target_carries_nothing : target_carries_more plain_target ≡ false
plain_target_carries_nothing = refl

plain_archetype_carries_nothing : archetype_carries_more (archetype.Target plain_target) ≡ false
plain_archetype_carries_nothing = refl

name_carries : attach_carries_more plain_attach ≡ true
name_carries = refl

nameless_carries_nothing : attach_carries_more (record plain_attach { name = []; unsettled = Some [] }) ≡ false
nameless_carries_nothing = refl

silent_flow_carries_nothing : flow_carries_more (record {
  handle = record { 0 = 0 };
  delivery_count = Some 2;
  link_credit = Some 3;
  available = None;
  drain = false;
  echo = true;
  properties = Some [];
}) ≡ false
silent_flow_carries_nothing = refl

short_tag_carries_nothing : transfer_carries_more (measured (replicate 16 0)) ≡ false
short_tag_carries_nothing = refl

long_tag_carries : transfer_carries_more (measured (replicate 17 0)) ≡ true
long_tag_carries = refl

acceptance_carries_nothing : disposition_carries_more (record {
  role = role.Receiver;
  first = 1;
  last = None;
  settled = true;
  state = Some Accepted;
  batchable = false;
}) ≡ false
acceptance_carries_nothing = refl

detach_with_an_error_carries : detach_carries_more (record { handle = record { 0 = 0 }; closed = true; error = Some x_y }) ≡ true
detach_with_an_error_carries = refl
