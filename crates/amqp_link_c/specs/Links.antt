-- What C sees and sets of a link of either role, and its detaches (OASIS AMQP 1.0 core, 2.6.2 to 2.6.6).
use Rattle.std.specs.Prelude.{ℕ, Bool, false, List, Option, Some, None, length, is_some, option_and_then, unwrap_or}
use Rattle.std.specs.Option.{option_map_or}
use Rattle.amqp_link_c.specs.Calls.{status_by, wrong_status}
use Rattle.amqp_link_c.specs.declared.link.LinkView.{LinkView}
use Rattle.amqp_link_endpoint.specs.AttachFields.{message_limit}
use Rattle.amqp_link_endpoint.specs.Detaching.{recorded}
use Rattle.amqp_link_endpoint.specs.LinkStates.{Call, next_state, state_without_session}
use Rattle.amqp_link_endpoint.specs.Shown.{Shown}
use Rattle.amqp_link_flat.specs.Numbers.{receiver_mode_number, sender_mode_number, state_number}
use Rattle.amqp_link_object.specs.declared.state.State.{State}
use Rattle.amqp_link_object.specs.declared.state.State.TheVariants as state
use Rattle.amqp_link_receiver.specs.ReceiverAttaches.{receiver_shown}
use Rattle.amqp_link_sender.specs.SenderAttaches.{sender_shown}
use Rattle.amqp_link_state.specs.declared.state.LinkState.{LinkState}
use Rattle.amqp_link_types.specs.Entries.{Entries}
use Rattle.amqp_link_types.specs.declared.types.definitions.Error.{Error}
use Rattle.amqp_link_types.specs.declared.types.definitions.OutputHandle.{OutputHandle}
use Rattle.amqp_link_types.specs.declared.types.terminus.TargetArchetype.TheVariants as archetype

-- the status of a call on a link of either role, if nothing else refuses it: 0 if the object has one
abbrev pub link_status_in : Option State → ℕ
link_status_in (Some (state.Sender l)) = 0
link_status_in (Some (state.Receiver s)) = 0
link_status_in other = wrong_status other

-- ---- what is seen

-- what a link shows, as C gets it
abbrev pub plain_link : {V : Type 0} → Shown (Entries V) → LinkView
plain_link s = record {
  max_message_size = unwrap_or (message_limit s.max_message_size) 0;
  unsettled = length s.unsettled;
  state = state_number s.local_state;
  output_handle = option_map_or (λ handle. handle.0) s.output_handle 0;
  input_handle = option_map_or (λ handle. handle.0) s.input_handle 0;
  delivery_count = s.flow_state.delivery_count;
  link_credit = s.flow_state.link_credit;
  snd_settle_mode = sender_mode_number s.snd_settle_mode;
  rcv_settle_mode = receiver_mode_number s.rcv_settle_mode;
  has_output_handle = is_some s.output_handle;
  has_input_handle = is_some s.input_handle;
  drain = s.flow_state.drain;
}

-- what the link in an object shows, if it has one
abbrev pub view_in : Option State → Option LinkView
view_in (Some (state.Sender l)) = Some (plain_link (sender_shown archetype.Target l.link))
view_in (Some (state.Receiver s)) = Some (plain_link (receiver_shown archetype.Target s.link))
view_in other = None

-- its name
abbrev pub name_in : Option State → Option (List ℕ)
name_in (Some (state.Sender l)) = Some l.link.name
name_in (Some (state.Receiver s)) = Some s.link.name
name_in other = None

-- its state
abbrev pub link_state_in : Option State → Option LinkState
link_state_in (Some (state.Sender l)) = Some l.link.local_state
link_state_in (Some (state.Receiver s)) = Some s.link.local_state
link_state_in other = None

-- its output handle, if it has one
abbrev pub output_handle_in : Option State → Option OutputHandle
output_handle_in (Some (state.Sender l)) = l.link.output_handle
output_handle_in (Some (state.Receiver s)) = s.link.output_handle
output_handle_in other = None

-- ---- what is set

-- the link with this output handle
abbrev pub with_output_handle : ℕ → Option State → Option State
with_output_handle n (Some (state.Sender l)) =
    Some (state.Sender (record l { link = record l.link { output_handle = Some (record { 0 = n }) } }))
with_output_handle n (Some (state.Receiver s)) =
    Some (state.Receiver (record s { link = record s.link { output_handle = Some (record { 0 = n }) } }))
with_output_handle n other = other

-- the link with this largest size of a frame
abbrev pub with_frame_limit : ℕ → Option State → Option State
with_frame_limit n (Some (state.Sender l)) =
    Some (state.Sender (record l { link = record l.link { max_frame_size = n } }))
with_frame_limit n (Some (state.Receiver s)) =
    Some (state.Receiver (record s { link = record s.link { max_frame_size = n } }))
with_frame_limit n other = other

-- the link after its session is lost: without handles, and nothing is under way
abbrev pub without_session : Option State → Option State
without_session (Some (state.Sender l)) = Some (state.Sender (record l {
  link = record l.link {
    local_state = state_without_session l.link.local_state;
    output_handle = None;
    input_handle = None;
  };
}))
without_session (Some (state.Receiver s)) = Some (state.Receiver (record s {
  link = record s.link {
    local_state = state_without_session s.link.local_state;
    output_handle = None;
    input_handle = None;
    more = false;
  };
  under_way = None;
}))
without_session other = other

-- ---- detaches

-- the link in the state after a detach, with its output handle released, if there is a transition
abbrev pub released_to : Option LinkState → Option State → Option State
released_to (Some next) (Some (state.Sender l)) =
    Some (state.Sender (record l { link = record l.link { local_state = next; output_handle = None } }))
released_to (Some next) (Some (state.Receiver s)) =
    Some (state.Receiver (record s { link = record s.link { local_state = next; output_handle = None } }))
released_to _ other = other

-- the state of the link in an object after this call, if it has a link and there is a transition
abbrev pub state_after_call : Call → Bool → Option State → Option LinkState
state_after_call call closed value = option_and_then (next_state call closed) (link_state_in value)

-- the status of a detach that is sent: illegal state without a transition or an output handle
abbrev pub sent_status : Option LinkState → Option OutputHandle → ℕ
sent_status (Some next) (Some handle) = 0
sent_status _ _ = 10

-- the status of a detach that is recorded: illegal state without a transition; else that of the error that it carries
abbrev pub recorded_status : {E : Type 0} → (E → ℕ) → (Bool → Error → E) → Option LinkState → Bool → Option Error → ℕ
recorded_status status_of named None closed error = 10
recorded_status status_of named (Some next) closed error = status_by status_of (recorded named closed error)
