-- What a link endpoint shows, and the attach that it states (OASIS AMQP 1.0 core, 2.6.3, 2.6.4 and 2.7.3).
use Rattle.std.specs.Prelude.{◌≡◌, ℕ, Bool, false, List, [], if◌then◌else◌, is_some, map, Option, None, Some, option_map, unwrap_or, Err}
use Rattle.amqp_link_state.specs.declared.state.LinkFlowStateInner.{LinkFlowStateInner}
use Rattle.amqp_link_state.specs.declared.state.LinkState.{LinkState}
use Rattle.amqp_link_state.specs.declared.state.LinkState.TheVariants.{Unattached}
use Rattle.amqp_link_types.specs.declared.types.attach.Attach.{Attach}
use Rattle.amqp_link_types.specs.declared.types.definitions.InputHandle.{InputHandle}
use Rattle.amqp_link_types.specs.declared.types.definitions.OutputHandle.{OutputHandle}
use Rattle.amqp_link_types.specs.declared.types.definitions.ReceiverSettleMode.{ReceiverSettleMode}
use Rattle.amqp_link_types.specs.declared.types.definitions.Role.{Role}
use Rattle.amqp_link_types.specs.declared.types.definitions.Role.TheVariants as role
use Rattle.amqp_link_types.specs.declared.types.definitions.SenderSettleMode.{SenderSettleMode}
use Rattle.amqp_link_types.specs.declared.types.delivery_state.DeliveryState.{DeliveryState}
use Rattle.amqp_link_types.specs.declared.types.terminus.Source.{Source}
use Rattle.amqp_link_types.specs.declared.types.terminus.TargetArchetype.{TargetArchetype}
use Rattle.amqp_link_types.specs.declared.delivery.UnsettledMessage.{UnsettledMessage}
use Rattle.amqp_link_types.specs.declared.types.errors.LinkStateError.TheVariants as link_error
use Rattle.amqp_link_types.specs.Deliveries.{Ended}
use Rattle.amqp_link_types.specs.Entries.{Entries}
use Rattle.amqp_link_endpoint.specs.declared.link_inner.LinkInner.{LinkInner}
use Rattle.amqp_link_endpoint.specs.AttachFields.{message_limit, smaller_limit, merged_properties, next_of}

-- What an endpoint shows. D is what it keeps of its unsettled deliveries.
pub record Shown (D : Type 0) : Type 0 where
  pub role : Role
  pub local_state : LinkState
  pub output_handle : Option OutputHandle
  pub input_handle : Option InputHandle
  pub name : List ℕ
  pub snd_settle_mode : SenderSettleMode
  pub rcv_settle_mode : ReceiverSettleMode
  pub source : Option Source
  -- the target, as it is sent
  pub target : Option TargetArchetype
  -- the largest message in bytes, 0 for no limit, and the largest frame, which is its header and its body
  pub max_message_size : ℕ
  pub max_frame_size : ℕ
  pub offered_capabilities : Option (List (List ℕ))
  pub desired_capabilities : Option (List (List ℕ))
  -- the delivery-counts, the link-credit, and the properties
  pub flow_state : LinkFlowStateInner
  -- its unsettled deliveries, what an attach states of them, and their outcomes if the link is reattached
  pub unsettled : D
  pub entries : Entries (Option DeliveryState)
  pub ended : List Ended

-- The delivery-count that an attach states: a receiver's initial one; a sender's initial one while it is
-- unattached, and its present one in each other state.
abbrev pub stated_count : Role → LinkState → LinkFlowStateInner → ℕ
stated_count role.Sender Unattached flow = flow.initial_delivery_count
stated_count role.Sender _ flow = flow.delivery_count
stated_count role.Receiver _ flow = flow.initial_delivery_count

-- the shared part of an endpoint after its attach was sent, which led to this state: the stated delivery-count is the
-- initial one
abbrev pub attached_inner : {R T : Type 0} → Role → LinkState → LinkInner R T → LinkInner R T
attached_inner role next inner = record inner {
  local_state = next;
  flow_state = record inner.flow_state { initial_delivery_count = stated_count role inner.local_state inner.flow_state };
}

-- of two values of a field that the sender decides, the own one at a sender, and the peer's at a receiver
abbrev pub decided_by_sender : {A : Type 0} → Role → A → A → A
decided_by_sender role.Sender own theirs = own
decided_by_sender role.Receiver own theirs = theirs

-- the same of a field that the receiver decides
abbrev pub decided_by_receiver : {A : Type 0} → Role → A → A → A
decided_by_receiver role.Sender own theirs = theirs
decided_by_receiver role.Receiver own theirs = own

-- what an exchange leaves of the unsettled deliveries: nothing at a sender, whose deliveries it resolves; a
-- receiver's stay
abbrev pub after_exchange : {A : Type 0} → Role → List A → List A
after_exchange role.Sender own = []
after_exchange role.Receiver own = own

-- the outcomes of a sender's deliveries if the link is reattached
abbrev pub all_illegal : Entries UnsettledMessage → List Ended
all_illegal entries = map (λ entry. (entry.0, Err link_error.IllegalState)) entries

-- What an endpoint of this role shows that has this shared part, by how its target is sent, by what it keeps of its
-- unsettled deliveries, what an attach states of them, and their outcomes if the link is reattached.
abbrev pub shown_of : {R T D : Type 0} → Role → (T → TargetArchetype) → LinkInner R T → D → Entries (Option DeliveryState) → List Ended → Shown D
shown_of role sent_as inner unsettled entries ended = record {
  role = role;
  local_state = inner.local_state;
  output_handle = inner.output_handle;
  input_handle = inner.input_handle;
  name = inner.name;
  snd_settle_mode = inner.snd_settle_mode;
  rcv_settle_mode = inner.rcv_settle_mode;
  source = inner.source;
  target = option_map sent_as inner.target;
  max_message_size = inner.max_message_size;
  max_frame_size = inner.max_frame_size;
  offered_capabilities = inner.offered_capabilities;
  desired_capabilities = inner.desired_capabilities;
  flow_state = inner.flow_state;
  unsettled = unsettled;
  entries = entries;
  ended = ended;
}

-- what it shows beside its unsettled deliveries
abbrev pub shown_alone : {R T : Type 0} → Role → (T → TargetArchetype) → LinkInner R T → Shown (Entries (Option DeliveryState))
shown_alone role sent_as inner = shown_of role sent_as inner [] [] []

-- it follows from the shared part and from the unsettled deliveries
pub shown_from : {R T D : Type 0} (role : Role) (sent_as : T → TargetArchetype) (stated : D → Entries (Option DeliveryState)) (ended : D → List Ended)
    {a b : LinkInner R T} {c d : D} → a ≡ b → c ≡ d
    → shown_of role sent_as a c (stated c) (ended c) ≡ shown_of role sent_as b d (stated d) (ended d)
shown_from role sent_as stated ended p q i = shown_of role sent_as (p i) (q i) (stated (q i)) (ended (q i))

module _ {D : Type 0} where
  abbrev pub count_stated : Shown D → ℕ
  count_stated s = stated_count s.role s.local_state s.flow_state

  -- the attach with this delivery-count at an output handle, without unsettled deliveries
  abbrev pub counted_attach : Shown D → ℕ → OutputHandle → Attach
  counted_attach s count handle = record {
    name = s.name;
    handle = record { 0 = handle.0 };
    role = s.role;
    snd_settle_mode = s.snd_settle_mode;
    rcv_settle_mode = s.rcv_settle_mode;
    source = s.source;
    target = s.target;
    unsettled = None;
    incomplete_unsettled = false;
    initial_delivery_count = Some count;
    max_message_size = message_limit s.max_message_size;
    offered_capabilities = s.offered_capabilities;
    desired_capabilities = s.desired_capabilities;
    properties = s.flow_state.properties;
  }

  -- the attach that the endpoint states, without its unsettled deliveries
  abbrev pub attach_stated : Shown D → OutputHandle → Attach
  attach_stated s handle = counted_attach s (count_stated s) handle

  -- the endpoint after its attach was sent, which led to this state: the stated delivery-count is the initial
  -- one
  abbrev pub shown_attached : Shown D → LinkState → Shown D
  shown_attached s state = record s {
    local_state = state;
    flow_state = record s.flow_state { initial_delivery_count = count_stated s };
  }

  -- the first record with the state, the input handle, the settle modes and the termini of the second: what a
  -- refused attach may change
  abbrev pub with_terms_of : Shown D → Shown D → Shown D
  with_terms_of s t = record s {
    local_state = t.local_state;
    input_handle = t.input_handle;
    snd_settle_mode = t.snd_settle_mode;
    rcv_settle_mode = t.rcv_settle_mode;
    source = t.source;
    target = t.target;
  }

module _ {V : Type 0} where
  -- what it shows as its attach is sent, by whether it is reattached: without its unsettled deliveries then
  abbrev pub shown_kept : Bool → Shown (Entries V) → Shown (Entries V)
  shown_kept anew s = if anew then record s { unsettled = []; entries = []; ended = [] } else s

  -- The endpoint after it has taken an attach, with this target: the sender decides its settle mode, the
  -- source and the delivery-counts, the receiver its settle mode and the target. The exchange resolves a
  -- sender's deliveries.
  abbrev pub shown_taken : Shown (Entries V) → Option TargetArchetype → Attach → Shown (Entries V)
  shown_taken s target attach = record s {
    local_state = unwrap_or (next_of s.local_state attach) s.local_state;
    input_handle = if is_some (next_of s.local_state attach) then Some (record { 0 = attach.handle.0 }) else s.input_handle;
    snd_settle_mode = decided_by_sender s.role s.snd_settle_mode attach.snd_settle_mode;
    rcv_settle_mode = decided_by_receiver s.role s.rcv_settle_mode attach.rcv_settle_mode;
    source = decided_by_sender s.role s.source attach.source;
    target = target;
    max_message_size = smaller_limit s.max_message_size attach.max_message_size;
    flow_state = record s.flow_state {
      initial_delivery_count = decided_by_sender s.role s.flow_state.initial_delivery_count (unwrap_or attach.initial_delivery_count 0);
      delivery_count = decided_by_sender s.role s.flow_state.delivery_count (unwrap_or attach.initial_delivery_count 0);
      properties = merged_properties s.flow_state.properties attach.properties;
    };
    unsettled = after_exchange s.role s.unsettled;
    entries = after_exchange s.role s.entries;
    ended = after_exchange s.role s.ended;
  }
