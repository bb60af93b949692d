-- A link endpoint as its callers see it, and the part of it that both roles hold alike (OASIS AMQP 1.0 core, 2.6).
use Rattle.std.specs.Prelude.{ℕ, Bool, List, Option, None}
use Rattle.amqp_link_values.specs.Data.{Data}
use Rattle.amqp_link_state.specs.declared.state.LinkFlowStateInner.{LinkFlowStateInner}
use Rattle.amqp_link_state.specs.declared.state.LinkState.{LinkState}
use Rattle.amqp_link_state.specs.declared.state.LinkState.TheVariants.{Unattached}
use Rattle.amqp_link_types.specs.declared.types.definitions.InputHandle.{InputHandle}
use Rattle.amqp_link_types.specs.declared.types.definitions.OutputHandle.{OutputHandle}
use Rattle.amqp_link_types.specs.declared.types.definitions.ReceiverSettleMode.{ReceiverSettleMode}
use Rattle.amqp_link_types.specs.declared.types.definitions.SenderSettleMode.{SenderSettleMode}
use Rattle.amqp_link_types.specs.declared.types.terminus.Source.{Source}
use Rattle.amqp_link_endpoint.specs.declared.link_inner.LinkInner.{LinkInner}
use Rattle.amqp_link_endpoint.specs.declared.link_parts.LinkParts.{LinkParts}
use Rattle.amqp_link_endpoint.specs.LinkStates.{state_without_session}

-- What a caller sees of a link endpoint with a target of type T. D is what it keeps of its unsettled deliveries, and M
-- what it knows of the delivery that is under way: at a sender nothing.
pub record Endpoint (T D M : Type 0) : Type 0 where
  pub local_state : LinkState
  pub name : List ℕ
  pub snd_settle_mode : SenderSettleMode
  pub rcv_settle_mode : ReceiverSettleMode
  pub source : Option Source
  pub target : Option T
  -- the largest message in bytes, 0 for no limit, and the largest frame, which is its header and its body
  pub max_message_size : ℕ
  pub offered_capabilities : Option (List (List ℕ))
  pub desired_capabilities : Option (List (List ℕ))
  pub output_handle : Option OutputHandle
  pub input_handle : Option InputHandle
  pub flow_state : LinkFlowStateInner
  pub max_frame_size : ℕ
  -- whether it verifies the termini of an attach that arrives
  pub verify_incoming_source : Bool
  pub verify_incoming_target : Bool
  pub unsettled : D
  -- at a receiver, whether the last transfer that has arrived since the peer's attach had more = true
  pub more : M

-- ---- the part of an endpoint that both roles hold alike

module _ {R T : Type 0} where
  -- what is made of these parts: not attached, without handles
  abbrev pub inner_of_parts : LinkParts T → LinkInner R T
  inner_of_parts parts = record {
    local_state = Unattached;
    name = parts.name;
    snd_settle_mode = parts.snd_settle_mode;
    rcv_settle_mode = parts.rcv_settle_mode;
    source = parts.source;
    target = parts.target;
    max_message_size = parts.max_message_size;
    offered_capabilities = parts.offered_capabilities;
    desired_capabilities = parts.desired_capabilities;
    output_handle = None;
    input_handle = None;
    flow_state = parts.flow_state;
    max_frame_size = parts.max_frame_size;
    verify_incoming_source = parts.verify_incoming_source;
    verify_incoming_target = parts.verify_incoming_target;
  }

  -- in another state, with its output handle released
  abbrev pub released : LinkState → LinkInner R T → LinkInner R T
  released next inner = record inner { local_state = next; output_handle = None }

  -- with other properties
  abbrev pub with_properties : Option (List (List ℕ × Data)) → LinkInner R T → LinkInner R T
  with_properties properties inner =
      record inner { flow_state = record inner.flow_state { properties = properties } }

  -- after the session is lost: without handles
  abbrev pub without_session : LinkInner R T → LinkInner R T
  without_session inner = record inner {
    local_state = state_without_session inner.local_state;
    output_handle = None;
    input_handle = None;
  }

module _ {R T D M : Type 0} where
  -- the endpoint that is made of this shared part, these unsettled deliveries and this delivery under way
  abbrev pub endpoint_of : LinkInner R T → D → M → Endpoint T D M
  endpoint_of inner unsettled more = record {
    local_state = inner.local_state;
    name = inner.name;
    snd_settle_mode = inner.snd_settle_mode;
    rcv_settle_mode = inner.rcv_settle_mode;
    source = inner.source;
    target = inner.target;
    max_message_size = inner.max_message_size;
    offered_capabilities = inner.offered_capabilities;
    desired_capabilities = inner.desired_capabilities;
    output_handle = inner.output_handle;
    input_handle = inner.input_handle;
    flow_state = inner.flow_state;
    max_frame_size = inner.max_frame_size;
    verify_incoming_source = inner.verify_incoming_source;
    verify_incoming_target = inner.verify_incoming_target;
    unsettled = unsettled;
    more = more;
  }

  -- the shared part of an endpoint
  abbrev pub inner_of : Endpoint T D M → LinkInner R T
  inner_of link = record {
    local_state = link.local_state;
    name = link.name;
    snd_settle_mode = link.snd_settle_mode;
    rcv_settle_mode = link.rcv_settle_mode;
    source = link.source;
    target = link.target;
    max_message_size = link.max_message_size;
    offered_capabilities = link.offered_capabilities;
    desired_capabilities = link.desired_capabilities;
    output_handle = link.output_handle;
    input_handle = link.input_handle;
    flow_state = link.flow_state;
    max_frame_size = link.max_frame_size;
    verify_incoming_source = link.verify_incoming_source;
    verify_incoming_target = link.verify_incoming_target;
  }

  -- the endpoint with another shared part
  abbrev pub with_inner : Endpoint T D M → LinkInner R T → Endpoint T D M
  with_inner link inner = endpoint_of inner link.unsettled link.more
