-- Attaches, termini and what a link is made with, as C passes and gets them (OASIS AMQP 1.0 core, 2.7.3 and 3.5).
use Rattle.std.specs.Prelude.{ℕ, List, Option, Some, None, option_map, if◌then◌else◌, is_some, unwrap_or, true, false, IsTrue, IsUtf8}
use Rattle.amqp_link_endpoint.specs.declared.link_parts.LinkParts.{LinkParts}
use Rattle.amqp_link_flat.specs.Flat.{given}
use Rattle.amqp_link_flat.specs.Numbers.{both, role_of, settle_modes_of, policies_of}
use Rattle.amqp_link_flat.specs.Numbers.{role_number, sender_mode_number, receiver_mode_number}
use Rattle.amqp_link_flat.specs.Numbers.{durability_number, expiry_number}
use Rattle.amqp_link_flat.specs.declared.attach.AttachFields.{AttachFields}
use Rattle.amqp_link_flat.specs.declared.attach.Terminus.{Terminus}
use Rattle.amqp_link_flat.specs.declared.terms.Terms.{Terms}
use Rattle.amqp_link_types.specs.declared.types.attach.Attach.{Attach}
use Rattle.amqp_link_types.specs.declared.types.definitions.Role.{Role}
use Rattle.amqp_link_types.specs.declared.types.definitions.ReceiverSettleMode.{ReceiverSettleMode}
use Rattle.amqp_link_types.specs.declared.types.definitions.SenderSettleMode.{SenderSettleMode}
use Rattle.amqp_link_types.specs.declared.types.terminus.Source.{Source}
use Rattle.amqp_link_types.specs.declared.types.terminus.Target.{Target}
use Rattle.amqp_link_types.specs.declared.types.terminus.TargetArchetype.{TargetArchetype}
use Rattle.amqp_link_types.specs.declared.types.terminus.TargetArchetype.TheVariants as archetype
use Rattle.amqp_link_types.specs.declared.types.terminus.TerminusDurability.{TerminusDurability}
use Rattle.amqp_link_types.specs.declared.types.terminus.TerminusExpiryPolicy.{TerminusExpiryPolicy}

-- ---- attaches

-- the attach with this name, role and modes, without termini and unsettled deliveries
abbrev pub attach_with : AttachFields → List ℕ → Role → SenderSettleMode × ReceiverSettleMode → Attach
attach_with a name role modes = record {
  name = name;
  handle = record { 0 = a.handle };
  role = role;
  snd_settle_mode = modes.0;
  rcv_settle_mode = modes.1;
  source = None;
  target = None;
  unsettled = None;
  incomplete_unsettled = a.incomplete_unsettled;
  initial_delivery_count = given a.has_initial_delivery_count a.initial_delivery_count;
  max_message_size = given a.has_max_message_size a.max_message_size;
  offered_capabilities = None;
  desired_capabilities = None;
  properties = None;
}

-- the attach that C passes, with this name; nothing if a number stands for nothing
abbrev pub stated_attach : AttachFields → List ℕ → Option Attach
stated_attach a name =
    both (attach_with a name) (role_of a.role) (settle_modes_of a.snd_settle_mode a.rcv_settle_mode)

-- an attach as C gets it
abbrev pub plain_attach : Attach → AttachFields
plain_attach a = record {
  max_message_size = unwrap_or a.max_message_size 0;
  handle = a.handle.0;
  role = role_number a.role;
  snd_settle_mode = sender_mode_number a.snd_settle_mode;
  rcv_settle_mode = receiver_mode_number a.rcv_settle_mode;
  initial_delivery_count = unwrap_or a.initial_delivery_count 0;
  has_max_message_size = is_some a.max_message_size;
  has_initial_delivery_count = is_some a.initial_delivery_count;
  incomplete_unsettled = a.incomplete_unsettled;
}

-- ---- termini

-- the durability and the expiry policy, if there is a terminus; nothing if a number stands for nothing
abbrev pub stated_policies : Terminus → Option (Option (TerminusDurability × TerminusExpiryPolicy))
stated_policies t = if t.is_there then option_map Some (policies_of t.durable t.expiry_policy) else Some None

-- the source with this address and these policies: no filters, capabilities or properties
abbrev pub source_with : Terminus → List ℕ → TerminusDurability × TerminusExpiryPolicy → Source
source_with t address policies = record {
  address = given t.has_address address;
  durable = policies.0;
  expiry_policy = policies.1;
  timeout = t.timeout;
  dynamic = t.dynamic;
  dynamic_node_properties = None;
  distribution_mode = None;
  filter = None;
  default_outcome = None;
  outcomes = None;
  capabilities = None;
}

-- the target with this address and these policies: no capabilities or properties
abbrev pub target_with : Terminus → List ℕ → TerminusDurability × TerminusExpiryPolicy → Target
target_with t address policies = record {
  address = given t.has_address address;
  durable = policies.0;
  expiry_policy = policies.1;
  timeout = t.timeout;
  dynamic = t.dynamic;
  dynamic_node_properties = None;
  capabilities = None;
}

-- there is a terminus that has an address
abbrev pub CarriesAddress : Terminus → Type 0
CarriesAddress t = IsTrue t.is_there × IsTrue t.has_address

-- the bytes are in UTF-8, if they are the address of a terminus
abbrev pub IsAddress : Terminus → List ℕ → Type 0
IsAddress t address = CarriesAddress t → IsUtf8 address

-- the name of a link and the addresses that its termini have are in UTF-8
abbrev pub AreLinkTexts : Terminus → Terminus → List ℕ → List ℕ → List ℕ → Type 0
AreLinkTexts source target name source_address target_address =
    IsUtf8 name × IsAddress source source_address × IsAddress target target_address

-- the source that C passes, if there is one; nothing if a number stands for nothing
abbrev pub stated_source : Terminus → List ℕ → Option (Option Source)
stated_source t address = option_map (option_map (source_with t address)) (stated_policies t)

-- the target that C passes, if there is one; nothing if a number stands for nothing
abbrev pub stated_target : Terminus → List ℕ → Option (Option Target)
stated_target t address = option_map (option_map (target_with t address)) (stated_policies t)

-- no terminus
abbrev pub no_terminus : Terminus
no_terminus = record {
  durable = 0;
  expiry_policy = 0;
  timeout = 0;
  is_there = false;
  has_address = false;
  dynamic = false;
}

-- a source as C gets it
abbrev pub plain_source : Option Source → Terminus
plain_source None = no_terminus
plain_source (Some s) = record {
  durable = durability_number s.durable;
  expiry_policy = expiry_number s.expiry_policy;
  timeout = s.timeout;
  is_there = true;
  has_address = is_some s.address;
  dynamic = s.dynamic;
}

-- a target as C gets it
abbrev pub plain_target : Option TargetArchetype → Terminus
plain_target None = no_terminus
plain_target (Some (archetype.Target t)) = record {
  durable = durability_number t.durable;
  expiry_policy = expiry_number t.expiry_policy;
  timeout = t.timeout;
  is_there = true;
  has_address = is_some t.address;
  dynamic = t.dynamic;
}

-- ---- what a link is made with

-- the parts of a link with this name, these modes and these termini; its flow state begins at the initial
-- delivery-count
abbrev pub parts_with : Terms → List ℕ → SenderSettleMode × ReceiverSettleMode → Option Source × Option Target
    → LinkParts Target
parts_with t name modes termini = record {
  name = name;
  snd_settle_mode = modes.0;
  rcv_settle_mode = modes.1;
  source = termini.0;
  target = termini.1;
  max_message_size = t.max_message_size;
  offered_capabilities = None;
  desired_capabilities = None;
  flow_state = record {
    initial_delivery_count = t.initial_delivery_count;
    delivery_count = t.initial_delivery_count;
    link_credit = 0;
    available = 0;
    drain = false;
    properties = None;
  };
  max_frame_size = t.max_frame_size;
  verify_incoming_source = t.verify_incoming_source;
  verify_incoming_target = t.verify_incoming_target;
}

-- the parts that C passes, with both termini and all texts; nothing if a number stands for nothing
abbrev pub stated_parts : Terms → Terminus → Terminus → List ℕ → List ℕ → List ℕ → Option (LinkParts Target)
stated_parts t source target name source_address target_address =
    both (parts_with t name) (settle_modes_of t.snd_settle_mode t.rcv_settle_mode)
    (both (λ s t. (s, t)) (stated_source source source_address) (stated_target target target_address))
