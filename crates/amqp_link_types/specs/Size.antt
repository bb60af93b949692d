-- How many bytes a performative and its parts take, each in its shortest code (OASIS AMQP 1.0
-- core, 1.6, 2.7 and 3.4). A length is a sum over the list of a type's fields, in the order of the
-- standard's table.
use Rattle.std.specs.Prelude.{◌+◌, ◌==◌, if◌then◌else◌, [], ◌∷◌}
use Rattle.std.specs.Prelude.{ℕ, Bool, true, false, List, sum_by, codes, Option, Some, None, option_map}
use Rattle.amqp_link_values.specs.Length.{bool_len, uint_len, ulong_len, bytes_len, compound_len, array_len, fields_len}
use Rattle.amqp_link_types.specs.Entries.{Tag, Entries}
use Rattle.amqp_link_values.specs.Data.{Data}
use Rattle.amqp_link_types.specs.declared.types.attach.Attach.{Attach}
use Rattle.amqp_link_types.specs.declared.types.definitions.Error.{Error}
use Rattle.amqp_link_types.specs.declared.types.definitions.ReceiverSettleMode.{ReceiverSettleMode}
use Rattle.amqp_link_types.specs.declared.types.definitions.ReceiverSettleMode.TheVariants as rcv_mode
use Rattle.amqp_link_types.specs.declared.types.definitions.Role.{Role}
use Rattle.amqp_link_types.specs.declared.types.definitions.SenderSettleMode.{SenderSettleMode}
use Rattle.amqp_link_types.specs.declared.types.definitions.SenderSettleMode.TheVariants as snd_mode
use Rattle.amqp_link_types.specs.declared.types.delivery_state.DeliveryState.{DeliveryState}
use Rattle.amqp_link_types.specs.declared.types.delivery_state.DeliveryState.TheVariants as state
use Rattle.amqp_link_types.specs.declared.types.delivery_state.Outcome.{Outcome}
use Rattle.amqp_link_types.specs.declared.types.delivery_state.Outcome.TheVariants as outcome
use Rattle.amqp_link_types.specs.declared.types.terminus.DistributionMode.{DistributionMode}
use Rattle.amqp_link_types.specs.declared.types.terminus.DistributionMode.TheVariants as distribution
use Rattle.amqp_link_types.specs.declared.types.terminus.Source.{Source}
use Rattle.amqp_link_types.specs.declared.types.terminus.Target.{Target}
use Rattle.amqp_link_types.specs.declared.types.terminus.TargetArchetype.{TargetArchetype}
use Rattle.amqp_link_types.specs.declared.types.terminus.TargetArchetype.TheVariants as archetype
use Rattle.amqp_link_types.specs.declared.types.terminus.TerminusDurability.{TerminusDurability}
use Rattle.amqp_link_types.specs.declared.types.terminus.TerminusDurability.TheVariants as durable
use Rattle.amqp_link_types.specs.declared.types.terminus.TerminusExpiryPolicy.{TerminusExpiryPolicy}
use Rattle.amqp_link_types.specs.declared.types.terminus.TerminusExpiryPolicy.TheVariants as expiry
use Rattle.amqp_link_types.specs.declared.types.transfer.Transfer.{Transfer}

-- ---- described lists, by the lengths of their fields: None is a field that is absent, or has its
-- ---- default

-- a field before others that take `rest` bytes: a null takes a byte only if something follows it
unfoldable pub before : Option ℕ → ℕ → ℕ
before None rest = if rest == 0 then 0 else 1 + rest
before (Some n) rest = n + rest

-- the fields, without the nulls at the end
abbrev pub content : List (Option ℕ) → ℕ
content [] = 0
content (f ∷ fs) = before f (content fs)

-- three bytes of descriptor (00, 53 and a code), and the list: one without fields has a code of
-- its own, 45
unfoldable pub list_of : ℕ → ℕ
list_of c = if c == 0 then 4 else 3 + compound_len c

-- a described list of these fields
abbrev pub described_len : List (Option ℕ) → ℕ
described_len fields = list_of (content fields)

-- ---- kinds of fields

-- a flag whose default is false: true is 41
abbrev pub flag : Bool → Option ℕ
flag false = None
flag true = Some 1

-- a settle mode that is present is a number of 8 bits (2.8.3)
abbrev pub mode_len : ReceiverSettleMode → ℕ
mode_len mode = 2

-- the role of an endpoint, a truth value (2.8.1)
abbrev pub role_len : Role → ℕ
role_len role = 1

-- the settle modes of an attach, numbers of 8 bits, by default mixed and first (2.7.3)
abbrev pub snd_mode_field : SenderSettleMode → Option ℕ
snd_mode_field snd_mode.Unsettled = Some 2
snd_mode_field snd_mode.Settled = Some 2
snd_mode_field snd_mode.Mixed = None

abbrev pub rcv_mode_field : ReceiverSettleMode → Option ℕ
rcv_mode_field rcv_mode.First = None
rcv_mode_field rcv_mode.Second = Some 2

-- a terminus's durability, by its number: none, which is 0, by default (3.5.5)
abbrev pub durable_field : TerminusDurability → Option ℕ
durable_field durable.None = None
durable_field durable.Configuration = Some (uint_len 1)
durable_field durable.UnsettledState = Some (uint_len 2)

-- when a terminus expires, by its symbol: when the session ends by default (3.5.6)
abbrev pub expiry_field : TerminusExpiryPolicy → Option ℕ
expiry_field expiry.LinkDetach = Some (bytes_len (codes "link-detach"))
expiry_field expiry.SessionEnd = None
expiry_field expiry.ConnectionClose = Some (bytes_len (codes "connection-close"))
expiry_field expiry.Never = Some (bytes_len (codes "never"))

-- a terminus's timeout, 0 by default (3.5.3)
abbrev pub timeout_field : ℕ → Option ℕ
timeout_field seconds = if seconds == 0 then None else Some (uint_len seconds)

-- how messages are distributed, by its symbol (3.5.7)
abbrev pub distribution_len : DistributionMode → ℕ
distribution_len distribution.Move = bytes_len (codes "move")
distribution_len distribution.Copy = bytes_len (codes "copy")

-- ---- errors and states

-- an error (2.8.14)
abbrev pub error_len : Error → ℕ
error_len e = described_len (
    Some (bytes_len e.condition)
    ∷ option_map bytes_len e.description
    ∷ option_map fields_len e.info
    ∷ [])

-- a rejected delivery's state (3.4.3)
abbrev pub rejected_len : Option Error → ℕ
rejected_len error = described_len (option_map error_len error ∷ [])

-- a modified delivery's state (3.4.5); its flags have no default
abbrev pub modified_len : Option Bool → Option Bool → Option (List (List ℕ × Data)) → ℕ
modified_len failed undeliverable annotations = described_len (
    option_map bool_len failed
    ∷ option_map bool_len undeliverable
    ∷ option_map fields_len annotations
    ∷ [])

-- a delivery's state (3.4); the numbers of a received one have no default
abbrev pub state_len : DeliveryState → ℕ
state_len state.Accepted = described_len []
state_len (state.Rejected error) = rejected_len error
state_len state.Released = described_len []
state_len (state.Modified failed undeliverable annotations) =
    modified_len failed undeliverable annotations
state_len (state.Received number offset) =
    described_len (Some (uint_len number) ∷ Some (ulong_len offset) ∷ [])

-- an outcome (3.4)
abbrev pub outcome_len : Outcome → ℕ
outcome_len outcome.Accepted = described_len []
outcome_len (outcome.Rejected error) = rejected_len error
outcome_len outcome.Released = described_len []
outcome_len (outcome.Modified failed undeliverable annotations) =
    modified_len failed undeliverable annotations

-- ---- termini

-- a source (3.5.3)
abbrev pub source_len : Source → ℕ
source_len s = described_len (
    option_map bytes_len s.address
    ∷ durable_field s.durable
    ∷ expiry_field s.expiry_policy
    ∷ timeout_field s.timeout
    ∷ flag s.dynamic
    ∷ option_map fields_len s.dynamic_node_properties
    ∷ option_map distribution_len s.distribution_mode
    ∷ option_map fields_len s.filter
    ∷ option_map outcome_len s.default_outcome
    ∷ option_map array_len s.outcomes
    ∷ option_map array_len s.capabilities
    ∷ [])

-- a target (3.5.4)
abbrev pub target_len : Target → ℕ
target_len t = described_len (
    option_map bytes_len t.address
    ∷ durable_field t.durable
    ∷ expiry_field t.expiry_policy
    ∷ timeout_field t.timeout
    ∷ flag t.dynamic
    ∷ option_map fields_len t.dynamic_node_properties
    ∷ option_map array_len t.capabilities
    ∷ [])

-- a target of any kind
abbrev pub archetype_len : TargetArchetype → ℕ
archetype_len (archetype.Target t) = target_len t

-- ---- performatives

-- an entry of an attach's map: a tag, and a state or null (2.7.3)
abbrev pub entry_len : Tag × Option DeliveryState → ℕ
entry_len (tag, None) = bytes_len tag + 1
entry_len (tag, Some state) = bytes_len tag + state_len state

-- an attach's map
abbrev pub unsettled_len : Entries (Option DeliveryState) → ℕ
unsettled_len entries = compound_len (sum_by entry_len entries)

-- an attach (2.7.3)
unfoldable pub attach_len : Attach → ℕ
attach_len a = described_len (
    Some (bytes_len a.name)
    ∷ Some (uint_len a.handle.0)
    ∷ Some (role_len a.role)
    ∷ snd_mode_field a.snd_settle_mode
    ∷ rcv_mode_field a.rcv_settle_mode
    ∷ option_map source_len a.source
    ∷ option_map archetype_len a.target
    ∷ option_map unsettled_len a.unsettled
    ∷ flag a.incomplete_unsettled
    ∷ option_map uint_len a.initial_delivery_count
    ∷ option_map ulong_len a.max_message_size
    ∷ option_map array_len a.offered_capabilities
    ∷ option_map array_len a.desired_capabilities
    ∷ option_map fields_len a.properties
    ∷ [])

-- the fields of a transfer that follow its tag
abbrev pub len_after_tag : Transfer → ℕ
len_after_tag t = content (
    option_map uint_len t.message_format
    ∷ option_map bool_len t.settled
    ∷ flag t.more
    ∷ option_map mode_len t.rcv_settle_mode
    ∷ option_map state_len t.state
    ∷ flag t.resume
    ∷ flag t.aborted
    ∷ flag t.batchable
    ∷ [])

-- a transfer of which the tag and the fields that follow it have this length
abbrev pub len_from_tag : Transfer → ℕ → ℕ
len_from_tag t rest =
    list_of (before (Some (uint_len t.handle.0)) (before (option_map uint_len t.delivery_id) rest))

-- a transfer (2.7.5)
unfoldable pub transfer_len : Transfer → ℕ
transfer_len t = described_len (
    Some (uint_len t.handle.0)
    ∷ option_map uint_len t.delivery_id
    ∷ option_map bytes_len t.delivery_tag
    ∷ option_map uint_len t.message_format
    ∷ option_map bool_len t.settled
    ∷ flag t.more
    ∷ option_map mode_len t.rcv_settle_mode
    ∷ option_map state_len t.state
    ∷ flag t.resume
    ∷ flag t.aborted
    ∷ flag t.batchable
    ∷ [])
