-- What C makes of an attach, and reads of one (OASIS AMQP 1.0 core, 2.7.3).
use Rattle.std.specs.Prelude.{ℕ, List, [], Option, Some, None, option_and_then, slice_get, unwrap_or}
use Rattle.amqp_link_endpoint.specs.AttachFields.{remote_entries}
use Rattle.amqp_link_flat.specs.Flat.{rejection_error_of}
use Rattle.amqp_link_object.specs.States.{attach_in}
use Rattle.amqp_link_object.specs.declared.state.State.{State}
use Rattle.amqp_link_types.specs.Entries.{Entries, with_entry}
use Rattle.amqp_link_types.specs.declared.types.attach.Attach.{Attach}
use Rattle.amqp_link_types.specs.declared.types.definitions.Error.{Error}
use Rattle.amqp_link_types.specs.declared.types.delivery_state.DeliveryState.{DeliveryState}
use Rattle.amqp_link_types.specs.declared.types.terminus.Source.{Source}
use Rattle.amqp_link_types.specs.declared.types.terminus.Target.{Target}
use Rattle.amqp_link_types.specs.declared.types.terminus.TargetArchetype.{TargetArchetype}
use Rattle.amqp_link_types.specs.declared.types.terminus.TargetArchetype.TheVariants as archetype

-- the attach with this unsettled delivery: in the place of the one with the same tag, or last
abbrev pub with_unsettled : List ℕ → Option DeliveryState → Attach → Attach
with_unsettled tag state a = record a { unsettled = Some (with_entry (remote_entries a) tag state) }

-- the address of a source; no bytes if there is none
abbrev pub source_address : Option Source → List ℕ
source_address None = []
source_address (Some s) = unwrap_or s.address []

-- the address of a target
abbrev pub target_address : Option TargetArchetype → List ℕ
target_address None = []
target_address (Some (archetype.Target t)) = unwrap_or t.address []

-- the target as an attach states it
abbrev pub as_archetype : Option Target → Option TargetArchetype
as_archetype None = None
as_archetype (Some t) = Some (archetype.Target t)

-- the unsettled deliveries of an attach, if it is one
abbrev pub unsettled_of : Option Attach → Entries (Option DeliveryState)
unsettled_of None = []
unsettled_of (Some a) = remote_entries a

-- those that the attach in an object states; none if it has another kind
abbrev pub unsettled_in : Option State → Entries (Option DeliveryState)
unsettled_in value = unsettled_of (attach_in value)

-- the error of the rejection that an attach states of the delivery with this number, if it is one with an error
abbrev pub stated_error_at : ℕ → Attach → Option Error
stated_error_at number a = option_and_then (λ entry. option_and_then rejection_error_of entry.1) (slice_get (remote_entries a) number)
