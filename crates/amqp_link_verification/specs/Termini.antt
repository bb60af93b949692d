-- Why a terminus of the peer's attach is refused (OASIS AMQP 1.0 core, 3.5.3, 3.5.4 and 3.5.8).
use Rattle.std.specs.Prelude.{ℕ, Bool, true, false, not, ◌&&◌, List, [], ◌∷◌, Option, None, Some, is_some, is_none, Result, Ok, Err}
use Rattle.amqp_link_types.specs.declared.types.errors.SenderAttachError.{SenderAttachError}
use Rattle.amqp_link_types.specs.declared.types.errors.SenderAttachError.TheVariants as sender
use Rattle.amqp_link_types.specs.declared.types.errors.ReceiverAttachError.{ReceiverAttachError}
use Rattle.amqp_link_types.specs.declared.types.errors.ReceiverAttachError.TheVariants as receiver
use Rattle.amqp_link_types.specs.declared.types.terminus.Source.{Source}
use Rattle.amqp_link_types.specs.declared.types.terminus.Target.{Target}
use Rattle.amqp_link_types.specs.declared.types.terminus.TargetArchetype.{TargetArchetype}
use Rattle.amqp_link_types.specs.declared.types.terminus.TargetArchetype.TheVariants as archetype
use Rattle.amqp_link_types.specs.Refusals.{refusal}
use Rattle.amqp_link_verification.specs.Filters.{filters_missing}

-- the result of a verification that refuses for this reason, or for none
abbrev pub verdict : {E : Type 0} → Option E → Result (Unit {0}) E
verdict None = Ok tt
verdict (Some error) = Err error

-- Why a sender refuses the receiver's source: it has an address, though the sender is to create the source;
-- or it has properties of a dynamic node, though it is not dynamic.
abbrev pub sender_refuses_source : Source → Option SenderAttachError
sender_refuses_source theirs = refusal (
    (theirs.dynamic && is_some theirs.address, sender.SourceAddressIsSomeWhenDynamicIsTrue)
    ∷ (not theirs.dynamic && is_some theirs.dynamic_node_properties, sender.DynamicNodePropertiesIsSomeWhenDynamicIsFalse)
    ∷ [])

-- the filters that a receiver's source asks for, and that are not in place at the sender's
abbrev pub missing_in : Source → Source → List (List ℕ)
missing_in own theirs = filters_missing own.filter theirs.filter

abbrev pub are_some : List (List ℕ) → Bool
are_some [] = false
are_some (name ∷ names) = true

-- Why a receiver refuses the sender's source: filters are missing; it has no address, though the sender has
-- created the source; or it has properties of a dynamic node, though it is not dynamic.
abbrev pub receiver_refuses_source : Source → Source → Option ReceiverAttachError
receiver_refuses_source own theirs = refusal (
    (are_some (missing_in own theirs), receiver.DesiredFilterNotSupported (missing_in own theirs))
    ∷ (theirs.dynamic && is_none theirs.address, receiver.SourceAddressIsNoneWhenDynamicIsTrue)
    ∷ (not theirs.dynamic && is_some theirs.dynamic_node_properties, receiver.DynamicNodePropertiesIsSomeWhenDynamicIsFalse)
    ∷ [])

-- Why a sender refuses the receiver's target: it has no address, though the receiver has created the target;
-- or it has properties of a dynamic node, though it is not dynamic.
abbrev pub sender_refuses_target : Target → Option SenderAttachError
sender_refuses_target theirs = refusal (
    (theirs.dynamic && is_none theirs.address, sender.TargetAddressIsNoneWhenDynamicIsTrue)
    ∷ (not theirs.dynamic && is_some theirs.dynamic_node_properties, sender.DynamicNodePropertiesIsSomeWhenDynamicIsFalse)
    ∷ [])

-- Why a receiver refuses the sender's target: it has an address, though the receiver is to create the target;
-- or it has properties of a dynamic node, though it is not dynamic.
abbrev pub receiver_refuses_target : Target → Option ReceiverAttachError
receiver_refuses_target theirs = refusal (
    (theirs.dynamic && is_some theirs.address, receiver.TargetAddressIsSomeWhenDynamicIsTrue)
    ∷ (not theirs.dynamic && is_some theirs.dynamic_node_properties, receiver.DynamicNodePropertiesIsSomeWhenDynamicIsFalse)
    ∷ [])

-- the same of a target of any kind
abbrev pub sender_refuses_archetype : TargetArchetype → Option SenderAttachError
sender_refuses_archetype (archetype.Target theirs) = sender_refuses_target theirs

abbrev pub receiver_refuses_archetype : TargetArchetype → Option ReceiverAttachError
receiver_refuses_archetype (archetype.Target theirs) = receiver_refuses_target theirs
