-- How the target of the peer's attach is taken (OASIS AMQP 1.0 core, 3.5.4).
use Rattle.std.specs.Prelude.{Option, Some, None}
use Rattle.amqp_link_types.specs.declared.types.terminus.Target.{Target}
use Rattle.amqp_link_types.specs.declared.types.terminus.TargetArchetype.{TargetArchetype}
use Rattle.amqp_link_types.specs.declared.types.terminus.TargetArchetype.TheVariants as archetype

-- a plain target is taken as itself
abbrev pub plain_target : TargetArchetype → Option Target
plain_target (archetype.Target target) = Some target

-- the target of an attach as the link takes it: none if it is not of the link's kind
abbrev pub target_of : {T : Type 0} → (TargetArchetype → Option T) → Option TargetArchetype → Option T
target_of admitted None = None
target_of admitted (Some archetype) = admitted archetype
