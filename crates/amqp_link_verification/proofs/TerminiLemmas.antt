-- The first test of a source that a receiver verifies.
use Rattle.std.proofs.Common.{◌≡◌, ◌≢◌, [], ◌∷◌, refl, ℕ, Bool, List, Some}
use Rattle.std.specs.Prelude.{not, ◌&&◌, is_none, is_some}
use Rattle.amqp_link_types.specs.Refusals.{refusal}
use Rattle.amqp_link_types.specs.declared.types.errors.ReceiverAttachError.{ReceiverAttachError}
use Rattle.amqp_link_types.specs.declared.types.errors.ReceiverAttachError.TheVariants.{DesiredFilterNotSupported, SourceAddressIsNoneWhenDynamicIsTrue, DynamicNodePropertiesIsSomeWhenDynamicIsFalse}
use Rattle.amqp_link_types.specs.declared.types.terminus.Source.{Source}
use Rattle.amqp_link_verification.specs.Termini.{are_some, missing_in, receiver_refuses_source}

-- filters that are missing are named, whatever else holds
missing_first : (names : List (List ℕ)) (more : List (Bool × ReceiverAttachError)) → names ≢ []
    → refusal ((are_some names, DesiredFilterNotSupported names) ∷ more) ≡ Some (DesiredFilterNotSupported names)
missing_first [] more some = absurd (some refl)
missing_first (name ∷ names) more some = refl

pub missing_listed : (own theirs : Source) → missing_in own theirs ≢ []
    → (names : List (List ℕ)) × (receiver_refuses_source own theirs ≡ Some (DesiredFilterNotSupported names))
missing_listed own theirs some = (
  missing_in own theirs,
  missing_first (missing_in own theirs)
      ((theirs.dynamic && is_none theirs.address, SourceAddressIsNoneWhenDynamicIsTrue)
      ∷ (not theirs.dynamic && is_some theirs.dynamic_node_properties, DynamicNodePropertiesIsSomeWhenDynamicIsFalse) ∷ [])
      some,
)
