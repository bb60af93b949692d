-- Values of the definitions that were worked out by hand: docs/DEFINITIONS.md lists them.
use Rattle.std.proofs.Common.{◌≡◌, ℕ, true, false, [], ◌∷◌, refl, Some, None, Ok, Err}
use Rattle.std.specs.Prelude.{codes}
use Rattle.amqp_link_values.specs.Data.{uint}
use Rattle.amqp_link_types.specs.declared.frame.LinkFrame.TheVariants.{Detach}
use Rattle.amqp_link_types.specs.declared.types.errors.DetachError.TheVariants.{RemoteClosedWithError}
use Rattle.amqp_link_types.specs.declared.types.definitions.Error.{Error}
use Rattle.amqp_link_types.specs.declared.types.definitions.Role.TheVariants as role
use Rattle.amqp_link_endpoint.specs.AttachFields.{merged_properties, merging_allocates}
use Rattle.amqp_link_endpoint.specs.Detaching.{detach_frame, recorded, reply_error}
use Rattle.amqp_link_endpoint.specs.Shown.{decided_by_receiver, decided_by_sender}

-- ---- detaches and properties

abbrev failed : Error
failed = record { condition = codes "x:y"; description = None; info = None }

closing_detach : detach_frame (record { 0 = 4 }) true None ≡ Detach (record { handle = record { 0 = 4 }; closed = true; error = None })
closing_detach = refl

recorded_without_error : recorded reply_error true None ≡ Ok tt
recorded_without_error = refl

recorded_with_error : recorded reply_error true (Some failed) ≡ Err (RemoteClosedWithError failed)
recorded_with_error = refl

properties_are_joined : merged_properties (Some ((codes "a", uint 1) ∷ (codes "b", uint 2) ∷ [])) (Some ((codes "b", uint 3) ∷ (codes "c", uint 4) ∷ []))
    ≡ Some ((codes "a", uint 1) ∷ (codes "b", uint 3) ∷ (codes "c", uint 4) ∷ [])
properties_are_joined = refl

properties_take_the_place_of_none : merged_properties (Some []) (Some ((codes "b", uint 3) ∷ [])) ≡ Some ((codes "b", uint 3) ∷ [])
properties_take_the_place_of_none = refl

merging_both_allocates : merging_allocates (Some ((codes "a", uint 1) ∷ [])) (Some ((codes "b", uint 3) ∷ [])) ≡ true
merging_both_allocates = refl

-- an empty map on either side
merging_one_does_not : (merging_allocates (Some []) (Some ((codes "b", uint 3) ∷ [])) ≡ false) × (merging_allocates (Some ((codes "a", uint 1) ∷ [])) (Some []) ≡ false)
merging_one_does_not = (refl, refl)

-- ---- what is taken of an attach

of_the_sender : decided_by_sender {A = ℕ} role.Receiver 1 2 ≡ 2
of_the_sender = refl

of_the_receiver : decided_by_receiver {A = ℕ} role.Receiver 1 2 ≡ 1
of_the_receiver = refl
