-- An attach whose source lacks filters that were asked for.
use Rattle.std.proofs.Common.{◌≡◌, ◌∙◌, sym, ap, subst, refl, true, ℕ, List, [], ◌∷◌, Option, Some}
use Rattle.std.specs.Prelude.{is_none, IfSome}
use Rattle.amqp_link_types.specs.declared.types.attach.Attach.{Attach}
use Rattle.amqp_link_types.specs.declared.types.errors.ReceiverAttachError.{ReceiverAttachError}
use Rattle.amqp_link_types.specs.declared.types.errors.ReceiverAttachError.TheVariants.{IllegalState, DesiredFilterNotSupported}
use Rattle.amqp_link_types.specs.declared.types.terminus.Source.{Source}
use Rattle.amqp_link_types.specs.declared.types.terminus.TargetArchetype.{TargetArchetype}
use Rattle.amqp_link_state.specs.declared.state.LinkState.{LinkState}
use Rattle.amqp_link_endpoint.specs.AttachFields.{next_of}
use Rattle.amqp_link_endpoint.specs.AttachTests.{Tests, refused_if, first_of, first_refusal}
use Rattle.amqp_link_receiver.specs.ReceiverAttaches.{receiver_came, receiver_sourced, receiver_source_refusal, receiver_target_refusal, receiver_refusal, receiver_source_verdict}
use Rattle.amqp_link_endpoint.specs.Failing.{is_listing}
use Rattle.amqp_link_receiver.specs.Receivers.{Receiver}

module _ {T : Type 0} (admitted : TargetArchetype → Option T) (refused : T → T → Option ReceiverAttachError) (r : Receiver T) (attach : Attach) where
  -- the tests past that of the source
  abbrev rest : Tests ReceiverAttachError (Receiver T)
  rest = (receiver_target_refusal admitted refused r attach.initial_delivery_count attach.target, receiver_sourced r attach) ∷ []

  refused_first : (next : LinkState) (source : Source) (names : List (List ℕ))
      → next_of r.local_state attach ≡ Some next → attach.source ≡ Some source → receiver_source_verdict r source ≡ Some (DesiredFilterNotSupported names)
      → receiver_refusal admitted refused r attach ≡ Some (DesiredFilterNotSupported names)
  refused_first next source names moves there verdict =
      ap (λ o. first_refusal ((refused_if (is_none o) IllegalState, r) ∷ (receiver_source_refusal r attach.source, receiver_came r attach) ∷ rest)) moves
      ∙ ap (λ s. first_refusal ((receiver_source_refusal r s, receiver_came r attach) ∷ rest)) there
      ∙ ap (λ o. first_refusal ((first_of (o ∷ []), receiver_came r attach) ∷ rest)) verdict

  -- its error carries a list
  pub refused_by_list : (next : LinkState) (source : Source) (names : List (List ℕ))
      → next_of r.local_state attach ≡ Some next → attach.source ≡ Some source → receiver_source_verdict r source ≡ Some (DesiredFilterNotSupported names)
      → IfSome (receiver_refusal admitted refused r attach) (λ error. is_listing error ≡ true)
  refused_by_list next source names moves there verdict =
      subst (λ o. IfSome o (λ error. is_listing error ≡ true)) (sym (refused_first next source names moves there verdict)) refl
