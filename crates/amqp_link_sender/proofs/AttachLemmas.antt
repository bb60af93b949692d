-- What a sender shows after an attach that it has refused.
use Rattle.std.proofs.Common.{◌≡◌, Option, refl, sym, subst}
use Rattle.amqp_link_types.specs.declared.types.attach.Attach.{Attach}
use Rattle.amqp_link_types.specs.declared.types.errors.SenderAttachError.{SenderAttachError}
use Rattle.amqp_link_types.specs.declared.types.terminus.TargetArchetype.{TargetArchetype}
use Rattle.amqp_link_endpoint.proofs.TestLemmas.{left_after_is}
use Rattle.amqp_link_endpoint.specs.Shown.{with_terms_of}
use Rattle.amqp_link_sender.specs.Senders.{Sender}
use Rattle.amqp_link_sender.specs.SenderAttaches.{is_sender_out_of_memory, sender_left, sender_shown, sender_tests}

module _ {T : Type 0} (sent_as : T → TargetArchetype) where
  abbrev KeepsShown : Sender T → Sender T → Type 0
  KeepsShown s left = sender_shown sent_as left ≡ with_terms_of (sender_shown sent_as s) (sender_shown sent_as left)

  -- of what it shows, only the state, the settle modes and the termini are other ones
  pub keeps_shown : (admitted : TargetArchetype → Option T) (refused : T → T → Option SenderAttachError) (e : SenderAttachError)
      (s now : Sender T) (attach : Attach) → now ≡ sender_left admitted refused e s attach → KeepsShown s now
  keeps_shown admitted refused e s now attach left = subst (KeepsShown s) (sym left)
      (left_after_is (KeepsShown s) (is_sender_out_of_memory e) s (sender_tests admitted refused s attach) refl (refl, (refl, (refl, tt))))
