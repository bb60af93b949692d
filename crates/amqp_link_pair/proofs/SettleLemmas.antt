-- Why a pair does not settle a delivery, by what it keeps of it.
use Rattle.std.proofs.Common.{◌≡◌, ◌∙◌, sym, ap, subst, refl, Bool, true, false, not, None, Some}
use Rattle.std.specs.Prelude.{is_some, IsSome, IfSome, Option}
use Rattle.std.specs.Option.{option_map_or}
use Rattle.amqp_link_types.specs.Entries.{Tag, Entries, entry_at}
use Rattle.amqp_link_types.specs.Refusals.{refusal}
use Rattle.amqp_link_types.proofs.MapLemmas.{false_is_not_true}
use Rattle.amqp_link_core.specs.Held.{Held}
use Rattle.amqp_link_worlds.specs.Invariants.{IsWorld}
use Rattle.amqp_link_worlds.specs.Steps.{has_flag, is_empty, settle_tests}
use Rattle.amqp_link_worlds.specs.Wires.{frames_of}
use Rattle.amqp_link_worlds.specs.Worlds.{World, held_at, is_together}
use Rattle.amqp_link_worlds.specs.declared.error.PairError.TheVariants as error
use Rattle.amqp_link_worlds.specs.declared.progress.Progress.{Progress}
use Rattle.amqp_link_worlds.proofs.CallLemmas.{held_has_id}
use Rattle.amqp_link_worlds.proofs.WorldLemmas.{nothing_in, nothing_listed, settled_stands}
use Rattle.amqp_link_ledger.specs.Fates.{fates_of}
use Rattle.amqp_link_pair.specs.HandingOut.{held_in}
use Rattle.amqp_link_pair.specs.Keeping.{progress_of}
use Rattle.amqp_link_pair.specs.PairViews.{AreMarked}
use Rattle.amqp_link_pair.specs.declared.deliveries.Kept.{Kept}
use Rattle.amqp_link_pair.proofs.ProgressLemmas.{held_of_kept, known_at}

pub some_is_not_none : {A : Type 0} (o : Option A) → IsSome o → o ≡ None → ⊥
some_is_not_none None h is = false_is_not_true h
some_is_not_none (Some a) h is = absurd (cc)

module _ (w : World) (kept : Entries Kept) (tag : Tag) (is : w.deliveries ≡ progress_of kept) (on : is_together w.phase ≡ true) where
  held_is : held_at w tag ≡ held_in (entry_at kept tag)
  held_is = ap (λ (m : Entries Progress). held_at (record w { deliveries = m }) tag) is ∙ held_of_kept kept tag

  pub unknown : held_in (entry_at kept tag) ≡ None → refusal (settle_tests w tag) ≡ Some error.UnknownTag
  unknown none = rw (on, held_is, none) refl

  module _ (k : Kept) (known : entry_at kept tag ≡ Some k) (held : Held) (holds : k.progress.held ≡ Some held) where
    there : is_some (held_at w tag) ≡ true
    there = ap is_some (held_is ∙ ap held_in known ∙ holds)

    pub holds_at : held_at w tag ≡ Some held
    holds_at = held_is ∙ ap held_in known ∙ holds

    flag_is : (flag : Progress → Bool) → has_flag flag w tag ≡ flag k.progress
    flag_is flag = ap (λ (m : Entries Progress). option_map_or flag (entry_at m tag) false) is ∙ ap (λ o. option_map_or flag o false) (known_at kept tag k known)

    pub given_up : k.progress.withdrawn ≡ true → refusal (settle_tests w tag) ≡ Some error.UnknownTag
    given_up h = rw (on, there, flag_is (λ p. p.withdrawn), h) refl

    pub not_whole : k.progress.withdrawn ≡ false → k.progress.whole ≡ false → refusal (settle_tests w tag) ≡ Some error.NotWhole
    not_whole stays h = rw (on, there, flag_is (λ p. p.withdrawn), stays, flag_is (λ p. p.whole), h) refl

    module _ (stays : k.progress.withdrawn ≡ false) (whole : k.progress.whole ≡ true) where
      pub still_to_resume : is_empty w.resuming ≡ false → refusal (settle_tests w tag) ≡ Some error.ResumeFirst
      still_to_resume h = rw (on, there, flag_is (λ p. p.withdrawn), stays, flag_is (λ p. p.whole), whole, h) refl

      module _ (none : is_empty w.resuming ≡ true) (world : IsWorld w) (marks : AreMarked w kept) where
        registered : IsSome (entry_at w.ledger.link.unsettled tag)
        registered = let found = settled_stands (is_together w.phase) tag (entry_at w.ledger.link.unsettled tag) (entry_at w.resuming tag) (entry_at w.deliveries tag) (entry_at w.receiver.unsettled tag) (frames_of tag w.wire) (fates_of tag w.ledger.records)
            (nothing_listed w.resuming tag (nothing_in w.resuming (ap not none))) there (flag_is (λ p. p.withdrawn) ∙ stays) (world.each tag) in found.0

        mark_is : k.is_under_way ≡ not (is_empty (frames_of tag w.wire))
        mark_is = subst (λ o. IfSome o (λ k. k.is_under_way ≡ not (is_empty (frames_of tag w.wire)))) known (marks on tag registered)

        pub under_way : k.is_under_way ≡ true → refusal (settle_tests w tag) ≡ Some error.OnWire
        under_way h = let busy : not (is_empty (frames_of tag w.wire)) ≡ true = sym mark_is ∙ h in rw (on, there, flag_is (λ p. p.withdrawn), stays, flag_is (λ p. p.whole), whole, none, busy) refl

        pub may_settle : k.is_under_way ≡ false → refusal (settle_tests w tag) ≡ None
        may_settle h = let free : not (is_empty (frames_of tag w.wire)) ≡ false = sym mark_is ∙ h in rw (on, there, flag_is (λ p. p.withdrawn), stays, flag_is (λ p. p.whole), whole, none, free) refl

        pub has_id : IsSome held.performative.delivery_id
        has_id = held_has_id w tag held world holds_at
