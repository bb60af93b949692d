-- A transfer leaves what is kept and stated of other deliveries.
use Rattle.std.proofs.Common.{◌≡◌, ◌≢◌, ◌∙◌, ap, refl, sym, Bool, true, false, cond, Option, Some, None, List, ℕ}
use Rattle.amqp_link_types.specs.Entries.{Tag, Entries, IsMap, entry_at, without_entry}
use Rattle.amqp_link_types.specs.declared.types.transfer.Transfer.{Transfer}
use Rattle.amqp_link_types.proofs.MapLemmas.{entry_at-put_other, entry_at-removed, other_tag}
use Rattle.amqp_link_receiver.specs.Receivers.{Receiver}
use Rattle.amqp_link_inbox.specs.Inboxes.{Arrives, Handles, InboxState, begins, is_new, store_of, tag_of}
use Rattle.amqp_link_inbox.specs.Storing.{AddsTo, IsStated, Store, stated_by, stored_by}
use Rattle.amqp_link_inbox.specs.declared.arrival.Arrival.{Arrival}
use Rattle.amqp_link_inbox.specs.declared.arrival.Arrived.{Arrived}
use Rattle.amqp_link_inbox.specs.declared.kept.Contents.{Contents}
use Rattle.amqp_link_inbox.specs.declared.kept.Contents.TheVariants.{Begun, Complete, Taken}
use Rattle.amqp_link_inbox.specs.declared.kept.Kept.{Kept}
use Rattle.amqp_link_inbox.specs.declared.kept.Stage.{Stage}

module _ (tag other : Tag) (apart : other ≢ tag) where
  removed_other : {V : Type 0} (m : Entries V) → IsMap m → entry_at (without_entry m tag) other ≡ entry_at m other
  removed_other m is = entry_at-removed m tag other is ∙ ap (λ b. cond b None (entry_at m other)) (other_tag tag other (λ p. apart (sym p)))

  stored_other : (settled more : Bool) (kept : Kept) (s : Store) → IsMap s.entries → entry_at (stored_by settled more tag kept s).entries other ≡ entry_at s.entries other
  stored_other true false kept s is = removed_other s.entries is
  stored_other true true kept s is = entry_at-put_other s.entries tag other kept apart
  stored_other false more kept s is = entry_at-put_other s.entries tag other kept apart

  stated_other : {T : Type 0} (settled : Bool) (contents : Contents) (link : Receiver T) → IsMap link.unsettled
      → entry_at (stated_by settled contents tag link).unsettled other ≡ entry_at link.unsettled other
  stated_other true contents link is = removed_other link.unsettled is
  stated_other false (Begun held) link is = entry_at-put_other link.unsettled tag other _ apart
  stated_other false (Complete held) link is = entry_at-put_other link.unsettled tag other _ apart
  stated_other false Taken link is = refl

  module _ {T : Type 0} (old : Store) (before : Receiver T) (is : IsStated old.entries before.unsettled) (t : Transfer) (bytes : List ℕ) where
    abbrev Stay : Store → Receiver T → Type 0
    Stay store after = (entry_at store.entries other ≡ entry_at old.entries other) × (entry_at after.unsettled other ≡ entry_at before.unsettled other)

    added_other : (begins : Bool) (found : Option Kept) (came : Arrival) (store : Store) (after : Receiver T)
        → AddsTo found begins tag t bytes old before came store after → Stay store after
    added_other begins None came store after a = (ap (λ (s : Store). entry_at s.entries other) a.0, ap (λ (r : Receiver T). entry_at r.unsettled other) a.1)
    added_other begins (Some kept) came store after a =
        let next : Kept = a.0 in (
          ap (λ (s : Store). entry_at s.entries other) a.2 ∙ stored_other next.settled t.more next old is.entries_map,
          ap (λ (r : Receiver T). entry_at r.unsettled other) a.3 ∙ stated_other next.settled next.contents before is.unsettled_map,
        )

    pub handled_other : (aborted is_new begins : Bool) (came : Arrival) (replaced : Option Stage) (store : Store) (after : Receiver T)
        → Handles aborted is_new begins tag t bytes old before came replaced store after → Stay store after
    handled_other true is_new begins came replaced store after h = (
      ap (λ (s : Store). entry_at s.entries other) h.0 ∙ removed_other old.entries is.entries_map,
      ap (λ (r : Receiver T). entry_at r.unsettled other) h.1 ∙ removed_other before.unsettled is.unsettled_map,
    )
    handled_other false true begins came replaced store after h = (
      ap (λ (s : Store). entry_at s.entries other) h.1.store ∙ stored_other _ t.more _ old is.entries_map,
      ap (λ (r : Receiver T). entry_at r.unsettled other) h.2 ∙ ap (λ (r : Receiver T). entry_at r.unsettled other) h.1.link ∙ stated_other _ _ before is.unsettled_map,
    )
    handled_other false false begins came replaced store after h = added_other begins (entry_at old.entries tag) came store after h.0

pub other_stays : {T : Type 0} (old new : InboxState T) (t : Transfer) (bytes : List ℕ) (came : Arrived) → IsStated old.deliveries old.link.unsettled
    → Arrives old t bytes came new → (other : Tag) → (tag_of old t ≡ Some other → ⊥)
    → (entry_at new.deliveries other ≡ entry_at old.deliveries other) × (entry_at new.link.unsettled other ≡ entry_at old.link.unsettled other)
other_stays {T} old new t bytes came is a other apart =
    let stay = handled_other a.tag other (λ p. apart (a.tag_is ∙ ap Some (sym p))) (store_of old) old.link is t bytes
    t.aborted (is_new old t) (begins old) came.arrival came.replaced (store_of new) a.link a.handles in
    (stay.0, ap (λ (r : Receiver T). entry_at r.unsettled other) a.link_is ∙ stay.1)
