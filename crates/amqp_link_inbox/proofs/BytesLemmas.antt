-- What is held of a delivery after a transfer are the bytes that have come of it.
use Rattle.std.proofs.Common.{◌≡◌, ◌∙◌, ◌++◌, ap, refl, subst, sym, inl, inr, Bool, true, false, cond, map, List, [], ◌∷◌, Option, Some, None, ℕ}
use Rattle.std.specs.Prelude.{if◌then◌else◌}
use Rattle.std.proofs.lemmas.List.{append-nil, map-append}
use Rattle.amqp_link_types.specs.Entries.{Tag, IsMap, entry_at, without_entry}
use Rattle.amqp_link_types.specs.declared.types.transfer.Transfer.{Transfer}
use Rattle.amqp_link_types.proofs.MapLemmas.{entry_at-put, entry_at-removed, same_tag}
use Rattle.amqp_link_core.specs.Held.{Held, held_bytes}
use Rattle.amqp_link_receiver.specs.ReceiverDeliveries.{is_settled}
use Rattle.amqp_link_receiver.specs.Receivers.{Receiver}
use Rattle.amqp_link_inbox.specs.Bytes.{IsHeld, Wait, bytes_at, bytes_before, bytes_in, bytes_kept, if_held}
use Rattle.amqp_link_inbox.specs.Inboxes.{Arrives, Handles, InboxState, begins, is_new, resumed_at, store_of, tag_of}
use Rattle.amqp_link_inbox.specs.KeptDeliveries.{Grows, IsAdded, bytes_until, finished, first_kept, has_begun, start_of}
use Rattle.amqp_link_inbox.specs.Storing.{AddsTo, IsStated, Store, added_arrival, first_arrival, first_held, held_in, next_arrival, stored, stored_by}
use Rattle.amqp_link_inbox.specs.declared.arrival.Arrival.{Arrival}
use Rattle.amqp_link_inbox.specs.declared.arrival.Arrival.TheVariants as arrival
use Rattle.amqp_link_inbox.specs.declared.arrival.Arrived.{Arrived}
use Rattle.amqp_link_inbox.specs.declared.kept.Contents.{Contents}
use Rattle.amqp_link_inbox.specs.declared.kept.Contents.TheVariants.{Begun, Complete, Taken}
use Rattle.amqp_link_inbox.specs.declared.kept.Kept.{Kept}
use Rattle.amqp_link_inbox.specs.declared.kept.Stage.{Stage}

-- the bytes of what has begun with one transfer
first_bytes : (t : Transfer) (bytes : List ℕ) → held_bytes (first_held t bytes) ≡ bytes
first_bytes t bytes = append-nil bytes

module _ (s : Store) (tag : Tag) (is : IsMap s.entries) where
  none_left : bytes_at (without_entry s.entries tag) tag ≡ None
  none_left = ap bytes_kept (entry_at-removed s.entries tag tag is ∙ ap (λ b. cond b None (entry_at s.entries tag)) (same_tag tag))

  waiting : (contents : Contents) (last : List (List ℕ)) → map held_bytes (held_in contents) ≡ last
      → map held_bytes (s.settled ++ held_in contents) ≡ map held_bytes s.settled ++ last
  waiting contents last h = map-append held_bytes s.settled (held_in contents) ∙ ap (λ l. map held_bytes s.settled ++ l) h

  -- by whether it is settled and whether more is to come
  abbrev Placed : Bool → Bool → List ℕ → Store → Type 0
  Placed true false whole new = Wait tag (whole ∷ []) s new
  Placed true true whole new = bytes_at new.entries tag ≡ Some whole
  Placed false more whole new = bytes_at new.entries tag ≡ Some whole

  placed : (settled more : Bool) (kept : Kept) (held : Held) (whole : List ℕ) → kept.contents ≡ (if more then Begun held else Complete held)
      → held_bytes held ≡ whole → Placed settled more whole (stored_by settled more tag kept s)
  placed true false kept held whole is_held bytes =
      (none_left, waiting kept.contents (whole ∷ []) (ap (λ c. map held_bytes (held_in c)) is_held ∙ ap (λ b. b ∷ []) bytes))
  placed true true kept held whole is_held bytes =
      ap bytes_kept (entry_at-put s.entries tag kept) ∙ ap bytes_in is_held ∙ ap Some bytes
  placed false true kept held whole is_held bytes =
      ap bytes_kept (entry_at-put s.entries tag kept) ∙ ap bytes_in is_held ∙ ap Some bytes
  placed false false kept held whole is_held bytes =
      ap bytes_kept (entry_at-put s.entries tag kept) ∙ ap bytes_in is_held ∙ ap Some bytes

  first_placed : (settled more : Bool) (whole : List ℕ) (new : Store) → Placed settled more whole new → IsHeld (first_arrival more settled) tag whole s new
  first_placed true true whole new p = p
  first_placed true false whole new p = p
  first_placed false true whole new p = p
  first_placed false false whole new p = p

  next_placed : (settled more : Bool) (whole : List ℕ) (new : Store) → Placed settled more whole new → IsHeld (next_arrival more settled) tag whole s new
  next_placed true true whole new p = p
  next_placed true false whole new p = p
  next_placed false true whole new p = p
  next_placed false false whole new p = p

  finished_same : (more : Bool) (contents : Contents) → has_begun contents ≡ false → finished more contents ≡ contents
  finished_same true contents h = refl
  finished_same false (Begun held) h = absurd (cc)
  finished_same false (Complete held) h = refl
  finished_same false Taken h = refl

  waits : (contents : Contents) → map held_bytes (held_in contents) ≡ if_held (bytes_in contents)
  waits (Begun held) = refl
  waits (Complete held) = refl
  waits Taken = refl

  -- of a delivery that was complete before nothing changes, or it leaves
  known : (settled more : Bool) (kept next : Kept) (whole : List ℕ) → entry_at s.entries tag ≡ Some kept → next.contents ≡ kept.contents
      → IsHeld arrival.Known tag whole s (stored_by settled more tag next s)
  known true false kept next whole here same =
      inr (none_left, waiting next.contents _ (ap (λ c. map held_bytes (held_in c)) same ∙ waits kept.contents ∙ sym (ap (λ o. if_held (bytes_kept o)) here)))
  known true true kept next whole here same =
      inl (ap bytes_kept (entry_at-put s.entries tag next) ∙ ap bytes_in same ∙ sym (ap bytes_kept here), refl)
  known false more kept next whole here same =
      inl (ap bytes_kept (entry_at-put s.entries tag next) ∙ ap bytes_in same ∙ sym (ap bytes_kept here), refl)

  -- a further transfer
  added : (begins : Bool) (t : Transfer) (bytes : List ℕ) (kept next : Kept) (contents : Contents) → kept.contents ≡ contents
      → entry_at s.entries tag ≡ Some kept → IsAdded begins t bytes kept next
      → IsHeld (added_arrival (has_begun contents) t.more next.settled) tag (bytes_before false (start_of begins t) (bytes_in contents) ++ bytes) s (stored t.more tag next s)
  added begins t bytes kept next (Begun held) is_held here a =
      let grows = subst (λ c. Grows begins t bytes c a.grown) is_held a.grows in
      let grown : Held = grows.0 in
      let now : next.contents ≡ (if t.more then Begun grown else Complete grown) = a.contents ∙ ap (finished t.more) grows.2 ∙ begun_finished t.more grown in
      let whole : List ℕ = bytes_until (start_of begins t) (held_bytes held) ++ bytes in
      next_placed next.settled t.more whole (stored t.more tag next s) (placed next.settled t.more next grown whole now grows.1.joined)
    where
      begun_finished : (more : Bool) (held : Held) → finished more (Begun held) ≡ (if more then Begun held else Complete held)
      begun_finished true held = refl
      begun_finished false held = refl
  added begins t bytes kept next (Complete held) is_held here a =
      let grows = subst (λ c. Grows begins t bytes c a.grown) is_held a.grows in
      known next.settled t.more kept next bytes here (a.contents ∙ ap (finished t.more) grows.0 ∙ finished_same t.more (Complete held) refl ∙ sym is_held)
  added begins t bytes kept next Taken is_held here a =
      let grows = subst (λ c. Grows begins t bytes c a.grown) is_held a.grows in
      known next.settled t.more kept next bytes here (a.contents ∙ ap (finished t.more) grows.0 ∙ finished_same t.more Taken refl ∙ sym is_held)

  module _ {T : Type 0} (before : Receiver T) (t : Transfer) (bytes : List ℕ) where
    added_to : (begins : Bool) (found : Option Kept) (came : Arrival) (new : Store) (after : Receiver T) → entry_at s.entries tag ≡ found
        → AddsTo found begins tag t bytes s before came new after → IsHeld came tag (bytes_before false (start_of begins t) (bytes_kept found) ++ bytes) s new
    added_to begins None came new after here a =
        subst (λ c. IsHeld c tag (bytes_before false (start_of begins t) None ++ bytes) s new) (sym a.2) a.0
    added_to begins (Some kept) came new after here a =
        let next : Kept = a.0 in
        let whole : List ℕ = bytes_before false (start_of begins t) (bytes_in kept.contents) ++ bytes in
        subst (λ c. IsHeld c tag whole s new) (sym a.4)
        (subst (λ n. IsHeld (added_arrival (has_begun kept.contents) t.more next.settled) tag whole s n) (sym a.2)
        (added begins t bytes kept next kept.contents refl here a.1))

    pub bytes_handled : (aborted is_new begins : Bool) (came : Arrival) (replaced : Option Stage) (new : Store) (after : Receiver T)
        → Handles aborted is_new begins tag t bytes s before came replaced new after
        → IsHeld came tag (bytes_before is_new (start_of begins t) (bytes_at s.entries tag) ++ bytes) s new
    bytes_handled true is_new begins came replaced new after h =
        subst (λ c. IsHeld c tag (bytes_before is_new (start_of begins t) (bytes_at s.entries tag) ++ bytes) s new) (sym h.2)
        (ap (λ (n : Store). bytes_at n.entries tag) h.0 ∙ none_left)
    bytes_handled false true begins came replaced new after h =
        let first : Kept = first_kept (first_held t bytes) t.more in
        subst (λ c. IsHeld c tag bytes s new) (sym h.1.arrival)
        (subst (λ n. IsHeld (first_arrival t.more (is_settled t)) tag bytes s n) (sym h.1.store)
        (first_placed (is_settled t) t.more bytes (stored t.more tag first s)
        (placed (is_settled t) t.more first (first_held t bytes) bytes refl (first_bytes t bytes))))
    bytes_handled false false begins came replaced new after h = added_to begins (entry_at s.entries tag) came new after refl h.0

pub bytes_come : {T : Type 0} (old new : InboxState T) (t : Transfer) (bytes : List ℕ) (came : Arrived) → IsStated old.deliveries old.link.unsettled
    → Arrives old t bytes came new → (tag : Tag) → tag_of old t ≡ Some tag
    → IsHeld came.arrival tag (bytes_before (is_new old t) (resumed_at old t) (bytes_at old.deliveries tag) ++ bytes) (store_of old) (store_of new)
bytes_come old new t bytes came is a tag named =
    subst (λ g. IsHeld came.arrival g (bytes_before (is_new old t) (resumed_at old t) (bytes_at old.deliveries g) ++ bytes) (store_of old) (store_of new))
    (same a.tag tag (sym a.tag_is ∙ named))
    (bytes_handled (store_of old) a.tag is.entries_map old.link t bytes t.aborted (is_new old t) (begins old) came.arrival came.replaced (store_of new) a.link a.handles)
  where
    same : (x y : Tag) → Some x ≡ Some y → x ≡ y
    same x y h = cc
