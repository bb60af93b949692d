-- The link has an entry exactly for each delivery that is kept and not settled, whatever a call changes of one of them.
use Rattle.std.proofs.Common.{◌≡◌, ◌≢◌, ◌∙◌, sym, ap, subst, Bool, true, false, cond, refl, Option, Some, None, List, [], ◌∷◌, ℕ}
use Rattle.std.specs.Prelude.{bytes_eq, Decides, IsSome, is_some, not, if◌then◌else◌}
use Rattle.std.specs.List.{IsDistinct, list_any}
use Rattle.std.specs.Map.{keys_of}
use Rattle.std.proofs.lemmas.Bool.{or_parts}
use Rattle.std.proofs.lemmas.Map.{keys-set_value}
use Rattle.std.proofs.lemmas.Map.Made.{is_some-lookup}
use Rattle.std.proofs.lemmas.Slice.Eq.{bytes_eq-Decides}
use Rattle.amqp_link_types.specs.Entries.{Tag, Entries, IsMap, changed_at, entry_at, with_entry, without_entries, without_entry}
use Rattle.amqp_link_types.proofs.EntriesLemmas.{IsMap-none, IsMap-push, with_entry-present}
use Rattle.amqp_link_types.proofs.MapLemmas.{IsMap-removed, entry_at-put, entry_at-put_other, entry_at-removed, false_is_not_true, put-absent, removed-absent}
use Rattle.amqp_link_types.specs.declared.types.delivery_state.DeliveryState.{DeliveryState}
use Rattle.amqp_link_types.specs.declared.types.transfer.Transfer.{Transfer}
use Rattle.amqp_link_dispositions.specs.Keeping.{after_one, map_after_sender_disposition}
use Rattle.amqp_link_core.specs.Held.{Held}
use Rattle.amqp_link_receiver.specs.ReceiverDeliveries.{is_settled}
use Rattle.amqp_link_receiver.specs.Receivers.{Receiver}
use Rattle.amqp_link_inbox.specs.InboxAttaches.{kept_after, without_ids}
use Rattle.amqp_link_inbox.specs.Disposing.{after_settling, settled_at, settled_in}
use Rattle.amqp_link_inbox.specs.Inboxes.{Handles}
use Rattle.amqp_link_inbox.specs.KeptDeliveries.{first_kept, has_begun}
use Rattle.amqp_link_inbox.specs.Storing.{AddsTo, IsStated, Store, dropped, first_held, is_unsettled, stated, stated_by, stored, stored_by}
use Rattle.amqp_link_inbox.specs.Taking.{taken_from, with_taken}
use Rattle.amqp_link_inbox.specs.declared.arrival.Arrival.{Arrival}
use Rattle.amqp_link_inbox.specs.declared.kept.Contents.{Contents}
use Rattle.amqp_link_inbox.specs.declared.kept.Contents.TheVariants.{Begun, Complete, Taken}
use Rattle.amqp_link_inbox.specs.declared.kept.Kept.{Kept}
use Rattle.amqp_link_inbox.specs.declared.kept.Stage.{Stage}

none_from : {V : Type 0} (o : Option V) → is_some o ≡ false → o ≡ None
none_from None h = refl
none_from (Some v) h = absurd (false_is_not_true (sym h))

-- by whether it is that tag
pub by_tag : (P : Tag → Type 0) (tag : Tag) → P tag → ((other : Tag) → other ≢ tag → P other) → (other : Tag) → P other
by_tag P tag here there other =
    elim (bytes_eq other tag) as (λ b. Decides b (other ≡ tag) → P other) [
      | true ↦ λ d. subst P (sym (d.0 refl)) here
      | false ↦ λ d. there other (λ p. false_is_not_true (d.1 p))
    ] (bytes_eq-Decides other tag)

-- a put keeps a map
IsMap-put : {V : Type 0} (m : Entries V) (tag : Tag) (v : V) → IsMap m → IsMap (with_entry m tag v)
IsMap-put m tag v is = by (entry_at m tag) refl
  where
    by : (o : Option _) → entry_at m tag ≡ o → IsMap (with_entry m tag v)
    by None h = subst IsMap (sym (put-absent m tag v h)) (IsMap-push m tag v is h)
    by (Some old) h = subst (IsDistinct bytes_eq) (sym (ap keys_of (sym (with_entry-present m tag old v h)) ∙ keys-set_value (bytes_eq tag) m v)) is

module _ {V : Type 0} (entries : Entries Kept) (unsettled : Entries V) (is : IsStated entries unsettled) (tag : Tag) where
  -- nothing is kept of the delivery, and it has no entry
  pub stated_dropped : IsStated (without_entry entries tag) (without_entry unsettled tag)
  stated_dropped = record {
    entries_map = IsMap-removed entries tag is.entries_map;
    unsettled_map = IsMap-removed unsettled tag is.unsettled_map;
    each = λ other.
        ap is_some (entry_at-removed unsettled tag other is.unsettled_map)
        ∙ either (bytes_eq tag other) (entry_at unsettled other) (entry_at entries other) (is.each other)
        ∙ sym (ap is_unsettled (entry_at-removed entries tag other is.entries_map));
  }
    where
      either : (b : Bool) (o : Option V) (k : Option Kept) → is_some o ≡ is_unsettled k → is_some (cond b None o) ≡ is_unsettled (cond b None k)
      either true o k h = refl
      either false o k h = h

  module _ (kept : Kept) where
    others : (other : Tag) → other ≢ tag → is_some (entry_at unsettled other) ≡ is_unsettled (entry_at (with_entry entries tag kept) other)
    others other n = is.each other ∙ sym (ap is_unsettled (entry_at-put_other entries tag other kept n))

    -- it is kept and not settled, and has an entry
    pub stated_put : (v : V) → kept.settled ≡ false → IsStated (with_entry entries tag kept) (with_entry unsettled tag v)
    stated_put v unsettled_yet = record {
      entries_map = IsMap-put entries tag kept is.entries_map;
      unsettled_map = IsMap-put unsettled tag v is.unsettled_map;
      each = by_tag (λ t. is_some (entry_at (with_entry unsettled tag v) t) ≡ is_unsettled (entry_at (with_entry entries tag kept) t)) tag
          (ap is_some (entry_at-put unsettled tag v) ∙ sym (ap not unsettled_yet) ∙ sym (ap is_unsettled (entry_at-put entries tag kept)))
          (λ other n. ap is_some (entry_at-put_other unsettled tag other v n) ∙ others other n);
    }

    -- it had one before
    pub stated_stays : IsSome (entry_at unsettled tag) → kept.settled ≡ false → IsStated (with_entry entries tag kept) unsettled
    stated_stays has unsettled_yet = record {
      entries_map = IsMap-put entries tag kept is.entries_map;
      unsettled_map = is.unsettled_map;
      each = by_tag (λ t. is_some (entry_at unsettled t) ≡ is_unsettled (entry_at (with_entry entries tag kept) t)) tag
          (has ∙ sym (ap not unsettled_yet) ∙ sym (ap is_unsettled (entry_at-put entries tag kept))) others;
    }

    -- it is kept and settled, and has none
    pub stated_settled : kept.settled ≡ true → IsStated (with_entry entries tag kept) (without_entry unsettled tag)
    stated_settled over = record {
      entries_map = IsMap-put entries tag kept is.entries_map;
      unsettled_map = IsMap-removed unsettled tag is.unsettled_map;
      each = by_tag (λ t. is_some (entry_at (without_entry unsettled tag) t) ≡ is_unsettled (entry_at (with_entry entries tag kept) t)) tag
          (ap is_some (entry_at-removed unsettled tag tag is.unsettled_map ∙ gone) ∙ sym (ap not over) ∙ sym (ap is_unsettled (entry_at-put entries tag kept)))
          (λ other n. ap is_some (entry_at-removed unsettled tag other is.unsettled_map ∙ stays other n) ∙ others other n);
    }
      where
        gone : cond (bytes_eq tag tag) None (entry_at unsettled tag) ≡ None
        gone = elim (bytes_eq tag tag) as (λ b. Decides b (tag ≡ tag) → cond b None (entry_at unsettled tag) ≡ None) [
          | true ↦ λ d. refl
          | false ↦ λ d. absurd (false_is_not_true (d.1 refl))
        ] (bytes_eq-Decides tag tag)

        stays : (other : Tag) → other ≢ tag → cond (bytes_eq tag other) None (entry_at unsettled other) ≡ entry_at unsettled other
        stays other n = elim (bytes_eq tag other) as (λ b. Decides b (tag ≡ other) → cond b None (entry_at unsettled other) ≡ entry_at unsettled other) [
          | true ↦ λ d. absurd (n (sym (d.0 refl)))
          | false ↦ λ d. refl
        ] (bytes_eq-Decides tag other)

  -- what is kept of it changes, but for whether it is settled
  pub stated_same : (kept next : Kept) → entry_at entries tag ≡ Some kept → next.settled ≡ kept.settled → IsStated (with_entry entries tag next) unsettled
  stated_same kept next known same = record {
    entries_map = IsMap-put entries tag next is.entries_map;
    unsettled_map = is.unsettled_map;
    each = by_tag (λ t. is_some (entry_at unsettled t) ≡ is_unsettled (entry_at (with_entry entries tag next) t)) tag
        (is.each tag ∙ ap is_unsettled known ∙ ap not (sym same) ∙ sym (ap is_unsettled (entry_at-put entries tag next))) (others next);
  }

  -- nothing is held of it any more, or all is as it was
  pub stated_taken : (b : Bool) → IsStated (if b then with_taken tag entries else entries) unsettled
  stated_taken false = is
  stated_taken true = by (entry_at entries tag) refl
    where
      by : (o : Option Kept) → entry_at entries tag ≡ o → IsStated (taken_from o tag entries) unsettled
      by None known = is
      by (Some kept) known = stated_same kept (record kept { contents = Taken }) known refl

-- the state of an entry changes
module _ {V : Type 0} (f : V → V) (ts : List Tag) where
  changed_one : Tag × V → Tag × V
  changed_one e = if list_any (λ t. bytes_eq t e.0) ts then (e.0, f e.1) else e

  changed_key : (e : Tag × V) (b : Bool) → (if b then (e.0, f e.1) else e).0 ≡ e.0
  changed_key e true = refl
  changed_key e false = refl

  keys-changed : (m : Entries V) → keys_of (changed_at f ts m) ≡ keys_of m
  keys-changed [] = refl
  keys-changed (e ∷ m) = λ i. changed_key e (list_any (λ t. bytes_eq t e.0) ts) i ∷ keys-changed m i

  pub found-changed : (m : Entries V) (tag : Tag) → is_some (entry_at (changed_at f ts m) tag) ≡ is_some (entry_at m tag)
  found-changed m tag = is_some-lookup (bytes_eq tag) (changed_at f ts m) ∙ ap (list_any (bytes_eq tag)) (keys-changed m) ∙ sym (is_some-lookup (bytes_eq tag) m)

  pub stated_changed : (entries : Entries Kept) (unsettled : Entries V) → IsStated entries unsettled → IsStated entries (changed_at f ts unsettled)
  stated_changed entries unsettled is = record {
    entries_map = is.entries_map;
    unsettled_map = subst (IsDistinct bytes_eq) (sym (keys-changed unsettled)) is.unsettled_map;
    each = λ tag. found-changed unsettled tag ∙ is.each tag;
  }

-- a delivery is disposed of
pub stated_disposed : (settled : Bool) (state : DeliveryState) (tag : Tag) (entries : Entries Kept) (unsettled : Entries (Option DeliveryState))
    → IsStated entries unsettled → IsStated (after_settling settled tag entries) (after_one settled state tag unsettled)
stated_disposed true state tag entries unsettled is = stated_dropped entries unsettled is tag
stated_disposed false state tag entries unsettled is = stated_changed (λ _. Some state) (tag ∷ []) entries unsettled is

-- nothing is kept, and nothing is stated
pub stated_none : {V : Type 0} → IsStated {V = V} [] []
stated_none {V} = record { entries_map = IsMap-none Kept; unsettled_map = IsMap-none V; each = λ tag. refl }

-- an attach is sent
pub stated_attached : {V : Type 0} (anew : Bool) (entries : Entries Kept) (unsettled : Entries V) → IsStated entries unsettled
    → IsStated (kept_after anew entries) (if anew then [] else unsettled)
stated_attached true entries unsettled is = stated_none
stated_attached false entries unsettled is = is

-- of several deliveries nothing is kept, and nothing is stated
pub stated_dropped_all : {V : Type 0} (tags : List Tag) (entries : Entries Kept) (unsettled : Entries V) → IsStated entries unsettled
    → IsStated (without_entries entries tags) (without_entries unsettled tags)
stated_dropped_all [] entries unsettled is = is
stated_dropped_all (tag ∷ tags) entries unsettled is =
    stated_dropped_all tags (without_entry entries tag) (without_entry unsettled tag) (stated_dropped entries unsettled is tag)

-- no delivery has an id
keys-without_ids : (m : Entries Kept) → keys_of (without_ids m) ≡ keys_of m
keys-without_ids [] = refl
keys-without_ids (e ∷ m) = ap (λ ks. e.0 ∷ ks) (keys-without_ids m)

unsettled-without_ids : (m : Entries Kept) (tag : Tag) → is_unsettled (entry_at (without_ids m) tag) ≡ is_unsettled (entry_at m tag)
unsettled-without_ids [] tag = refl
unsettled-without_ids (e ∷ m) tag = by (bytes_eq tag e.0) (unsettled-without_ids m tag)
  where
    by : (b : Bool) → is_unsettled (entry_at (without_ids m) tag) ≡ is_unsettled (entry_at m tag)
        → is_unsettled (cond b (Some (record e.1 { id = None })) (entry_at (without_ids m) tag)) ≡ is_unsettled (cond b (Some e.1) (entry_at m tag))
    by true h = refl
    by false h = h

pub stated_without_ids : {V : Type 0} (entries : Entries Kept) (unsettled : Entries V) → IsStated entries unsettled → IsStated (without_ids entries) unsettled
stated_without_ids entries unsettled is = record {
  entries_map = subst (IsDistinct bytes_eq) (sym (keys-without_ids entries)) is.entries_map;
  unsettled_map = is.unsettled_map;
  each = λ tag. is.each tag ∙ sym (unsettled-without_ids entries tag);
}

module _ {T : Type 0} (s : Store) (link : Receiver T) (is : IsStated s.entries link.unsettled) (tag : Tag) (kept : Kept) where
  by_parts : (settled more : Bool) (contents : Contents) → kept.settled ≡ settled → (contents ≡ Taken → settled ≡ false → IsSome (entry_at link.unsettled tag))
      → IsStated (stored_by settled more tag kept s).entries (stated_by settled contents tag link).unsettled
  by_parts true false contents over has = stated_dropped s.entries link.unsettled is tag
  by_parts true true contents over has = stated_settled s.entries link.unsettled is tag kept over
  by_parts false more (Begun held) unsettled_yet has = stated_put s.entries link.unsettled is tag kept _ unsettled_yet
  by_parts false more (Complete held) unsettled_yet has = stated_put s.entries link.unsettled is tag kept _ unsettled_yet
  by_parts false more Taken unsettled_yet has = stated_stays s.entries link.unsettled is tag kept (has refl refl) unsettled_yet

  -- what is kept of a delivery once a transfer has arrived, and what the link states of it
  pub stated_stored : (more : Bool) → (kept.contents ≡ Taken → kept.settled ≡ false → IsSome (entry_at link.unsettled tag))
      → IsStated (stored more tag kept s).entries (stated tag kept link).unsettled
  stated_stored more has = by_parts kept.settled more kept.contents refl has

-- the sender settles a delivery
pub stated_settling : {T : Type 0} (s : Store) (link : Receiver T) → IsStated s.entries link.unsettled → (tag : Tag)
    → IsStated (settled_at tag s).entries (without_entry link.unsettled tag)
stated_settling s link is tag = by (entry_at s.entries tag) refl
  where
    by : (o : Option Kept) → entry_at s.entries tag ≡ o → IsStated (settled_in o tag s).entries (without_entry link.unsettled tag)
    by None known = subst (λ u. IsStated s.entries u) (sym (removed-absent link.unsettled tag (none_from (entry_at link.unsettled tag) (is.each tag ∙ ap is_unsettled known)))) is
    by (Some kept) known = stated_stored s link is tag (record kept { settled = true }) (has_begun kept.contents) (λ taken no. absurd (false_is_not_true (sym no)))

-- the sender's disposition, which settles a delivery or does not
pub stated_sent : {T : Type 0} (settled : Bool) (state : Option DeliveryState) (s : Store) (link : Receiver T) → IsStated s.entries link.unsettled → (tag : Tag)
    → IsStated (if settled then settled_at tag s else s).entries (map_after_sender_disposition settled state tag link.unsettled)
stated_sent true state s link is tag = stated_settling s link is tag
stated_sent false state s link is tag = stated_changed (λ _. state) (tag ∷ []) s.entries link.unsettled is

-- ---- a transfer

pub begun_not_taken : (more : Bool) (held : Held) → (if more then Begun held else Complete held) ≡ Taken → ⊥
begun_not_taken true held h = cc
begun_not_taken false held h = cc

module _ {T : Type 0} (old : Store) (before : Receiver T) (is : IsStated old.entries before.unsettled) (tag : Tag) (t : Transfer) (bytes : List ℕ) where
  added_stated : (begins : Bool) (found : Option Kept) (came : Arrival) (new : Store) (after : Receiver T) → entry_at old.entries tag ≡ found
      → AddsTo found begins tag t bytes old before came new after → IsStated new.entries after.unsettled
  added_stated begins None came new after known a =
      subst (λ (s : Store). IsStated s.entries after.unsettled) (sym a.0) (subst (λ (r : Receiver T). IsStated old.entries r.unsettled) (sym a.1) is)
  added_stated begins (Some kept) came new after known a =
      let next : Kept = a.0 in
      let had : next.settled ≡ false → IsSome (entry_at before.unsettled tag) = λ unsettled_yet.
      is.each tag ∙ ap is_unsettled known ∙ ap not (or_parts kept.settled (is_settled t) (sym a.1.settled ∙ unsettled_yet)).0 in
      subst (λ (s : Store). IsStated s.entries after.unsettled) (sym a.2)
      (subst (λ (r : Receiver T). IsStated (stored t.more tag next old).entries r.unsettled) (sym a.3)
      (stated_stored old before is tag next t.more (λ taken. had)))

  -- the link has the entries that it is to have after any transfer
  pub stated_handled : (aborted is_new begins : Bool) (came : Arrival) (replaced : Option Stage) (new : Store) (after : Receiver T)
      → Handles aborted is_new begins tag t bytes old before came replaced new after → IsStated new.entries after.unsettled
  stated_handled true is_new begins came replaced new after h =
      subst (λ (s : Store). IsStated s.entries after.unsettled) (sym h.0)
      (subst (λ (r : Receiver T). IsStated (dropped tag old).entries r.unsettled) (sym h.1) (stated_dropped old.entries before.unsettled is tag))
  stated_handled false true begins came replaced new after h =
      let link : Receiver T = h.0 in
      let first : Kept = first_kept (first_held t bytes) t.more in
      subst (λ (r : Receiver T). IsStated new.entries r.unsettled) (sym h.2)
      (subst (λ (s : Store). IsStated s.entries link.unsettled) (sym h.1.store)
      (subst (λ (r : Receiver T). IsStated (stored t.more tag first old).entries r.unsettled) (sym h.1.link)
      (stated_stored old before is tag first t.more (λ taken. absurd (begun_not_taken t.more (first_held t bytes) taken)))))
  stated_handled false false begins came replaced new after h = added_stated begins (entry_at old.entries tag) came new after refl h.0
