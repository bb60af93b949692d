-- What is kept of all deliveries once one of them has changed.
use Rattle.std.proofs.Common.{◌≡◌, ◌∙◌, ◌++◌, sym, ap, subst, refl, Bool, true, false, Some, List}
use Rattle.std.specs.Prelude.{◌&&◌, ◌||◌, not, ℕ, if◌then◌else◌, Result, Ok, Err, IfOk, OnErr, OnOk}
use Rattle.amqp_link_types.specs.declared.types.transfer.Transfer.{Transfer}
use Rattle.amqp_link_core.specs.declared.incomplete_transfer.refused.RefusedTransfer.{RefusedTransfer}
use Rattle.amqp_link_receiver.specs.ReceiverDeliveries.{is_settled}
use Rattle.amqp_link_receiver.specs.Receivers.{Receiver}
use Rattle.amqp_link_types.specs.Entries.{Tag, Entries, entry_at, with_entry, without_entry}
use Rattle.amqp_link_types.proofs.MapLemmas.{false_is_not_true, put-same}
use Rattle.amqp_link_core.specs.Held.{Held}
use Rattle.amqp_link_inbox.specs.Disposing.{settled_at, settled_in}
use Rattle.amqp_link_inbox.specs.KeptDeliveries.{IsAdded, has_begun}
use Rattle.amqp_link_inbox.specs.Storing.{AddsTo, Store, added_arrival, held_in, stated, stored, stored_by}
use Rattle.amqp_link_inbox.specs.Taking.{taken_from, with_taken}
use Rattle.amqp_link_inbox.specs.declared.arrival.Arrival.{Arrival}
use Rattle.amqp_link_inbox.specs.declared.kept.Contents.{Contents}
use Rattle.amqp_link_inbox.specs.declared.kept.Contents.TheVariants.{Taken}
use Rattle.amqp_link_inbox.specs.declared.kept.Kept.{Kept}

abbrev pub store_of : Entries Kept → List Held → Store
store_of entries settled = record { entries = entries; settled = settled }

-- the same entries and the same list make the same store
pub store_is : (e f : Entries Kept) (l m : List Held) → e ≡ f → l ≡ m → store_of e l ≡ store_of f m
store_is e f l m p q = λ i. store_of (p i) (q i)

-- what holds in any case holds of a refusal
pub on_any_err : {A E : Type 0} {P : Type 0} (r : Result A E) → P → OnErr r P
on_any_err (Ok a) p = tt
on_any_err (Err e) p = p

module _ (s : Store) (tag : Tag) (kept : Kept) (known : entry_at s.entries tag ≡ Some kept) where
  -- one of which more is to come is settled
  pub settled_begun : has_begun kept.contents ≡ true
      → settled_at tag s ≡ record { entries = with_entry s.entries tag (record kept { settled = true }); settled = s.settled }
  settled_begun begun =
      ap (λ o. settled_in o tag s) known ∙ ap (λ b. stored_by true b tag (record kept { settled = true }) s) begun

  -- another one leaves
  pub settled_leaves : has_begun kept.contents ≡ false
      → settled_at tag s ≡ record { entries = without_entry s.entries tag; settled = s.settled ++ held_in kept.contents }
  settled_leaves begun =
      ap (λ o. settled_in o tag s) known ∙ ap (λ b. stored_by true b tag (record kept { settled = true }) s) begun

-- a delivery of which more is to come, or that is not settled, is kept by its tag
pub stored_stays : (s : Store) (tag : Tag) (next : Kept) (more : Bool) → (more ≡ false → next.settled ≡ false)
    → stored more tag next s ≡ store_of (with_entry s.entries tag next) s.settled
stored_stays s tag next more last = by next.settled more last
  where
    by : (settled more : Bool) → (more ≡ false → settled ≡ false) → stored_by settled more tag next s ≡ store_of (with_entry s.entries tag next) s.settled
    by true true last = refl
    by true false last = absurd (false_is_not_true (sym (last refl)))
    by false more last = refl

-- another one leaves
pub stored_leaves : (s : Store) (tag : Tag) (next : Kept) (more : Bool) → more ≡ false → next.settled ≡ true
    → stored more tag next s ≡ store_of (without_entry s.entries tag) (s.settled ++ held_in next.contents)
stored_leaves s tag next more last settled = ap (λ m. stored_by next.settled m tag next s) last ∙ ap (λ b. stored_by b false tag next s) settled

-- ---- a further transfer

last_settles : (more settled : Bool) → (not more && settled) ≡ true → (more ≡ false) × (settled ≡ true)
last_settles true settled h = absurd (false_is_not_true h)
last_settles false settled h = (refl, h)

not_last : (more settled : Bool) → (not more && settled) ≡ false → more ≡ false → settled ≡ false
not_last true settled h last = absurd (false_is_not_true (sym last))
not_last false settled h last = h

module _ {T : Type 0} (s : Store) (before after : Receiver T) (tag : Tag) (kept next : Kept) (begins : Bool) (t : Transfer) (bytes : List ℕ)
    (entries : Entries Kept) (settled : List Held) (known : entry_at s.entries tag ≡ Some kept) where
  adds : (came : Arrival) → IsAdded begins t bytes kept next → after ≡ stated tag next before
      → came ≡ added_arrival (has_begun kept.contents) t.more next.settled → store_of entries settled ≡ stored t.more tag next s
      → AddsTo (entry_at s.entries tag) begins tag t bytes s before came (store_of entries settled) after
  adds came added link arrival store =
      subst (λ o. AddsTo o begins tag t bytes s before came (store_of entries settled) after) (sym known) (next, added, store, link, arrival)

  -- it stays in its place
  pub adds_in_place : (r : Result Arrival RefusedTransfer) → OnOk r (IsAdded begins t bytes kept next) → OnOk r (after ≡ stated tag next before)
      → IfOk r (λ came. came ≡ added_arrival (has_begun kept.contents) t.more next.settled)
      → (not t.more && (kept.settled || is_settled t)) ≡ false → entries ≡ with_entry s.entries tag next → settled ≡ s.settled
      → IfOk r (λ came. AddsTo (entry_at s.entries tag) begins tag t bytes s before came (store_of entries settled) after)
  adds_in_place (Err e) added link arrival stays put same = tt
  adds_in_place (Ok came) added link arrival stays put same =
      adds came added link arrival (store_is _ _ _ _ put same
      ∙ sym (stored_stays s tag next t.more (λ last. added.settled ∙ not_last t.more (kept.settled || is_settled t) stays last)))

  -- a refusal leaves all as it was
  pub left_in_place : {A E : Type 0} (r : Result A E) → OnErr r ((next ≡ kept) × (after ≡ before)) → entries ≡ with_entry s.entries tag next
      → settled ≡ s.settled → OnErr r ((store_of entries settled ≡ s) × (after ≡ before))
  left_in_place (Ok a) left put same = tt
  left_in_place (Err e) left put same =
      (store_is _ _ _ _ (put ∙ ap (with_entry s.entries tag) left.0 ∙ put-same s.entries tag kept known) same, left.1)

  -- it leaves
  pub adds_last : (came : Arrival) → IsAdded begins t bytes kept next → after ≡ stated tag next before
      → came ≡ added_arrival (has_begun kept.contents) t.more next.settled
      → (not t.more && (kept.settled || is_settled t)) ≡ true → entries ≡ without_entry s.entries tag → settled ≡ s.settled ++ held_in next.contents
      → AddsTo (entry_at s.entries tag) begins tag t bytes s before came (store_of entries settled) after
  adds_last came added link arrival leaves gone held =
      let last = last_settles t.more (kept.settled || is_settled t) leaves in
      adds came added link arrival (store_is _ _ _ _ gone held ∙ sym (stored_leaves s tag next t.more last.0 (added.settled ∙ last.1)))

-- what was held is gone, or as it was
pub taken_or_same : (b : Bool) (entries new : Entries Kept) (tag : Tag) (kept : Kept) (contents : Contents) → entry_at entries tag ≡ Some kept
    → contents ≡ (if b then Taken else kept.contents) → new ≡ with_entry entries tag (record kept { contents = contents })
    → new ≡ (if b then with_taken tag entries else entries)
taken_or_same true entries new tag kept contents known is written =
    written ∙ ap (λ c. with_entry entries tag (record kept { contents = c })) is ∙ sym (ap (λ o. taken_from o tag entries) known)
taken_or_same false entries new tag kept contents known is written =
    written ∙ ap (λ c. with_entry entries tag (record kept { contents = c })) is ∙ put-same entries tag kept known
