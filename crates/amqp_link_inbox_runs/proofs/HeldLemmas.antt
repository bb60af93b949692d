-- After any list of calls the bytes that are held of a delivery are those that have come of it.
use Rattle.std.proofs.Common.{◌≡◌, ◌∙◌, ◌++◌, ap, ap₂, refl, subst, sym, inl, inr, Bool, true, false, cond, not, List, [], ◌∷◌, Option, Some, None, Ok, ℕ}
use Rattle.std.specs.Prelude.{◌&&◌, IfSome, bytes_eq, Decides, if◌then◌else◌, unwrap_or}
use Rattle.std.proofs.lemmas.List.{append-nil}
use Rattle.std.proofs.lemmas.Option.{same_Some}
use Rattle.std.proofs.lemmas.Slice.Eq.{bytes_eq-Decides}
use Rattle.amqp_link_types.specs.Entries.{Tag, IsMap, entry_at, without_entry}
use Rattle.amqp_link_types.specs.declared.types.transfer.Transfer.{Transfer}
use Rattle.amqp_link_types.proofs.MapLemmas.{entry_at-put, entry_at-removed, false_is_not_true, same_tag}
use Rattle.amqp_link_receiver.specs.ReceiverDeliveries.{is_settled}
use Rattle.amqp_link_receiver.specs.Receivers.{Receiver}
use Rattle.amqp_link_inbox.specs.Bytes.{bytes_at, bytes_in, bytes_kept}
use Rattle.amqp_link_inbox.specs.Inboxes.{Arrives, Handles, InboxState, begins, is_new, resumed_at, store_of, tag_of}
use Rattle.amqp_link_inbox.specs.KeptDeliveries.{Grows, bytes_until, finished, first_kept, has_begun, start_of}
use Rattle.amqp_link_inbox.specs.Storing.{AddsTo, IsStated, Store, added_arrival, first_held, next_arrival, stored_by}
use Rattle.amqp_link_inbox.specs.declared.arrival.Arrival.{Arrival}
use Rattle.amqp_link_inbox.specs.declared.arrival.Arrived.{Arrived}
use Rattle.amqp_link_inbox.specs.declared.kept.Contents.{Contents}
use Rattle.amqp_link_inbox.specs.declared.kept.Contents.TheVariants.{Begun, Complete, Taken}
use Rattle.amqp_link_inbox.specs.declared.kept.Kept.{Kept}
use Rattle.amqp_link_inbox.specs.declared.kept.Stage.{Stage}
use Rattle.amqp_link_inbox_runs.specs.InboxRuns.{IsRun, Moment, begins_by, brings_by, came, come_after, come_by, names, payload_of, start_by, start_for}
use Rattle.amqp_link_inbox_runs.specs.InboxSteps.{Decoder, Step}
use Rattle.amqp_link_inbox_runs.specs.declared.call.AnswerOf.{AnswerOf}
use Rattle.amqp_link_inbox_runs.specs.declared.call.AnswerOf.TheVariants as answer
use Rattle.amqp_link_inbox_runs.specs.declared.call.Call.{Call}
use Rattle.amqp_link_inbox_runs.specs.declared.call.Call.TheVariants as call
use Rattle.amqp_link_inbox_runs.proofs.EffectLemmas.{Effect, effect_of}

-- what is held is this, if something is
abbrev pub Are : List ℕ → Option (List ℕ) → Type 0
Are bytes held = IfSome held (λ b. b ≡ bytes)

-- what is held at first
pub at_first : (held : Option (List ℕ)) → Are (unwrap_or held []) held
at_first None = tt
at_first (Some bytes) = refl

-- ---- a transfer

finished_bytes : (more : Bool) (c : Contents) → bytes_in (finished more c) ≡ bytes_in c
finished_bytes true c = refl
finished_bytes false (Begun held) = refl
finished_bytes false (Complete held) = refl
finished_bytes false Taken = refl

pub is_named : (tag : Tag) (o : Option Tag) → names tag o ≡ true → o ≡ Some tag
is_named tag None h = absurd (false_is_not_true h)
is_named tag (Some named) h = by (bytes_eq tag named) (bytes_eq-Decides tag named) h
  where
    by : (b : Bool) → Decides b (tag ≡ named) → b ≡ true → Some named ≡ Some tag
    by true d h = ap Some (sym (d.0 refl))
    by false d h = absurd (false_is_not_true h)

module _ (s : Store) (tag : Tag) (is : IsMap s.entries) where
  none_left : bytes_at (without_entry s.entries tag) tag ≡ None
  none_left = ap bytes_kept (entry_at-removed s.entries tag tag is ∙ ap (λ b. cond b None (entry_at s.entries tag)) (same_tag tag))

  -- what is kept holds these bytes, or is kept by its tag no longer
  stored_are : (settled more : Bool) (next : Kept) (bytes : List ℕ) → Are bytes (bytes_in next.contents)
      → Are bytes (bytes_at (stored_by settled more tag next s).entries tag)
  stored_are true false next bytes h = subst (Are bytes) (sym none_left) tt
  stored_are true true next bytes h = subst (Are bytes) (sym (ap bytes_kept (entry_at-put s.entries tag next))) h
  stored_are false more next bytes h = subst (Are bytes) (sym (ap bytes_kept (entry_at-put s.entries tag next))) h

  module _ {T : Type 0} (before : Receiver T) (t : Transfer) (bytes held : List ℕ) (had : Are held (bytes_at s.entries tag)) where
    -- the bytes after a transfer that begins no delivery, by which arrival it is
    abbrev After : Bool → Arrival → List ℕ
    After begins arrival = bytes_until (start_for arrival (start_of begins t)) held ++ bytes

    next_starts : (more settled : Bool) (start : Option (ℕ × ℕ)) → start_for (next_arrival more settled) start ≡ start
    next_starts true settled start = refl
    next_starts false true start = refl
    next_starts false false start = refl

    grown_are : (old grown : Contents) → Are held (bytes_in old) → (begins settled : Bool) → Grows begins t bytes old grown
        → Are (After begins (added_arrival (has_begun old) t.more settled)) (bytes_in grown)
    grown_are (Begun old) grown was begins settled g =
        subst (λ c. Are (After begins (next_arrival t.more settled)) (bytes_in c)) (sym g.2)
        (g.1.joined ∙ ap₂ (λ start b. bytes_until start b ++ bytes) (sym (next_starts t.more settled (start_of begins t))) was)
    grown_are (Complete old) grown was begins settled g =
        subst (λ c. Are (held ++ bytes) (bytes_in c)) (sym g.0) (was ∙ sym (append-nil held) ∙ ap (λ b. held ++ b) (sym g.1))
    grown_are Taken grown was begins settled g = subst (λ c. Are (held ++ bytes) (bytes_in c)) (sym g.0) tt

    added_are : (begins : Bool) (found : Option Kept) (arrival : Arrival) (new : Store) (after : Receiver T) → entry_at s.entries tag ≡ found
        → AddsTo found begins tag t bytes s before arrival new after → Are (After begins arrival) (bytes_at new.entries tag)
    added_are begins None arrival new after here a =
        subst (λ (n : Store). Are (After begins arrival) (bytes_at n.entries tag)) (sym a.0) (subst (λ o. Are (After begins arrival) (bytes_kept o)) (sym here) tt)
    added_are begins (Some kept) arrival new after here a =
        let next : Kept = a.0 in
        let was = subst (λ o. Are held (bytes_kept o)) here had in
        let whole : List ℕ = After begins (added_arrival (has_begun kept.contents) t.more next.settled) in
        subst (λ r. Are (After begins r) (bytes_at new.entries tag)) (sym a.4)
        (subst (λ (n : Store). Are whole (bytes_at n.entries tag)) (sym a.2)
        (stored_are next.settled t.more next whole
        (subst (Are whole) (sym (ap bytes_in a.1.contents ∙ finished_bytes t.more a.1.grown)) (grown_are kept.contents a.1.grown was begins next.settled a.1.grows))))

    -- a new delivery has its own bytes
    abbrev Now : Bool → Bool → Arrival → List ℕ
    Now new begins arrival = if new then bytes else After begins arrival

    first_bytes : (more : Bool) → Are bytes (bytes_in (if more then Begun (first_held t bytes) else Complete (first_held t bytes)))
    first_bytes true = append-nil bytes
    first_bytes false = append-nil bytes

    handled_are : (aborted is_new begins : Bool) (arrival : Arrival) (replaced : Option Stage) (new : Store) (after : Receiver T)
        → Handles aborted is_new begins tag t bytes s before arrival replaced new after → Are (Now (not aborted && is_new) begins arrival) (bytes_at new.entries tag)
    handled_are true is_new begins arrival replaced new after h =
        subst (Are (After begins arrival)) (sym (ap (λ (n : Store). bytes_at n.entries tag) h.0 ∙ none_left)) tt
    handled_are false true begins arrival replaced new after h =
        subst (λ (n : Store). Are bytes (bytes_at n.entries tag)) (sym h.1.store)
        (stored_are (is_settled t) t.more (first_kept (first_held t bytes) t.more) bytes (first_bytes t.more))
    handled_are false false begins arrival replaced new after h = added_are begins (entry_at s.entries tag) arrival new after refl h.0

-- ---- a call

effect_are : (o n : Option Kept) (held : List ℕ) → Effect o n → Are held (bytes_kept o) → Are held (bytes_kept n)
effect_are o None held e had = tt
effect_are None (Some new) held e had = absurd e
effect_are (Some old) (Some new) held e had =
    elim (e.0) [
      | inl stays ↦ subst (λ c. Are held (bytes_in c)) (sym stays) had
      | inr gone ↦ subst (λ c. Are held (bytes_in c)) (sym gone) tt
    ]

module _ {T B : Type 0} (decoded : Decoder B) (tag : Tag) where
  pub came_are : (old new : InboxState T) (t : Transfer) (bytes held : List ℕ) (arrived : Arrived) → IsStated old.deliveries old.link.unsettled
      → Are held (bytes_at old.deliveries tag) → tag_of old t ≡ Some tag → Arrives old t bytes arrived new
      → Are (if not t.aborted && is_new old t then bytes else bytes_until (start_for arrived.arrival (resumed_at old t)) held ++ bytes) (bytes_at new.deliveries tag)
  came_are old new t bytes held arrived is had named a =
      let here : a.tag ≡ tag = same_Some a.tag tag (sym a.tag_is ∙ named) in
      handled_are (store_of old) tag is.entries_map old.link t bytes held had t.aborted (is_new old t) (begins old) arrived.arrival arrived.replaced (store_of new) a.link
      (subst (λ g. Handles t.aborted (is_new old t) (begins old) g t bytes (store_of old) old.link arrived.arrival arrived.replaced (store_of new) a.link) here a.handles)

  pub step_are : (old new : InboxState T) (c : Call) (a : AnswerOf B) (held : List ℕ) → IsStated old.deliveries old.link.unsettled → Step decoded old c a new
      → Are held (bytes_at old.deliveries tag)
      → Are (come_by (brings_by tag old c a) (begins_by old c) (start_by old c a) (payload_of c) held) (bytes_at new.deliveries tag)
  step_are old new c a held is step had = by (brings_by tag old c a) refl
    where
      other : brings_by tag old c a ≡ false → Are held (bytes_at new.deliveries tag)
      other is_not = effect_are (entry_at old.deliveries tag) (entry_at new.deliveries tag) held (effect_of tag decoded old new is c a step is_not) had

      own : (c : Call) (a : AnswerOf B) → Step decoded old c a new → brings_by tag old c a ≡ true
          → Are (come_by true (begins_by old c) (start_by old c a) (payload_of c) held) (bytes_at new.deliveries tag)
      own (call.OnIncomingTransfer t bytes) (answer.Arrived (Ok arrived)) s is_so = came_are old new t bytes held arrived is had (is_named tag (tag_of old t) is_so) s
      own _ _ s is_so = absurd (false_is_not_true is_so)

      by : (b : Bool) → brings_by tag old c a ≡ b → Are (come_by b (begins_by old c) (start_by old c a) (payload_of c) held) (bytes_at new.deliveries tag)
      by true is_so = own c a step is_so
      by false is_not = other is_not

  -- ---- a list of calls

  pub run_are : (old new : InboxState T) (moments : List (Moment T B)) (held : List ℕ) → IsStated old.deliveries old.link.unsettled → IsRun decoded old moments new
      → Are held (bytes_at old.deliveries tag) → Are (came held tag moments) (bytes_at new.deliveries tag)
  run_are old new [] held is run had = subst (λ (w : InboxState T). Are held (bytes_at w.deliveries tag)) (sym run) had
  run_are old new (m ∷ moments) held is run had =
      let start = subst (λ (w : InboxState T). IsStated w.deliveries w.link.unsettled) (sym run.0) is in
      let here = subst (λ (w : InboxState T). Are held (bytes_at w.deliveries tag)) (sym run.0) had in
      run_are m.after new moments (come_after tag m held) run.2 run.3 (step_are m.before m.after m.call m.answer held start run.1 here)
