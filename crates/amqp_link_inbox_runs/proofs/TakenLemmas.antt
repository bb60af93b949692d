-- After any list of calls a delivery was handed out at most once, with the bytes that had come of it.
use Rattle.std.proofs.Common.{◌≡◌, ◌∙◌, ◌++◌, ap, refl, subst, sym, inl, inr, Bool, true, false, cond, not, List, [], ◌∷◌, Option, Some, None, Result, Ok, Err, ℕ}
use Rattle.std.specs.Prelude.{◌&&◌, ◌||◌, IsSomeAnd, bytes_eq, if◌then◌else◌}
use Rattle.std.specs.List.{concat, list_any}
use Rattle.std.specs.Option.{option_map}
use Rattle.std.proofs.lemmas.Bool.{and_parts}
use Rattle.std.proofs.lemmas.Option.{same_Some}
use Rattle.amqp_link_types.specs.Entries.{Tag, IsMap, entry_at, without_entry}
use Rattle.amqp_link_types.specs.declared.types.definitions.OutputHandle.{OutputHandle}
use Rattle.amqp_link_types.specs.declared.types.transfer.Transfer.{Transfer}
use Rattle.amqp_link_types.proofs.MapLemmas.{entry_at-put, entry_at-removed, false_is_not_true, same_tag}
use Rattle.amqp_link_core.specs.Held.{Held, held_bytes}
use Rattle.amqp_link_receiver.specs.Completing.{IsDelivery}
use Rattle.amqp_link_receiver.specs.Receivers.{Receiver}
use Rattle.amqp_link_inbox.specs.Bytes.{bytes_at, bytes_in, bytes_kept}
use Rattle.amqp_link_inbox.specs.Inboxes.{Handles, InboxState, begins, is_new, store_of, tag_of}
use Rattle.amqp_link_inbox.specs.KeptDeliveries.{Grows, finished, stage_in, stage_of}
use Rattle.amqp_link_inbox.specs.Storing.{AddsTo, IsStated, Store, stored_by}
use Rattle.amqp_link_inbox.specs.Taking.{AnswersTake, IsGivenBack, complete_in, complete_of, has_taken, take_refusal, taken_from, with_taken}
use Rattle.amqp_link_inbox.specs.declared.arrival.Arrival.{Arrival}
use Rattle.amqp_link_inbox.specs.declared.error.TakeError.{TakeError}
use Rattle.amqp_link_inbox.specs.declared.error.TakeError.TheVariants as error
use Rattle.amqp_link_inbox.specs.declared.kept.Contents.{Contents}
use Rattle.amqp_link_inbox.specs.declared.kept.Contents.TheVariants.{Begun, Complete, Taken}
use Rattle.amqp_link_inbox.specs.declared.kept.Kept.{Kept}
use Rattle.amqp_link_inbox.specs.declared.kept.Stage.{Stage}
use Rattle.amqp_link_inbox_runs.specs.InboxRuns.{IsRun, IsTakenFrom, Moment, TakesOnce, TakesWhatCame, begins_by, brings_by, came, does_begin, held_at, takes, takes_by, until_begun}
use Rattle.amqp_link_inbox_runs.specs.InboxSteps.{Decoder, Step}
use Rattle.amqp_link_inbox_runs.specs.declared.call.AnswerOf.{AnswerOf}
use Rattle.amqp_link_inbox_runs.specs.declared.call.AnswerOf.TheVariants as answer
use Rattle.amqp_link_inbox_runs.specs.declared.call.Call.{Call}
use Rattle.amqp_link_inbox_runs.specs.declared.call.Call.TheVariants as call
use Rattle.amqp_link_inbox_runs.proofs.EffectLemmas.{Effect, effect_of}
use Rattle.amqp_link_inbox_runs.proofs.HeldLemmas.{Are, at_first, is_named, run_are}

-- it was taken, or nothing is kept of it
abbrev Gone : Option Kept → Type 0
Gone None = Unit {0}
Gone (Some kept) = kept.contents ≡ Taken

no_error : {e : TakeError} → Some e ≡ None → ⊥
no_error h = cc

effect_gone : (o n : Option Kept) → Effect o n → Gone o → Gone n
effect_gone o None e gone = tt
effect_gone None (Some new) e gone = absurd e
effect_gone (Some old) (Some new) e gone = elim (e.0) [ inl stays ↦ stays ∙ gone | inr taken ↦ taken ]

module _ (s : Store) (tag : Tag) (is : IsMap s.entries) where
  removed_gone : Gone (entry_at (without_entry s.entries tag) tag)
  removed_gone = subst Gone (sym (entry_at-removed s.entries tag tag is ∙ ap (λ b. cond b None (entry_at s.entries tag)) (same_tag tag))) tt

  stored_gone : (settled more : Bool) (next : Kept) → next.contents ≡ Taken → Gone (entry_at (stored_by settled more tag next s).entries tag)
  stored_gone true false next h = removed_gone
  stored_gone true true next h = subst Gone (sym (entry_at-put s.entries tag next)) h
  stored_gone false more next h = subst Gone (sym (entry_at-put s.entries tag next)) h

  finished_taken : (more : Bool) → finished more Taken ≡ Taken
  finished_taken true = refl
  finished_taken false = refl

  -- a transfer that begins no delivery
  handled_gone : {T : Type 0} (before : Receiver T) (t : Transfer) (bytes : List ℕ) (aborted is_new begins : Bool) (arrival : Arrival) (replaced : Option Stage) (new : Store)
      (after : Receiver T) → Handles aborted is_new begins tag t bytes s before arrival replaced new after → (not aborted && is_new) ≡ false
      → Gone (entry_at s.entries tag) → Gone (entry_at new.entries tag)
  handled_gone before t bytes true is_new begins arrival replaced new after h is_not gone =
      subst (λ (n : Store). Gone (entry_at n.entries tag)) (sym h.0) removed_gone
  handled_gone before t bytes false true begins arrival replaced new after h is_not gone = absurd (false_is_not_true (sym is_not))
  handled_gone {T} before t bytes false false begins arrival replaced new after h is_not gone = by (entry_at s.entries tag) refl h.0
    where
      by : (found : Option Kept) → entry_at s.entries tag ≡ found → AddsTo found begins tag t bytes s before arrival new after → Gone (entry_at new.entries tag)
      by None here a = subst (λ (n : Store). Gone (entry_at n.entries tag)) (sym a.0) gone
      by (Some kept) here a =
          let next : Kept = a.0 in
          let was : kept.contents ≡ Taken = subst Gone here gone in
          let grows = subst (λ c. Grows begins t bytes c a.1.grown) was a.1.grows in
          subst (λ (n : Store). Gone (entry_at n.entries tag)) (sym a.2)
          (stored_gone next.settled t.more next (a.1.contents ∙ ap (finished t.more) grows.0 ∙ finished_taken t.more))

-- ---- a delivery is taken

refused_takes_none : {A : Type 0} (e : TakeError) (r : Result A TakeError) → AnswersTake (Some e) r → has_taken r ≡ false
refused_takes_none e (Ok taken) h = absurd (no_error h)
refused_takes_none e (Err (error.Undecoded undecoded)) h = absurd (no_error h)
refused_takes_none e (Err error.OutOfMemory) h = refl
refused_takes_none e (Err other) h = refl

gone_is_refused : (o : Option Kept) (handle : Option OutputHandle) → Gone o → (e : TakeError) × (take_refusal (option_map stage_of o) handle ≡ Some e)
gone_is_refused None handle gone = (error.UnknownTag, refl)
gone_is_refused (Some kept) handle gone = (error.AlreadyTaken, ap (λ c. take_refusal (Some (stage_in c)) handle) gone)

complete_contents : (c : Contents) (handle : Option OutputHandle) → take_refusal (Some (stage_in c)) handle ≡ None
    → (held : Held) × (complete_in c ≡ Some held) × (bytes_in c ≡ Some (held_bytes held))
complete_contents (Begun held) handle h = absurd (no_error h)
complete_contents (Complete held) handle h = (held, refl, refl)
complete_contents Taken handle h = absurd (no_error h)

complete_kept : (o : Option Kept) (handle : Option OutputHandle) → take_refusal (option_map stage_of o) handle ≡ None
    → (held : Held) × (complete_of o ≡ Some held) × (bytes_kept o ≡ Some (held_bytes held))
complete_kept None handle h = absurd (no_error h)
complete_kept (Some kept) handle h = complete_contents kept.contents handle h

is_tag : (tag named : Tag) → bytes_eq tag named ≡ true → named ≡ tag
is_tag tag named h = same_Some named tag (is_named tag (Some named) h)

module _ {T B : Type 0} (decoded : Decoder B) (tag : Tag) where
  -- what was taken, or is not kept, is not taken again
  not_again : (old new : InboxState T) (c : Call) (a : AnswerOf B) → Step decoded old c a new → Gone (entry_at old.deliveries tag) → takes_by tag c a ≡ false
  not_again old new (call.Take named) (answer.Taken r) s gone = by (bytes_eq tag named) refl
    where
      by : (b : Bool) → bytes_eq tag named ≡ b → (b && has_taken r) ≡ false
      by false is_not = refl
      by true is_so =
          let refusal = gone_is_refused (entry_at old.deliveries named) old.link.output_handle (subst (λ t. Gone (entry_at old.deliveries t)) (sym (is_tag tag named is_so)) gone) in
          refused_takes_none refusal.0 r (subst (λ o. AnswersTake o r) refusal.1 s.refused)
  not_again old new _ _ s gone = refl

  gone_after : (old new : InboxState T) (c : Call) (a : AnswerOf B) → IsStated old.deliveries old.link.unsettled → Step decoded old c a new
      → (brings_by tag old c a && begins_by old c) ≡ false → Gone (entry_at old.deliveries tag) → Gone (entry_at new.deliveries tag)
  gone_after old new c a is step is_not gone = by (brings_by tag old c a) refl is_not
    where
      own : (c : Call) (a : AnswerOf B) → Step decoded old c a new → brings_by tag old c a ≡ true → begins_by old c ≡ false → Gone (entry_at new.deliveries tag)
      own (call.OnIncomingTransfer t bytes) (answer.Arrived (Ok arrived)) s is_so is_not =
          let here : s.tag ≡ tag = same_Some s.tag tag (sym s.tag_is ∙ is_named tag (tag_of old t) is_so) in
          handled_gone (store_of old) tag is.entries_map old.link t bytes t.aborted (is_new old t) (begins old) arrived.arrival arrived.replaced (store_of new) s.link
          (subst (λ g. Handles t.aborted (is_new old t) (begins old) g t bytes (store_of old) old.link arrived.arrival arrived.replaced (store_of new) s.link) here s.handles)
          is_not gone
      own _ _ s is_so is_not = absurd (false_is_not_true is_so)

      by : (b : Bool) → brings_by tag old c a ≡ b → (b && begins_by old c) ≡ false → Gone (entry_at new.deliveries tag)
      by true is_so is_not = own c a step is_so is_not
      by false other is_not = effect_gone (entry_at old.deliveries tag) (entry_at new.deliveries tag) (effect_of tag decoded old new is c a step other) gone

  no_takes : (w new : InboxState T) (moments : List (Moment T B)) → IsStated w.deliveries w.link.unsettled → IsRun decoded w moments new
      → Gone (entry_at w.deliveries tag) → list_any (takes tag) (until_begun tag moments) ≡ false
  no_takes w new [] is run gone = refl
  no_takes w new (m ∷ moments) is run gone =
      let start = subst (λ (w : InboxState T). IsStated w.deliveries w.link.unsettled) (sym run.0) is in
      let here = subst (λ (w : InboxState T). Gone (entry_at w.deliveries tag)) (sym run.0) gone in
      by (does_begin tag m) refl (not_again m.before m.after m.call m.answer run.1 here)
      (λ is_not. no_takes m.after new moments run.2 run.3 (gone_after m.before m.after m.call m.answer start run.1 is_not here))
    where
      neither : (x y : Bool) → x ≡ false → y ≡ false → (x || y) ≡ false
      neither true y h k = absurd (false_is_not_true (sym h))
      neither false y h k = k

      by : (b : Bool) → does_begin tag m ≡ b → takes tag m ≡ false → (does_begin tag m ≡ false → list_any (takes tag) (until_begun tag moments) ≡ false)
          → list_any (takes tag) (if b then [] else m ∷ until_begun tag moments) ≡ false
      by true begins none later = refl
      by false is_not none later = neither (takes tag m) (list_any (takes tag) (until_begun tag moments)) none (later is_not)

  taken_gone : (old new : InboxState T) (c : Call) (a : AnswerOf B) → Step decoded old c a new → takes_by tag c a ≡ true → Gone (entry_at new.deliveries tag)
  taken_gone old new (call.Take named) (answer.Taken r) s is_so =
      let is = and_parts (bytes_eq tag named) (has_taken r) is_so in
      subst (λ (n : Store). Gone (entry_at n.entries tag)) (sym s.after.store)
      (subst (λ b. Gone (entry_at (if b then with_taken named old.deliveries else old.deliveries) tag)) (sym is.1)
      (subst (λ t. Gone (entry_at (with_taken t old.deliveries) tag)) (sym (is_tag tag named is.0)) (by (entry_at old.deliveries tag) refl)))
    where
      by : (o : Option Kept) → entry_at old.deliveries tag ≡ o → Gone (entry_at (taken_from o tag old.deliveries) tag)
      by None known = subst Gone (sym known) tt
      by (Some kept) known = subst Gone (sym (entry_at-put old.deliveries tag (record kept { contents = Taken }))) refl
  taken_gone old new _ _ s is_so = absurd (false_is_not_true is_so)

  pub run_takes_once : (old new : InboxState T) (moments : List (Moment T B)) → IsStated old.deliveries old.link.unsettled → IsRun decoded old moments new → TakesOnce tag moments
  run_takes_once old new [] is run = tt
  run_takes_once old new (m ∷ moments) is run = (
    λ is_so. no_takes m.after new moments run.2 run.3 (taken_gone m.before m.after m.call m.answer run.1 is_so),
    run_takes_once m.after new moments run.2 run.3,
  )

  -- ---- what is handed out

  from_bytes : (old new : InboxState T) (c : Call) (a : AnswerOf B) (bytes : List ℕ) → Are bytes (bytes_at old.deliveries tag) → Step decoded old c a new
      → takes_by tag c a ≡ true → IsTakenFrom decoded bytes old a
  from_bytes old new (call.Take named) (answer.Taken (Ok delivery)) bytes are s is_so =
      let is = and_parts (bytes_eq tag named) true is_so in
      let complete = complete_kept (entry_at old.deliveries named) old.link.output_handle s.refused in
      let held : Held = complete.0 in
      let same : held_bytes held ≡ bytes = subst (Are bytes) (ap (λ t. bytes_at old.deliveries t) (sym (is_tag tag named is.0)) ∙ complete.2) are in (
        held.performative,
        subst (λ b. IsDelivery old.link held.performative (decoded b) delivery) same
            (subst (λ o. IsSomeAnd o (λ held. IsDelivery old.link held.performative (decoded (held_bytes held)) delivery)) complete.1 s.delivered),
      )
  from_bytes old new (call.Take named) (answer.Taken (Err (error.Undecoded undecoded))) bytes are s is_so =
      let is = and_parts (bytes_eq tag named) true is_so in
      let complete = complete_kept (entry_at old.deliveries named) old.link.output_handle s.refused in
      let held : Held = complete.0 in
      let same : held_bytes held ≡ bytes = subst (Are bytes) (ap (λ t. bytes_at old.deliveries t) (sym (is_tag tag named is.0)) ∙ complete.2) are in
      let back : IsGivenBack decoded held undecoded = subst (λ o. IsSomeAnd o (λ held. IsGivenBack decoded held undecoded)) complete.1 (s.undecoded undecoded refl) in
      ap concat back.pieces ∙ same
  from_bytes old new (call.Take named) (answer.Taken (Err other)) bytes are s is_so = absurd (false_is_not_true (and_parts (bytes_eq tag named) false is_so).1)
  from_bytes old new _ _ bytes are s is_so = absurd (false_is_not_true is_so)

module _ {T B : Type 0} (decoded : Decoder B) where
  up_to : (old new : InboxState T) (before after : List (Moment T B)) (m : Moment T B) → IsRun decoded old (before ++ m ∷ after) new
      → IsRun decoded old before m.before × Step decoded m.before m.call m.answer m.after
  up_to old new [] after m run = (run.0, run.1)
  up_to old new (b ∷ before) after m run = let rest = up_to b.after new before after m run.3 in ((run.0, run.1, run.2, rest.0), rest.1)

  pub run_takes_what_came : (old new : InboxState T) (moments : List (Moment T B)) → IsStated old.deliveries old.link.unsettled → IsRun decoded old moments new
      → TakesWhatCame decoded old moments
  run_takes_what_came old new moments is run tag before after m split is_so =
      let run = up_to old new before after m (subst (λ ms. IsRun decoded old ms new) split run) in
      from_bytes decoded tag m.before m.after m.call m.answer (came (held_at old tag) tag before)
      (run_are decoded tag old m.before before (held_at old tag) is run.0 (at_first (bytes_at old.deliveries tag))) run.1 is_so
