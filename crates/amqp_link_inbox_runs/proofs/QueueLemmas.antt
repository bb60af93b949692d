-- Deliveries leave the queue of settled ones once, in the order in which they joined it.
use Rattle.std.proofs.Common.{◌≡◌, ◌∙◌, ◌++◌, ap, append_assoc, refl, subst, sym, Bool, true, false, cond, map, List, [], ◌∷◌, Option, Some, None, Ok, Err, ℕ}
use Rattle.std.specs.Prelude.{drop, flat_map, is_some, option_and_then, take, if◌then◌else◌}
use Rattle.std.proofs.lemmas.List.{append-nil, map-append}
use Rattle.amqp_link_types.specs.Entries.{Tag, IsMap, entry_at, without_entry}
use Rattle.amqp_link_types.specs.declared.types.transfer.Transfer.{Transfer}
use Rattle.amqp_link_types.proofs.MapLemmas.{entry_at-put, entry_at-removed, false_is_not_true, same_tag}
use Rattle.amqp_link_core.specs.Held.{Held, held_bytes}
use Rattle.amqp_link_receiver.specs.ReceiverDeliveries.{is_settled}
use Rattle.amqp_link_receiver.specs.Receivers.{Receiver}
use Rattle.amqp_link_inbox.specs.Bytes.{bytes_at, bytes_before, bytes_in, bytes_kept, if_held}
use Rattle.amqp_link_inbox.specs.Disposing.{settled_at, settled_in}
use Rattle.amqp_link_inbox.specs.Inboxes.{Arrives, Handles, InboxState, begins, is_new, resumed_at, store_of, tag_of}
use Rattle.amqp_link_inbox.specs.KeptDeliveries.{Grows, bytes_until, finished, first_kept, has_begun, start_of}
use Rattle.amqp_link_inbox.specs.Storing.{AddsTo, IsStated, Store, added_arrival, first_arrival, first_held, held_in, next_arrival, stored, stored_by}
use Rattle.amqp_link_inbox.specs.Taking.{has_taken}
use Rattle.amqp_link_inbox.specs.declared.arrival.Arrival.{Arrival}
use Rattle.amqp_link_inbox.specs.declared.arrival.Arrival.TheVariants.{Ignored}
use Rattle.amqp_link_inbox.specs.declared.arrival.Arrived.{Arrived}
use Rattle.amqp_link_inbox.specs.declared.kept.Contents.{Contents}
use Rattle.amqp_link_inbox.specs.declared.kept.Contents.TheVariants.{Begun, Complete, Taken}
use Rattle.amqp_link_inbox.specs.declared.kept.Kept.{Kept}
use Rattle.amqp_link_inbox.specs.declared.kept.Stage.{Stage}
use Rattle.amqp_link_inbox_runs.specs.InboxRuns.{IsRun, KeepsTheQueue, Moment, if_left, if_settled, joined, joined_by, taken_by, taken_first}
use Rattle.amqp_link_inbox_runs.specs.InboxSteps.{Decoder, Has, Step}
use Rattle.amqp_link_inbox_runs.specs.declared.call.AnswerOf.{AnswerOf}
use Rattle.amqp_link_inbox_runs.specs.declared.call.AnswerOf.TheVariants as answer
use Rattle.amqp_link_inbox_runs.specs.declared.call.Call.{Call}
use Rattle.amqp_link_inbox_runs.specs.declared.call.Call.TheVariants as call
use Rattle.amqp_link_inbox_runs.proofs.EffectLemmas.{either_way}

-- what is held, as bytes
abbrev bytes_list : Contents → List (List ℕ)
bytes_list c = map held_bytes (held_in c)

bytes_of_contents : (c : Contents) → bytes_list c ≡ if_held (bytes_in c)
bytes_of_contents (Begun held) = refl
bytes_of_contents (Complete held) = refl
bytes_of_contents Taken = refl

abbrev waiting : Store → List (List ℕ)
waiting s = map held_bytes s.settled

module _ (s : Store) (tag : Tag) (is : IsMap s.entries) where
  left_none : entry_at (without_entry s.entries tag) tag ≡ None
  left_none = entry_at-removed s.entries tag tag is ∙ ap (λ b. cond b None (entry_at s.entries tag)) (same_tag tag)

  more_wait : (c : Contents) → map held_bytes (s.settled ++ held_in c) ≡ waiting s ++ bytes_list c
  more_wait c = map-append held_bytes s.settled (held_in c)

  -- what joins the queue of a delivery of which this was held, if it is kept no longer
  abbrev Left : Store → List (List ℕ)
  Left new = if is_some (entry_at new.entries tag) then [] else if_held (bytes_at s.entries tag)

  same_queue : (new : Store) → new.settled ≡ s.settled → waiting new ≡ waiting s ++ []
  same_queue new h = ap (map held_bytes) h ∙ sym (append-nil (waiting s))

  -- one that was kept is stored again, with the same bytes
  stored_again : (settled more : Bool) (kept next : Kept) → entry_at s.entries tag ≡ Some kept → next.contents ≡ kept.contents
      → waiting (stored_by settled more tag next s) ≡ waiting s ++ Left (stored_by settled more tag next s)
  stored_again true false kept next here same =
      more_wait next.contents
      ∙ ap (λ l. waiting s ++ l)
      (bytes_of_contents next.contents ∙ ap (λ c. if_held (bytes_in c)) same ∙ sym (ap (λ o. if_held (bytes_kept o)) here)
      ∙ ap (λ o. if is_some o then [] else if_held (bytes_at s.entries tag)) (sym left_none))
  stored_again true true kept next here same =
      sym (append-nil (waiting s)) ∙ ap (λ o. waiting s ++ (if is_some o then [] else if_held (bytes_at s.entries tag))) (sym (entry_at-put s.entries tag next))
  stored_again false more kept next here same =
      sym (append-nil (waiting s)) ∙ ap (λ o. waiting s ++ (if is_some o then [] else if_held (bytes_at s.entries tag))) (sym (entry_at-put s.entries tag next))

  -- one that had begun, or begins, is stored with all its bytes
  stored_whole : (settled more : Bool) (next : Kept) (whole : List ℕ) (left : List (List ℕ)) → bytes_list next.contents ≡ whole ∷ []
      → waiting (stored_by settled more tag next s) ≡ waiting s ++ if_settled (next_arrival more settled) whole left
  stored_whole true false next whole left h = more_wait next.contents ∙ ap (λ l. waiting s ++ l) h
  stored_whole true true next whole left h = sym (append-nil (waiting s))
  stored_whole false true next whole left h = sym (append-nil (waiting s))
  stored_whole false false next whole left h = sym (append-nil (waiting s))

  as_first : (more settled : Bool) (whole : List ℕ) (left : List (List ℕ)) → if_settled (next_arrival more settled) whole left ≡ if_settled (first_arrival more settled) whole left
  as_first true settled whole left = refl
  as_first false true whole left = refl
  as_first false false whole left = refl

  module _ {T : Type 0} (before : Receiver T) (t : Transfer) (bytes : List ℕ) where
    -- the queue after a transfer that was added, or handled
    abbrev Joins : Arrival → List ℕ → Store → Type 0
    Joins arrival bytes new = waiting new ≡ waiting s ++ if_settled arrival bytes (Left new)

    finished_list : (more : Bool) (held : Held) → bytes_list (finished more (Begun held)) ≡ held_bytes held ∷ []
    finished_list true held = refl
    finished_list false held = refl

    finished_same : (more : Bool) (c : Contents) → has_begun c ≡ false → finished more c ≡ c
    finished_same true c h = refl
    finished_same false (Begun held) h = absurd (false_is_not_true (sym h))
    finished_same false (Complete held) h = refl
    finished_same false Taken h = refl

    in_case : (begins : Bool) (kept next : Kept) (grown c : Contents) → kept.contents ≡ c → entry_at s.entries tag ≡ Some kept → Grows begins t bytes c grown
        → next.contents ≡ finished t.more grown
        → Joins (added_arrival (has_begun c) t.more next.settled) (bytes_before false (start_of begins t) (bytes_in c) ++ bytes) (stored t.more tag next s)
    in_case begins kept next grown (Begun old) is_held here g contents =
        let held : Held = g.0 in
        stored_whole next.settled t.more next (bytes_until (start_of begins t) (held_bytes old) ++ bytes) (Left (stored t.more tag next s))
        (ap bytes_list (contents ∙ ap (finished t.more) g.2) ∙ finished_list t.more held ∙ ap (λ b. b ∷ []) g.1.joined)
    in_case begins kept next grown (Complete old) is_held here g contents =
        stored_again next.settled t.more kept next here (contents ∙ ap (finished t.more) g.0 ∙ finished_same t.more (Complete old) refl ∙ sym is_held)
    in_case begins kept next grown Taken is_held here g contents =
        stored_again next.settled t.more kept next here (contents ∙ ap (finished t.more) g.0 ∙ finished_same t.more Taken refl ∙ sym is_held)

    added_joins : (begins : Bool) (found : Option Kept) (came : Arrival) (new : Store) (after : Receiver T) → entry_at s.entries tag ≡ found
        → AddsTo found begins tag t bytes s before came new after → Joins came (bytes_before false (start_of begins t) (bytes_kept found) ++ bytes) new
    added_joins begins None came new after here a =
        let whole : List ℕ = bytes_before false (start_of begins t) None ++ bytes in
        subst (λ c. Joins c whole new) (sym a.2) (subst (λ (n : Store). Joins Ignored whole n) (sym a.0) (sym (append-nil (waiting s))))
    added_joins begins (Some kept) came new after here a =
        let next : Kept = a.0 in
        let whole : List ℕ = bytes_before false (start_of begins t) (bytes_in kept.contents) ++ bytes in
        subst (λ c. Joins c whole new) (sym a.4)
        (subst (λ (n : Store). Joins (added_arrival (has_begun kept.contents) t.more next.settled) whole n) (sym a.2)
        (in_case begins kept next a.1.grown kept.contents refl here a.1.grows a.1.contents))

    first_list : (more : Bool) → bytes_list (if more then Begun (first_held t bytes) else Complete (first_held t bytes)) ≡ bytes ∷ []
    first_list true = ap (λ b. b ∷ []) (append-nil bytes)
    first_list false = ap (λ b. b ∷ []) (append-nil bytes)

    handled_joins : (aborted is_new begins : Bool) (came : Arrival) (replaced : Option Stage) (new : Store) (after : Receiver T)
        → Handles aborted is_new begins tag t bytes s before came replaced new after → Joins came (bytes_before is_new (start_of begins t) (bytes_at s.entries tag) ++ bytes) new
    handled_joins true is_new begins came replaced new after h =
        subst (λ c. Joins c (bytes_before is_new (start_of begins t) (bytes_at s.entries tag) ++ bytes) new) (sym h.2)
        (ap waiting h.0 ∙ sym (append-nil (waiting s)))
    handled_joins false true begins came replaced new after h =
        let first : Kept = first_kept (first_held t bytes) t.more in
        subst (λ c. Joins c bytes new) (sym h.1.arrival)
        (subst (λ (n : Store). Joins (first_arrival t.more (is_settled t)) bytes n) (sym h.1.store)
        (stored_whole (is_settled t) t.more first bytes (Left (stored t.more tag first s)) (first_list t.more)
        ∙ ap (λ l. waiting s ++ l) (as_first t.more (is_settled t) bytes (Left (stored t.more tag first s)))))
    handled_joins false false begins came replaced new after h = added_joins begins (entry_at s.entries tag) came new after refl h.0

  left_as_it_was : (o : Option Kept) → (if is_some o then [] else if_held (bytes_kept o)) ≡ []
  left_as_it_was None = refl
  left_as_it_was (Some kept) = refl

  -- the sender's disposition
  settled_joins : (b : Bool) → waiting (if b then settled_at tag s else s) ≡ waiting s ++ Left (if b then settled_at tag s else s)
  settled_joins false = sym (append-nil (waiting s)) ∙ ap (λ l. waiting s ++ l) (sym (left_as_it_was (entry_at s.entries tag)))
  settled_joins true = by (entry_at s.entries tag) refl
    where
      by : (o : Option Kept) → entry_at s.entries tag ≡ o → waiting (settled_in o tag s) ≡ waiting s ++ Left (settled_in o tag s)
      by None here = sym (append-nil (waiting s)) ∙ ap (λ l. waiting s ++ l) (sym (left_as_it_was (entry_at s.entries tag)))
      by (Some kept) here = stored_again true (has_begun kept.contents) kept (record kept { settled = true }) here refl

-- the first of those that wait, and the others
first_and_rest : (l : List Held) → map held_bytes (take 1 l) ++ map held_bytes (drop 1 l) ≡ map held_bytes l
first_and_rest [] = refl
first_and_rest (held ∷ l) = refl

module _ {T B : Type 0} (decoded : Decoder B) where
  step_queue : (old new : InboxState T) (c : Call) (a : AnswerOf B) → IsStated old.deliveries old.link.unsettled → Step decoded old c a new
      → taken_by old c a ++ map held_bytes new.settled ≡ map held_bytes old.settled ++ joined_by old c a new
  step_queue old new c a is step = by c a step
    where
      stays : {store : Store} {unsettled : _} → Has store unsettled new → store.settled ≡ old.settled → map held_bytes new.settled ≡ map held_bytes old.settled ++ []
      stays h same = ap (λ (s : Store). map held_bytes s.settled) h.store ∙ ap (map held_bytes) same ∙ sym (append-nil (map held_bytes old.settled))

      unchanged : Has (store_of old) old.link.unsettled new → map held_bytes new.settled ≡ map held_bytes old.settled ++ []
      unchanged h = stays h refl

      takes : (b : Bool) → new.settled ≡ (if b then drop 1 old.settled else old.settled)
          → (if b then map held_bytes (take 1 old.settled) else []) ++ map held_bytes new.settled ≡ map held_bytes old.settled ++ []
      takes true h =
          ap (λ l. map held_bytes (take 1 old.settled) ++ map held_bytes l) h ∙ first_and_rest old.settled ∙ sym (append-nil (map held_bytes old.settled))
      takes false h = ap (map held_bytes) h ∙ sym (append-nil (map held_bytes old.settled))

      comes : (t : Transfer) (bytes : List ℕ) (came : Arrived) → Arrives old t bytes came new
          → map held_bytes new.settled ≡ map held_bytes old.settled
          ++ if_settled came.arrival (bytes_before (is_new old t) (resumed_at old t) (option_and_then (bytes_at old.deliveries) (tag_of old t)) ++ bytes)
          (if_left (tag_of old t) old new)
      comes t bytes came a =
          subst (λ o. map held_bytes new.settled ≡ map held_bytes old.settled
          ++ if_settled came.arrival (bytes_before (is_new old t) (resumed_at old t) (option_and_then (bytes_at old.deliveries) o) ++ bytes) (if_left o old new)) (sym a.tag_is)
          (handled_joins (store_of old) a.tag is.entries_map old.link t bytes t.aborted (is_new old t) (begins old) came.arrival came.replaced (store_of new) a.link a.handles)

      settles : (settled : Bool) (tag : Tag) (unsettled : _) → Has (if settled then settled_at tag (store_of old) else store_of old) unsettled new
          → map held_bytes new.settled ≡ map held_bytes old.settled ++ if_left (Some tag) old new
      settles settled tag unsettled h =
          subst (λ (n : Store). map held_bytes n.settled ≡ map held_bytes old.settled ++ (if is_some (entry_at n.entries tag) then [] else if_held (bytes_at old.deliveries tag)))
          (sym h.store) (settled_joins (store_of old) tag is.entries_map settled)

      by : (c : Call) (a : AnswerOf B) → Step decoded old c a new → taken_by old c a ++ map held_bytes new.settled ≡ map held_bytes old.settled ++ joined_by old c a new
      by (call.SendAttach anew) (answer.AttachSent r) s = either_way r s (λ _ h. stays h refl) (λ _ h. unchanged h)
      by (call.OnIncomingAttach attach) (answer.Attached r) s = either_way r s (λ _ h. stays h refl) (λ _ h. stays h refl)
      by (call.OnIncomingTransfer t bytes) (answer.Arrived (Ok came)) s = comes t bytes came s
      by (call.OnIncomingTransfer t bytes) (answer.Arrived (Err refused)) s = unchanged s
      by (call.Take tag) (answer.Taken r) s = stays s.after refl
      by call.TakeSettled (answer.SettledTaken r) s = takes (has_taken r) (ap (λ (n : Store). n.settled) s.after.store)
      by (call.Dispose tag settled state batchable) (answer.Disposed r) s = either_way r s (λ _ h. stays h.2 refl) (λ _ h. unchanged h)
      by (call.DisposeAll tags settled state batchable) (answer.AllDisposed r) s = either_way r s (λ _ h. stays h.2 refl) (λ _ h. unchanged h)
      by (call.KeepOutcome tag state) (answer.OutcomeKept r) s = either_way r s (λ _ h. stays h.1 refl) (λ _ h. unchanged h)
      by (call.OnIncomingDisposition settled state tag) (answer.DispositionTaken (Ok done)) s = settles settled tag _ s
      by (call.OnIncomingDisposition settled state tag) (answer.DispositionTaken (Err error)) s = unchanged s
      by (call.SetOutputHandle handle) answer.Done s = unchanged s
      by (call.SendFlow credit drain echo properties) (answer.FlowSent r) s = unchanged s
      by (call.OnIncomingFlow flow) (answer.FlowTaken r) s = unchanged s
      by (call.SendDetach closed error) (answer.DetachSent r) s = unchanged s
      by (call.OnDetachReply detach) (answer.DetachReplied r) s = unchanged s
      by (call.ApplyRemoteDetachOutcome detach) (answer.DetachTaken r) s = unchanged s
      by call.OnSessionLost answer.Done s = unchanged s
      by _ _ s = absurd s

  pub run_queue : (old new : InboxState T) (moments : List (Moment T B)) → IsStated old.deliveries old.link.unsettled → IsRun decoded old moments new
      → KeepsTheQueue old moments new
  run_queue old new [] is run = ap (λ (w : InboxState T). map held_bytes w.settled) run ∙ sym (append-nil (map held_bytes old.settled))
  run_queue old new (m ∷ moments) is run =
      append_assoc (taken_first m) (flat_map taken_first moments) (map held_bytes new.settled)
      ∙ ap (λ l. taken_first m ++ l) (run_queue m.after new moments run.2 run.3)
      ∙ sym (append_assoc (taken_first m) (map held_bytes m.after.settled) (flat_map joined moments))
      ∙ ap (λ l. l ++ flat_map joined moments)
      (step_queue m.before m.after m.call m.answer (subst (λ (w : InboxState T). IsStated w.deliveries w.link.unsettled) (sym run.0) is) run.1
      ∙ ap (λ (w : InboxState T). map held_bytes w.settled ++ joined m) run.0)
      ∙ append_assoc (map held_bytes old.settled) (joined m) (flat_map joined moments)
