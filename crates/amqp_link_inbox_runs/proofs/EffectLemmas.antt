-- What a call that brings no transfer of a delivery makes of it.
use Rattle.std.proofs.Common.{◌≡◌, ◌⊎◌, ◌∙◌, ap, refl, subst, sym, inl, inr, Bool, true, false, cond, List, [], ◌∷◌, Option, Some, None, Result, Ok, Err}
use Rattle.std.specs.Prelude.{bytes_eq, MatchResult, if◌then◌else◌}
use Rattle.std.specs.List.{filter}
use Rattle.amqp_link_types.specs.Entries.{Tag, Entries, IsMap, entry_at, with_entry, without_entries, without_entry}
use Rattle.amqp_link_types.specs.declared.types.transfer.Transfer.{Transfer}
use Rattle.amqp_link_types.proofs.MapLemmas.{IsMap-removed, entry_at-put, entry_at-put_other, entry_at-removed, false_is_not_true, same_tag}
use Rattle.amqp_link_dispositions.specs.Keeping.{is_settled_one, tags_of}
use Rattle.amqp_link_inbox.specs.InboxAttaches.{forgotten_by, forgotten_tags, kept_after, leaves_all, without_ids}
use Rattle.amqp_link_inbox.specs.Disposing.{after_settling, settled_at, settled_in}
use Rattle.amqp_link_inbox.specs.Inboxes.{Arrives, InboxState, store_of, tag_of}
use Rattle.amqp_link_inbox.specs.KeptDeliveries.{has_begun}
use Rattle.amqp_link_inbox.specs.Storing.{IsStated, Store, stored_by}
use Rattle.amqp_link_inbox.specs.Taking.{has_taken, taken_from, with_taken}
use Rattle.amqp_link_inbox.specs.declared.arrival.Arrived.{Arrived}
use Rattle.amqp_link_inbox.specs.declared.kept.Contents.TheVariants.{Taken}
use Rattle.amqp_link_inbox.specs.declared.kept.Kept.{Kept}
use Rattle.amqp_link_inbox.proofs.OtherLemmas.{other_stays}
use Rattle.amqp_link_inbox.proofs.StatedLemmas.{by_tag}
use Rattle.amqp_link_inbox_runs.specs.InboxRuns.{brings_by, names}
use Rattle.amqp_link_inbox_runs.specs.InboxSteps.{Decoder, Has, Step}
use Rattle.amqp_link_inbox_runs.specs.declared.call.AnswerOf.{AnswerOf}
use Rattle.amqp_link_inbox_runs.specs.declared.call.AnswerOf.TheVariants as answer
use Rattle.amqp_link_inbox_runs.specs.declared.call.Call.{Call}
use Rattle.amqp_link_inbox_runs.specs.declared.call.Call.TheVariants as call

-- either way of a result
pub either_way : {A E Z : Type 0} {P : A → Type 0} {Q : E → Type 0} (r : Result A E) → MatchResult r P Q → ((a : A) → P a → Z) → ((e : E) → Q e → Z) → Z
either_way (Ok a) h ok err = ok a h
either_way (Err e) h ok err = err e h

-- Nothing is kept of it any more; or what is kept holds the same bytes or none, and is not settled only if it was not before.
abbrev pub Effect : Option Kept → Option Kept → Type 0
Effect None None = Unit {0}
Effect (Some old) None = Unit {0}
Effect None (Some new) = ⊥
Effect (Some old) (Some new) = ((new.contents ≡ old.contents) ⊎ (new.contents ≡ Taken)) × (new.settled ≡ false → old.settled ≡ false)

nothing : (o : Option Kept) → Effect o None
nothing None = tt
nothing (Some k) = tt

pub same : (o : Option Kept) → Effect o o
same None = tt
same (Some k) = (inl refl, λ h. h)

after : (o m n : Option Kept) → Effect o m → Effect m n → Effect o n
after o m None e f = nothing o
after o None (Some n) e f = absurd f
after None (Some m) (Some n) e f = absurd e
after (Some o) (Some m) (Some n) e f = (
  elim (f.0) [
    | inl stays ↦ elim (e.0) [ inl stayed ↦ inl (stays ∙ stayed) | inr gone ↦ inr (stays ∙ gone) ]
    | inr gone ↦ inr gone
  ],
  λ h. e.1 (f.1 h),
)

module _ (tag : Tag) where
  removed : (m : Entries Kept) → IsMap m → (t : Tag) → Effect (entry_at m tag) (entry_at (without_entry m t) tag)
  removed m is t = subst (Effect (entry_at m tag)) (sym (entry_at-removed m t tag is)) (by (bytes_eq t tag))
    where
      by : (b : Bool) → Effect (entry_at m tag) (cond b None (entry_at m tag))
      by true = nothing (entry_at m tag)
      by false = same (entry_at m tag)

  pub removed_all : (ts : List Tag) (m : Entries Kept) → IsMap m → Effect (entry_at m tag) (entry_at (without_entries m ts) tag)
  removed_all [] m is = same (entry_at m tag)
  removed_all (t ∷ ts) m is =
      after (entry_at m tag) (entry_at (without_entry m t) tag) (entry_at (without_entries (without_entry m t) ts) tag)
      (removed m is t) (removed_all ts (without_entry m t) (IsMap-removed m t is))

  pub ids : (m : Entries Kept) → Effect (entry_at m tag) (entry_at (without_ids m) tag)
  ids [] = tt
  ids (e ∷ m) = by (bytes_eq tag e.0) (ids m)
    where
      by : (b : Bool) → Effect (entry_at m tag) (entry_at (without_ids m) tag)
          → Effect (cond b (Some e.1) (entry_at m tag)) (cond b (Some (record e.1 { id = None })) (entry_at (without_ids m) tag))
      by true h = (inl refl, λ p. p)
      by false h = h

  put : (m : Entries Kept) (t : Tag) (kept next : Kept) → entry_at m t ≡ Some kept → Effect (Some kept) (Some next)
      → Effect (entry_at m tag) (entry_at (with_entry m t next) tag)
  put m t kept next known e =
      by_tag (λ x. Effect (entry_at m x) (entry_at (with_entry m t next) x)) t
      (subst (λ o. Effect o (entry_at (with_entry m t next) t)) (sym known) (subst (Effect (Some kept)) (sym (entry_at-put m t next)) e))
      (λ other n. subst (Effect (entry_at m other)) (sym (entry_at-put_other m t other next n)) (same (entry_at m other))) tag

  taken : (b : Bool) (m : Entries Kept) (t : Tag) → Effect (entry_at m tag) (entry_at (if b then with_taken t m else m) tag)
  taken false m t = same (entry_at m tag)
  taken true m t = by (entry_at m t) refl
    where
      by : (o : Option Kept) → entry_at m t ≡ o → Effect (entry_at m tag) (entry_at (taken_from o t m) tag)
      by None known = same (entry_at m tag)
      by (Some kept) known = put m t kept (record kept { contents = Taken }) known (inr refl, λ p. p)

  pub settling : (s : Store) → IsMap s.entries → (t : Tag) → Effect (entry_at s.entries tag) (entry_at (settled_at t s).entries tag)
  settling s is t = by (entry_at s.entries t) refl
    where
      in_case : (begun : Bool) (kept : Kept) → entry_at s.entries t ≡ Some kept
          → Effect (entry_at s.entries tag) (entry_at (stored_by true begun t (record kept { settled = true }) s).entries tag)
      in_case true kept known = put s.entries t kept (record kept { settled = true }) known (inl refl, λ p. absurd (false_is_not_true (sym p)))
      in_case false kept known = removed s.entries is t

      by : (o : Option Kept) → entry_at s.entries t ≡ o → Effect (entry_at s.entries tag) (entry_at (settled_in o t s).entries tag)
      by None known = same (entry_at s.entries tag)
      by (Some kept) known = in_case (has_begun kept.contents) kept known

  disposed : (b : Bool) (m : Entries Kept) → IsMap m → (t : Tag) → Effect (entry_at m tag) (entry_at (after_settling b t m) tag)
  disposed true m is t = removed m is t
  disposed false m is t = same (entry_at m tag)

  module _ {T B : Type 0} (decoded : Decoder B) (old new : InboxState T) (is : IsStated old.deliveries old.link.unsettled) where
    abbrev Here : Type 0
    Here = Effect (entry_at old.deliveries tag) (entry_at new.deliveries tag)

    by_has : {store : Store} {unsettled : _} → Has store unsettled new → Effect (entry_at old.deliveries tag) (entry_at store.entries tag) → Here
    by_has h e = subst (λ (s : Store). Effect (entry_at old.deliveries tag) (entry_at s.entries tag)) (sym h.store) e

    unchanged : Has (store_of old) old.link.unsettled new → Here
    unchanged h = by_has h (same (entry_at old.deliveries tag))

    sent : (anew : Bool) → Effect (entry_at old.deliveries tag) (entry_at (kept_after anew old.deliveries) tag)
    sent true = nothing (entry_at old.deliveries tag)
    sent false = same (entry_at old.deliveries tag)

    ids_if : (b : Bool) → Effect (entry_at old.deliveries tag) (entry_at (if b then old.deliveries else without_ids old.deliveries) tag)
    ids_if true = same (entry_at old.deliveries tag)
    ids_if false = ids old.deliveries

    came_of_other : (t : Transfer) (bytes : _) (came : Arrived) → names tag (tag_of old t) ≡ false → Arrives old t bytes came new → Here
    came_of_other t bytes came is_not a =
        subst (Effect (entry_at old.deliveries tag)) (sym (other_stays old new t bytes came is a tag (λ p. other (tag_of old t) p is_not)).0) (same (entry_at old.deliveries tag))
      where
        other : (o : Option Tag) → o ≡ Some tag → names tag o ≡ false → ⊥
        other o p is_not = false_is_not_true (sym is_not ∙ ap (names tag) p ∙ same_tag tag)

    pub effect_of : (c : Call) (a : AnswerOf B) → Step decoded old c a new → brings_by tag old c a ≡ false → Here
    effect_of (call.SendAttach anew) (answer.AttachSent r) s is_not = either_way r s (λ _ h. by_has h (sent anew)) (λ _ h. unchanged h)
    effect_of (call.OnIncomingAttach attach) (answer.Attached r) s is_not =
        either_way r s
        (λ _ h.
        let tags = forgotten_tags (forgotten_by attach old.deliveries) in
        by_has h (after (entry_at old.deliveries tag) (entry_at (without_entries old.deliveries tags) tag) (entry_at (without_ids (without_entries old.deliveries tags)) tag)
        (removed_all tags old.deliveries is.entries_map) (ids (without_entries old.deliveries tags))))
        (λ error h. by_has h (ids_if (leaves_all error)))
    effect_of (call.OnIncomingTransfer t bytes) (answer.Arrived (Ok came)) s is_not = came_of_other t bytes came is_not s
    effect_of (call.OnIncomingTransfer t bytes) (answer.Arrived (Err refused)) s is_not = unchanged s
    effect_of (call.Take t) (answer.Taken r) s is_not = by_has s.after (taken (has_taken r) old.deliveries t)
    effect_of call.TakeSettled (answer.SettledTaken r) s is_not = by_has s.after (same (entry_at old.deliveries tag))
    effect_of (call.Dispose t settled state batchable) (answer.Disposed r) s is_not =
        either_way r s (λ _ h. by_has h.2 (disposed _ old.deliveries is.entries_map t)) (λ _ h. unchanged h)
    effect_of (call.DisposeAll ts settled state batchable) (answer.AllDisposed r) s is_not =
        either_way r s (λ _ h. by_has h.2 (removed_all (tags_of (filter (is_settled_one settled old.link.rcv_settle_mode) h.0)) old.deliveries is.entries_map)) (λ _ h. unchanged h)
    effect_of (call.KeepOutcome t state) (answer.OutcomeKept r) s is_not = either_way r s (λ _ h. by_has h.1 (same (entry_at old.deliveries tag))) (λ _ h. unchanged h)
    effect_of (call.OnIncomingDisposition settled state t) (answer.DispositionTaken r) s is_not =
        either_way r s (λ _ h. by_has h (by settled)) (λ _ h. unchanged h)
      where
        by : (b : Bool) → Effect (entry_at old.deliveries tag) (entry_at (if b then settled_at t (store_of old) else store_of old).entries tag)
        by true = settling (store_of old) is.entries_map t
        by false = same (entry_at old.deliveries tag)
    effect_of (call.SetOutputHandle handle) answer.Done s is_not = unchanged s
    effect_of (call.SendFlow credit drain echo properties) (answer.FlowSent r) s is_not = unchanged s
    effect_of (call.OnIncomingFlow flow) (answer.FlowTaken r) s is_not = unchanged s
    effect_of (call.SendDetach closed error) (answer.DetachSent r) s is_not = unchanged s
    effect_of (call.OnDetachReply detach) (answer.DetachReplied r) s is_not = unchanged s
    effect_of (call.ApplyRemoteDetachOutcome detach) (answer.DetachTaken r) s is_not = unchanged s
    effect_of call.OnSessionLost answer.Done s is_not = unchanged s
    effect_of _ _ s is_not = absurd s
