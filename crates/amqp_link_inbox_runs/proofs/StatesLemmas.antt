-- After any list of calls the link states of each delivery what was stated of it last.
use Rattle.std.proofs.Common.{◌≡◌, ◌∙◌, ap, refl, subst, sym, Bool, true, false, cond, not, List, [], ◌∷◌, Option, Some, None, Result, Ok, Err, ℕ}
use Rattle.std.specs.Prelude.{◌||◌, bytes_eq, Decides, is_some, if◌then◌else◌}
use Rattle.std.specs.List.{filter, list_any}
use Rattle.std.specs.Option.{option_map, option_or}
use Rattle.std.proofs.lemmas.Bool.{and_parts, not-true, or_parts}
use Rattle.std.proofs.lemmas.Option.{same_Some}
use Rattle.std.proofs.lemmas.Slice.Eq.{bytes_eq-Decides}
use Rattle.amqp_link_types.specs.Deliveries.{Info}
use Rattle.amqp_link_types.specs.Entries.{Tag, Entries, IsMap, changed_at, entry_at, without_entries, without_entry}
use Rattle.amqp_link_types.specs.declared.types.delivery_state.DeliveryState.{DeliveryState}
use Rattle.amqp_link_types.specs.declared.types.transfer.Transfer.{Transfer}
use Rattle.amqp_link_types.proofs.MapLemmas.{IsMap-removed, entry_at-put, entry_at-removed, false_is_not_true, same_tag}
use Rattle.amqp_link_state.specs.declared.state.LinkState.{LinkState}
use Rattle.amqp_link_dispositions.specs.Keeping.{after_dispositions, after_one, map_after_sender_disposition, tags_of}
use Rattle.amqp_link_dispositions.specs.Listed.{kept_in_order}
use Rattle.amqp_link_receiver.specs.Completing.{may_receive}
use Rattle.amqp_link_receiver.specs.ReceiverDeliveries.{is_settled}
use Rattle.amqp_link_receiver.specs.Receivers.{Receiver}
use Rattle.amqp_link_inbox.specs.InboxAttaches.{forgotten_by, forgotten_tags, kept_after, without_ids}
use Rattle.amqp_link_inbox.specs.Bytes.{bytes_at, bytes_in, bytes_kept}
use Rattle.amqp_link_inbox.specs.Disposing.{after_settling, info_kept, info_to_dispose, info_unless, info_with, infos_and, infos_to_dispose, outcome_refusal, settled_at, settled_in}
use Rattle.amqp_link_inbox.specs.Inboxes.{Arrives, Handles, InboxState, begins, is_new, store_of, tag_of}
use Rattle.amqp_link_inbox.specs.KeptDeliveries.{first_kept, has_begun}
use Rattle.amqp_link_inbox.specs.Storing.{AddsTo, IsStated, Store, first_held, is_unsettled, stated_by, stored_by}
use Rattle.amqp_link_inbox.specs.declared.arrival.Arrival.{Arrival}
use Rattle.amqp_link_inbox.specs.declared.arrival.Arrived.{Arrived}
use Rattle.amqp_link_inbox.specs.declared.error.DisposeError.{DisposeError}
use Rattle.amqp_link_inbox.specs.declared.error.DisposeError.TheVariants.{NotAttached}
use Rattle.amqp_link_inbox.specs.declared.kept.Contents.{Contents}
use Rattle.amqp_link_inbox.specs.declared.kept.Contents.TheVariants.{Begun, Complete, Taken}
use Rattle.amqp_link_inbox.specs.declared.kept.Kept.{Kept}
use Rattle.amqp_link_inbox.specs.declared.kept.Stage.{Stage}
use Rattle.amqp_link_inbox.proofs.OtherLemmas.{other_stays}
use Rattle.amqp_link_inbox.proofs.RemovedLemmas.{alike, eq_turned, found-removed}
use Rattle.amqp_link_inbox.proofs.StatedLemmas.{begun_not_taken, stated_changed}
use Rattle.amqp_link_inbox_runs.specs.InboxRuns.{IsRun, Moment, is_among, last_stated, names, received, states, states_by}
use Rattle.amqp_link_inbox_runs.specs.InboxSteps.{Decoder, Has, Step, keeping}
use Rattle.amqp_link_inbox_runs.specs.declared.call.AnswerOf.{AnswerOf}
use Rattle.amqp_link_inbox_runs.specs.declared.call.AnswerOf.TheVariants as answer
use Rattle.amqp_link_inbox_runs.specs.declared.call.Call.{Call}
use Rattle.amqp_link_inbox_runs.specs.declared.call.Call.TheVariants as call
use Rattle.amqp_link_inbox_runs.proofs.EffectLemmas.{Effect, effect_of, either_way, ids}
use Rattle.amqp_link_inbox_runs.proofs.HeldLemmas.{is_named}

-- ---- entries

abbrev changed_if : {V : Type 0} → (V → V) → Bool → Option V → Option V
changed_if f b o = if b then option_map f o else o

module _ {V : Type 0} (tag : Tag) where
  -- an entry after some are changed
  abbrev IsChanged : (V → V) → List Tag → Entries V → Type 0
  IsChanged f ts m = entry_at (changed_at f ts m) tag ≡ changed_if f (list_any (λ t. bytes_eq t tag) ts) (entry_at m tag)

  changed_here : (f : V → V) (ts : List Tag) (m : Entries V) → IsChanged f ts m
  changed_here f ts [] = none (list_any (λ t. bytes_eq t tag) ts)
    where
      none : (b : Bool) → None ≡ changed_if f b None
      none true = refl
      none false = refl
  changed_here f ts (e ∷ m) = in_case (list_any (λ t. bytes_eq t e.0) ts) refl (changed_here f ts m)
    where
      by : (v : V) (c : Bool) → list_any (λ t. bytes_eq t e.0) ts ≡ c → changed_if f c (Some e.1) ≡ Some v → (b : Bool) → Decides b (tag ≡ e.0) → IsChanged f ts m
          → cond b (Some v) (entry_at (changed_at f ts m) tag) ≡ changed_if f (list_any (λ t. bytes_eq t tag) ts) (cond b (Some e.1) (entry_at m tag))
      by v c h is true d rest = sym is ∙ ap (λ b. changed_if f b (Some e.1)) (sym h ∙ ap (λ k. list_any (λ t. bytes_eq t k) ts) (sym (d.0 refl)))
      by v c h is false d rest = rest

      in_case : (c : Bool) → list_any (λ t. bytes_eq t e.0) ts ≡ c → IsChanged f ts m
          → entry_at ((if c then (e.0, f e.1) else e) ∷ changed_at f ts m) tag ≡ changed_if f (list_any (λ t. bytes_eq t tag) ts) (entry_at (e ∷ m) tag)
      in_case true h rest = by (f e.1) true h refl (bytes_eq tag e.0) (bytes_eq-Decides tag e.0) rest
      in_case false h rest = by e.1 false h refl (bytes_eq tag e.0) (bytes_eq-Decides tag e.0) rest

  -- one whose tag is not among those that are removed
  kept_removed : (ts : List Tag) (m : Entries V) → IsMap m → list_any (bytes_eq tag) ts ≡ false → entry_at (without_entries m ts) tag ≡ entry_at m tag
  kept_removed [] m is none = refl
  kept_removed (t ∷ ts) m is none = by (bytes_eq tag t) refl none (kept_removed ts (without_entry m t) (IsMap-removed m t is))
    where
      by : (b : Bool) → bytes_eq tag t ≡ b → (b || list_any (bytes_eq tag) ts) ≡ false
          → (list_any (bytes_eq tag) ts ≡ false → entry_at (without_entries (without_entry m t) ts) tag ≡ entry_at (without_entry m t) tag)
          → entry_at (without_entries (without_entry m t) ts) tag ≡ entry_at m tag
      by true h none rest = absurd (false_is_not_true (sym none))
      by false h none rest = rest none ∙ entry_at-removed m t tag is ∙ ap (λ b. cond b None (entry_at m tag)) (eq_turned t tag ∙ h)

-- it is not settled only if it was not before
unsettled_before : (o n : Option Kept) → Effect o n → is_unsettled n ≡ true → is_unsettled o ≡ true
unsettled_before o None e h = absurd (false_is_not_true h)
unsettled_before None (Some new) e h = absurd e
unsettled_before (Some old) (Some new) e h = ap not (e.1 (not-true new.settled h))

-- ---- a transfer

module _ (s : Store) (tag : Tag) (is : IsMap s.entries) {T : Type 0} (before : Receiver T) (v : Option (Option DeliveryState)) where
  abbrev After : Store → Receiver T → Type 0
  After store after = is_unsettled (entry_at store.entries tag) ≡ true → entry_at after.unsettled tag ≡ option_or (option_map received (bytes_at store.entries tag)) v

  nothing_kept : is_unsettled (entry_at (without_entry s.entries tag) tag) ≡ true → ⊥
  nothing_kept h = false_is_not_true (sym (ap is_unsettled (entry_at-removed s.entries tag tag is ∙ ap (λ b. cond b None (entry_at s.entries tag)) (same_tag tag))) ∙ h)

  stored_states : (settled more : Bool) (contents : Contents) (next : Kept) → next.settled ≡ settled → next.contents ≡ contents
      → (contents ≡ Taken → settled ≡ false → entry_at before.unsettled tag ≡ v)
      → After (stored_by settled more tag next s) (stated_by settled contents tag before)
  stored_states true false contents next is_settled is_held was h = absurd (nothing_kept h)
  stored_states true true contents next is_settled is_held was h =
      absurd (false_is_not_true (sym (ap not is_settled) ∙ ap is_unsettled (sym (entry_at-put s.entries tag next)) ∙ h))
  stored_states false more (Begun held) next is_settled is_held was h =
      entry_at-put before.unsettled tag _ ∙ ap (λ o. option_or (option_map received o) v) (sym (ap bytes_kept (entry_at-put s.entries tag next) ∙ ap bytes_in is_held))
  stored_states false more (Complete held) next is_settled is_held was h =
      entry_at-put before.unsettled tag _ ∙ ap (λ o. option_or (option_map received o) v) (sym (ap bytes_kept (entry_at-put s.entries tag next) ∙ ap bytes_in is_held))
  stored_states false more Taken next is_settled is_held was h =
      was refl refl ∙ ap (λ o. option_or (option_map received o) v) (sym (ap bytes_kept (entry_at-put s.entries tag next) ∙ ap bytes_in is_held))

  module _ (t : Transfer) (bytes : List ℕ) (had : is_unsettled (entry_at s.entries tag) ≡ true → entry_at before.unsettled tag ≡ v) where
    added_states : (begins : Bool) (found : Option Kept) (arrival : Arrival) (new : Store) (after : Receiver T) → entry_at s.entries tag ≡ found
        → AddsTo found begins tag t bytes s before arrival new after → After new after
    added_states begins None arrival new after here a = λ h.
        absurd (false_is_not_true (sym (ap is_unsettled (ap (λ (n : Store). entry_at n.entries tag) a.0 ∙ here)) ∙ h))
    added_states begins (Some kept) arrival new after here a =
        let next : Kept = a.0 in
        let was : next.contents ≡ Taken → next.settled ≡ false → entry_at before.unsettled tag ≡ v =
        λ _ still. had (ap is_unsettled here ∙ ap not (or_parts kept.settled (is_settled t) (sym a.1.settled ∙ still)).0) in
        subst (λ (n : Store). After n after) (sym a.2)
        (subst (λ (r : Receiver T). After (stored_by next.settled t.more tag next s) r) (sym a.3) (stored_states next.settled t.more next.contents next refl refl was))

    handled_states : (aborted is_new begins : Bool) (arrival : Arrival) (replaced : Option Stage) (new : Store) (after : Receiver T)
        → Handles aborted is_new begins tag t bytes s before arrival replaced new after → After new after
    handled_states true is_new begins arrival replaced new after h = λ unsettled.
        absurd (nothing_kept (ap (λ (n : Store). is_unsettled (entry_at n.entries tag)) (sym h.0) ∙ unsettled))
    handled_states false true begins arrival replaced new after h =
        let link : Receiver T = h.0 in
        let first : Kept = first_kept (first_held t bytes) t.more in
        subst (λ (r : Receiver T). After new r) (sym h.2)
        (subst (λ (n : Store). After n link) (sym h.1.store)
        (subst (λ (r : Receiver T). After (stored_by first.settled t.more tag first s) r) (sym h.1.link)
        (stored_states first.settled t.more first.contents first refl refl (λ taken. absurd (begun_not_taken t.more (first_held t bytes) taken)))))
    handled_states false false begins arrival replaced new after h = added_states begins (entry_at s.entries tag) arrival new after refl h.0

-- ---- what dispositions name

ok_is : {X : Type 0} (x y : X) → ◌≡◌ {A = Result X DisposeError} (Ok x) (Ok y) → x ≡ y
ok_is x y h = cc

info_names : (state : LinkState) (kept : Option Kept) (t : Tag) (info : Info) → info_to_dispose state kept t ≡ Ok info → info.delivery_tag ≡ t
info_names state kept t info h = receives (may_receive state) h
  where
    with_id : (id : Option ℕ) (mode : _) → info_with t mode id ≡ Ok info → info.delivery_tag ≡ t
    with_id None mode h = cc
    with_id (Some id) mode h = ap (λ (i : Info). i.delivery_tag) (sym (ok_is _ info h))

    in_case : (kept : Option Kept) → info_kept kept t ≡ Ok info → info.delivery_tag ≡ t
    in_case None h = cc
    in_case (Some k) h = with_id k.id k.mode h

    unless : (refusal : Option DisposeError) → info_unless refusal kept t ≡ Ok info → info.delivery_tag ≡ t
    unless (Some refusal) h = cc
    unless None h = in_case kept h

    receives : (b : Bool) → (if b then info_unless (outcome_refusal kept) kept t else Err NotAttached) ≡ Ok info → info.delivery_tag ≡ t
    receives true h = unless (outcome_refusal kept) h
    receives false h = cc

infos_name : (state : LinkState) (entries : Entries Kept) (ts : List Tag) (infos : List Info) → infos_to_dispose state entries ts ≡ Ok infos → tags_of infos ≡ ts
infos_name state entries [] infos h = ap tags_of (sym (ok_is [] infos h))
infos_name state entries (t ∷ ts) infos h =
    by (info_to_dispose state (entry_at entries t) t) refl (infos_to_dispose state entries ts) refl h (infos_name state entries ts)
  where
    by : (one : Result Info DisposeError) → info_to_dispose state (entry_at entries t) t ≡ one → (rest : Result (List Info) DisposeError)
        → infos_to_dispose state entries ts ≡ rest → infos_and one rest ≡ Ok infos
        → ((others : List Info) → infos_to_dispose state entries ts ≡ Ok others → tags_of others ≡ ts) → tags_of infos ≡ t ∷ ts
    by (Err e) is rest are h later = cc
    by (Ok info) is (Err e) are h later = cc
    by (Ok info) is (Ok rest) are h later =
        ap tags_of (sym (ok_is (info ∷ rest) infos h)) ∙ ap (λ n. n ∷ tags_of rest) (info_names state (entry_at entries t) t info is)
        ∙ ap (λ l. t ∷ l) (later rest are)

-- of those that are not settled, the same
any_open : (f : Info → Bool) (tag : Tag) (infos : List Info) → list_any (bytes_eq tag) (tags_of (filter f infos)) ≡ false
    → list_any (bytes_eq tag) (tags_of (filter (λ info. not (f info)) infos)) ≡ list_any (bytes_eq tag) (tags_of infos)
any_open f tag [] none = refl
any_open f tag (info ∷ infos) none = by (f info) none (any_open f tag infos)
  where
    here : (b any : Bool) → (b || any) ≡ false → (b ≡ false) × (any ≡ false)
    here true any h = absurd (false_is_not_true (sym h))
    here false any h = (refl, h)

    by : (b : Bool) → list_any (bytes_eq tag) (tags_of (if b then info ∷ filter f infos else filter f infos)) ≡ false
        → (list_any (bytes_eq tag) (tags_of (filter f infos)) ≡ false
        → list_any (bytes_eq tag) (tags_of (filter (λ info. not (f info)) infos)) ≡ list_any (bytes_eq tag) (tags_of infos))
        → list_any (bytes_eq tag) (tags_of (if not b then info ∷ filter (λ info. not (f info)) infos else filter (λ info. not (f info)) infos))
        ≡ (bytes_eq tag info.delivery_tag || list_any (bytes_eq tag) (tags_of infos))
    by true none later =
        let neither = here (bytes_eq tag info.delivery_tag) (list_any (bytes_eq tag) (tags_of (filter f infos))) none in
        later neither.1 ∙ ap (λ b. b || list_any (bytes_eq tag) (tags_of infos)) (sym neither.0)
    by false none later = ap (λ r. bytes_eq tag info.delivery_tag || r) (later none)

set_to : {V : Type 0} (x : V) (o : Option V) → is_some o ≡ true → option_map (λ _. x) o ≡ Some x
set_to x None h = absurd (false_is_not_true h)
set_to x (Some v) h = refl

-- ---- a call

module _ {T B : Type 0} (decoded : Decoder B) (tag : Tag) (old new : InboxState T) (is : IsStated old.deliveries old.link.unsettled)
    (v : Option (Option DeliveryState)) (had : is_unsettled (entry_at old.deliveries tag) ≡ true → entry_at old.link.unsettled tag ≡ v) where
  -- afterwards the link states this, or what it stated before
  abbrev Then : Option (Option DeliveryState) → Type 0
  Then stated = is_unsettled (entry_at new.deliveries tag) ≡ true → entry_at new.link.unsettled tag ≡ option_or stated v

  kept_now : {store : Store} {unsettled : _} → Has store unsettled new → entry_at new.deliveries tag ≡ entry_at store.entries tag
  kept_now h = ap (λ (s : Store). entry_at s.entries tag) h.store

  module _ (e : Effect (entry_at old.deliveries tag) (entry_at new.deliveries tag)) where
    stays : {store : Store} → Has store old.link.unsettled new → Then None
    stays h now = ap (λ m. entry_at m tag) h.unsettled ∙ had (unsettled_before (entry_at old.deliveries tag) (entry_at new.deliveries tag) e now)

    -- the state of one entry is set
    sets : {store : Store} (x : Option DeliveryState) (t : Tag) → Has store (changed_at (λ _. x) (t ∷ []) old.link.unsettled) new
        → Then (if bytes_eq tag t then Some x else None)
    sets x t h now =
        ap (λ m. entry_at m tag) h.unsettled ∙ changed_here tag (λ _. x) (t ∷ []) old.link.unsettled ∙ by (bytes_eq t tag) (bytes_eq tag t) (eq_turned t tag)
      where
        before : is_unsettled (entry_at old.deliveries tag) ≡ true
        before = unsettled_before (entry_at old.deliveries tag) (entry_at new.deliveries tag) e now

        by : (b c : Bool) → b ≡ c → changed_if (λ _. x) (b || false) (entry_at old.link.unsettled tag) ≡ option_or (if c then Some x else None) v
        by true true p = set_to x (entry_at old.link.unsettled tag) (is.each tag ∙ before)
        by true false p = absurd (false_is_not_true (sym p))
        by false true p = absurd (false_is_not_true p)
        by false false p = had before

    -- one entry is removed
    removes : {store : Store} (x : Option DeliveryState) (t : Tag) → Has store (without_entry old.link.unsettled t) new
        → (t ≡ tag → is_unsettled (entry_at store.entries tag) ≡ false) → Then (if bytes_eq tag t then Some x else None)
    removes {store} x t h gone now = by (bytes_eq tag t) (bytes_eq-Decides tag t) refl
      where
        by : (b : Bool) → Decides b (tag ≡ t) → bytes_eq tag t ≡ b → entry_at new.link.unsettled tag ≡ option_or (if b then Some x else None) v
        by true d p = absurd (false_is_not_true (sym (ap is_unsettled (kept_now h) ∙ gone (sym (d.0 refl))) ∙ now))
        by false d p =
            ap (λ m. entry_at m tag) h.unsettled ∙ entry_at-removed old.link.unsettled t tag is.unsettled_map
            ∙ ap (λ b. cond b None (entry_at old.link.unsettled tag)) (eq_turned t tag ∙ p)
            ∙ had (unsettled_before (entry_at old.deliveries tag) (entry_at new.deliveries tag) e now)

    disposes : (settled : Bool) (state : DeliveryState) (t : Tag)
        → Has (keeping (after_settling settled t old.deliveries) old) (after_one settled state t old.link.unsettled) new → Then (if bytes_eq tag t then Some (Some state) else None)
    disposes true state t h =
        removes (Some state) t h
        (λ p. ap is_unsettled (entry_at-removed old.deliveries t tag is.entries_map ∙ ap (λ b. cond b None (entry_at old.deliveries tag)) (ap (λ u. bytes_eq u tag) p ∙ same_tag tag)))
    disposes false state t h = sets (Some state) t h

    settles : (settled : Bool) (state : Option DeliveryState) (t : Tag)
        → Has (if settled then settled_at t (store_of old) else store_of old) (map_after_sender_disposition settled state t old.link.unsettled) new
        → Then (if bytes_eq tag t then Some state else None)
    settles true state t h = removes state t h (λ p. subst (λ u. is_unsettled (entry_at (settled_at u (store_of old)).entries tag) ≡ false) (sym p) (none_open (entry_at old.deliveries tag) refl))
      where
        none_open : (o : Option Kept) → entry_at old.deliveries tag ≡ o → is_unsettled (entry_at (settled_in o tag (store_of old)).entries tag) ≡ false
        none_open None here = ap is_unsettled here
        none_open (Some kept) here = in_case (has_begun kept.contents)
          where
            in_case : (b : Bool) → is_unsettled (entry_at (stored_by true b tag (record kept { settled = true }) (store_of old)).entries tag) ≡ false
            in_case true = ap is_unsettled (entry_at-put old.deliveries tag (record kept { settled = true }))
            in_case false =
                ap is_unsettled (entry_at-removed old.deliveries tag tag is.entries_map ∙ ap (λ b. cond b None (entry_at old.deliveries tag)) (same_tag tag))
    settles false state t h = sets state t h

  -- several deliveries are disposed of
  disposes_all : (f : Info → Bool) (state : DeliveryState) (ts : List Tag) (infos : List Info) → tags_of infos ≡ ts
      → Has (keeping (without_entries old.deliveries (tags_of (filter f infos))) old) (after_dispositions f state (kept_in_order old.link.unsettled infos) old.link.unsettled) new
      → Then (if is_among tag ts then Some (Some state) else None)
  disposes_all f state ts infos named h now =
      ap (λ m. entry_at m tag) h.unsettled
      ∙ kept_removed tag gone (changed_at (λ _. Some state) others old.link.unsettled) changed_map none_gone
      ∙ changed_here tag (λ _. Some state) others old.link.unsettled
      ∙ by (list_any (λ t. bytes_eq t tag) others) (is_among tag ts) among
    where
      gone : List Tag
      gone = tags_of (filter f (kept_in_order old.link.unsettled infos))

      others : List Tag
      others = tags_of (filter (λ info. not (f info)) (kept_in_order old.link.unsettled infos))

      changed_map : IsMap (changed_at (λ _. Some state) others old.link.unsettled)
      changed_map = (stated_changed (λ _. Some state) others old.deliveries old.link.unsettled is).unsettled_map

      parts : (is_unsettled (entry_at old.deliveries tag) ≡ true) × (not (list_any (bytes_eq tag) (tags_of (filter f infos))) ≡ true)
      parts = and_parts (is_unsettled (entry_at old.deliveries tag)) (not (list_any (bytes_eq tag) (tags_of (filter f infos))))
          (sym (found-removed {V = Kept} is_unsettled refl tag (tags_of (filter f infos)) old.deliveries is.entries_map) ∙ ap is_unsettled (sym (kept_now h)) ∙ now)

      has : is_some (entry_at old.link.unsettled tag) ≡ true
      has = is.each tag ∙ parts.0

      none_settled : list_any (bytes_eq tag) (tags_of (filter f infos)) ≡ false
      none_settled = not-true (list_any (bytes_eq tag) (tags_of (filter f infos))) parts.1

      none_gone : list_any (bytes_eq tag) gone ≡ false
      none_gone = alike f state infos old.deliveries old.link.unsettled tag has ∙ none_settled

      among : list_any (λ t. bytes_eq t tag) others ≡ is_among tag ts
      among =
          (λ i. list_any (λ t. eq_turned t tag i) others)
          ∙ alike (λ info. not (f info)) state infos old.deliveries old.link.unsettled tag has
          ∙ any_open f tag infos none_settled ∙ ap (list_any (bytes_eq tag)) named

      by : (b c : Bool) → b ≡ c → changed_if (λ _. Some state) b (entry_at old.link.unsettled tag) ≡ option_or (if c then Some (Some state) else None) v
      by true true p = set_to (Some state) (entry_at old.link.unsettled tag) has
      by true false p = absurd (false_is_not_true (sym p))
      by false true p = absurd (false_is_not_true p)
      by false false p = had parts.0

  -- an attach is sent, or taken
  sent : (anew : Bool) → Has (keeping (kept_after anew old.deliveries) old) (if anew then [] else old.link.unsettled) new → Then None
  sent true h now = absurd (false_is_not_true (ap is_unsettled (sym (kept_now h)) ∙ now))
  sent false h now = ap (λ m. entry_at m tag) h.unsettled ∙ had (ap is_unsettled (sym (kept_now h)) ∙ now)

  forgets : (ts : List Tag) → Has (keeping (without_ids (without_entries old.deliveries ts)) old) (without_entries old.link.unsettled ts) new → Then None
  forgets ts h now =
      ap (λ m. entry_at m tag) h.unsettled
      ∙ kept_removed tag ts old.link.unsettled is.unsettled_map (not-true (list_any (bytes_eq tag) ts) parts.1) ∙ had parts.0
    where
      left : is_unsettled (entry_at (without_entries old.deliveries ts) tag) ≡ true
      left = unsettled_before (entry_at (without_entries old.deliveries ts) tag) (entry_at (without_ids (without_entries old.deliveries ts)) tag)
          (ids tag (without_entries old.deliveries ts)) (ap is_unsettled (sym (kept_now h)) ∙ now)

      parts : (is_unsettled (entry_at old.deliveries tag) ≡ true) × (not (list_any (bytes_eq tag) ts) ≡ true)
      parts = and_parts (is_unsettled (entry_at old.deliveries tag)) (not (list_any (bytes_eq tag) ts))
          (sym (found-removed {V = Kept} is_unsettled refl tag ts old.deliveries is.entries_map) ∙ left)

  comes : (t : Transfer) (bytes : List ℕ) (arrived : Arrived) → Arrives old t bytes arrived new
      → Then (if names tag (tag_of old t) then option_map received (bytes_at new.deliveries tag) else None)
  comes t bytes arrived a = by (names tag (tag_of old t)) refl
    where
      by : (b : Bool) → names tag (tag_of old t) ≡ b → Then (if b then option_map received (bytes_at new.deliveries tag) else None)
      by true is_so now =
          let here : a.tag ≡ tag = same_Some a.tag tag (sym a.tag_is ∙ is_named tag (tag_of old t) is_so) in
          ap (λ (r : Receiver T). entry_at r.unsettled tag) a.link_is
          ∙ handled_states (store_of old) tag is.entries_map old.link v t bytes had t.aborted (is_new old t) (begins old) arrived.arrival arrived.replaced (store_of new) a.link
          (subst (λ g. Handles t.aborted (is_new old t) (begins old) g t bytes (store_of old) old.link arrived.arrival arrived.replaced (store_of new) a.link) here a.handles) now
      by false is_not now =
          let apart = other_stays old new t bytes arrived is a tag (λ p. false_is_not_true (sym is_not ∙ ap (names tag) p ∙ same_tag tag)) in
          apart.1 ∙ had (ap is_unsettled (sym apart.0) ∙ now)

  step_states : (c : Call) (a : AnswerOf B) → Step decoded old c a new → Then (states_by tag old c a new)
  step_states (call.SendAttach anew) (answer.AttachSent r) s = either_way r s (λ _ h. sent anew h) (λ _ h. stays (effect_of tag decoded old new is (call.SendAttach anew) (answer.AttachSent r) s refl) h)
  step_states (call.OnIncomingAttach attach) (answer.Attached r) s =
      either_way r s (λ _ h. forgets (forgotten_tags (forgotten_by attach old.deliveries)) h)
      (λ _ h. stays (effect_of tag decoded old new is (call.OnIncomingAttach attach) (answer.Attached r) s refl) h)
  step_states (call.OnIncomingTransfer t bytes) (answer.Arrived (Ok arrived)) s = comes t bytes arrived s
  step_states (call.OnIncomingTransfer t bytes) (answer.Arrived (Err refused)) s =
      stays (effect_of tag decoded old new is (call.OnIncomingTransfer t bytes) (answer.Arrived (Err refused)) s refl) s
  step_states (call.Take t) (answer.Taken r) s = stays (effect_of tag decoded old new is (call.Take t) (answer.Taken r) s refl) s.after
  step_states call.TakeSettled (answer.SettledTaken r) s = stays (effect_of tag decoded old new is call.TakeSettled (answer.SettledTaken r) s refl) s.after
  step_states (call.Dispose t settled state batchable) (answer.Disposed (Ok frame)) s =
      disposes (effect_of tag decoded old new is (call.Dispose t settled state batchable) (answer.Disposed (Ok frame)) s refl) _ state t s.2
  step_states (call.Dispose t settled state batchable) (answer.Disposed (Err error)) s =
      stays (effect_of tag decoded old new is (call.Dispose t settled state batchable) (answer.Disposed (Err error)) s refl) s
  step_states (call.DisposeAll ts settled state batchable) (answer.AllDisposed (Ok frames)) s =
      disposes_all _ state ts.items s.0 (infos_name old.link.local_state old.deliveries ts.items s.0 s.1) s.2
  step_states (call.DisposeAll ts settled state batchable) (answer.AllDisposed (Err error)) s =
      stays (effect_of tag decoded old new is (call.DisposeAll ts settled state batchable) (answer.AllDisposed (Err error)) s refl) s
  step_states (call.KeepOutcome t state) (answer.OutcomeKept (Ok done)) s =
      sets (effect_of tag decoded old new is (call.KeepOutcome t state) (answer.OutcomeKept (Ok done)) s refl) (Some state) t s.1
  step_states (call.KeepOutcome t state) (answer.OutcomeKept (Err error)) s =
      stays (effect_of tag decoded old new is (call.KeepOutcome t state) (answer.OutcomeKept (Err error)) s refl) s
  step_states (call.OnIncomingDisposition settled state t) (answer.DispositionTaken (Ok done)) s =
      settles (effect_of tag decoded old new is (call.OnIncomingDisposition settled state t) (answer.DispositionTaken (Ok done)) s refl) settled state t s
  step_states (call.OnIncomingDisposition settled state t) (answer.DispositionTaken (Err error)) s =
      stays (effect_of tag decoded old new is (call.OnIncomingDisposition settled state t) (answer.DispositionTaken (Err error)) s refl) s
  step_states (call.SetOutputHandle handle) answer.Done s = stays (effect_of tag decoded old new is (call.SetOutputHandle handle) answer.Done s refl) s
  step_states (call.SendFlow credit drain echo properties) (answer.FlowSent r) s =
      stays (effect_of tag decoded old new is (call.SendFlow credit drain echo properties) (answer.FlowSent r) s refl) s
  step_states (call.OnIncomingFlow flow) (answer.FlowTaken r) s = stays (effect_of tag decoded old new is (call.OnIncomingFlow flow) (answer.FlowTaken r) s refl) s
  step_states (call.SendDetach closed error) (answer.DetachSent r) s =
      stays (effect_of tag decoded old new is (call.SendDetach closed error) (answer.DetachSent r) s refl) s
  step_states (call.OnDetachReply detach) (answer.DetachReplied r) s =
      stays (effect_of tag decoded old new is (call.OnDetachReply detach) (answer.DetachReplied r) s refl) s
  step_states (call.ApplyRemoteDetachOutcome detach) (answer.DetachTaken r) s =
      stays (effect_of tag decoded old new is (call.ApplyRemoteDetachOutcome detach) (answer.DetachTaken r) s refl) s
  step_states call.OnSessionLost answer.Done s = stays (effect_of tag decoded old new is call.OnSessionLost answer.Done s refl) s
  step_states _ _ s = absurd s

-- ---- a list of calls

later_or : {V : Type 0} (a b c : Option V) → option_or (option_or a b) c ≡ option_or a (option_or b c)
later_or None b c = refl
later_or (Some a) b c = refl

module _ {T B : Type 0} (decoded : Decoder B) (tag : Tag) where
  pub run_states : (old new : InboxState T) (moments : List (Moment T B)) (v : Option (Option DeliveryState)) → IsStated old.deliveries old.link.unsettled
      → IsRun decoded old moments new → (is_unsettled (entry_at old.deliveries tag) ≡ true → entry_at old.link.unsettled tag ≡ v)
      → is_unsettled (entry_at new.deliveries tag) ≡ true → entry_at new.link.unsettled tag ≡ option_or (last_stated tag moments) v
  run_states old new [] v is run had =
      subst (λ (w : InboxState T). is_unsettled (entry_at w.deliveries tag) ≡ true → entry_at w.link.unsettled tag ≡ v) (sym run) had
  run_states old new (m ∷ moments) v is run had =
      let start = subst (λ (w : InboxState T). IsStated w.deliveries w.link.unsettled) (sym run.0) is in
      let here = subst (λ (w : InboxState T). is_unsettled (entry_at w.deliveries tag) ≡ true → entry_at w.link.unsettled tag ≡ v) (sym run.0) had in
      λ now. run_states m.after new moments (option_or (states tag m) v) run.2 run.3 (step_states decoded tag m.before m.after start v here m.call m.answer run.1) now
      ∙ sym (later_or (last_stated tag moments) (states tag m) v)
