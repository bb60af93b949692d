-- What keeps the pending registrations those of the entries of a map.
use Rattle.std.proofs.Common.{◌≡◌, ◌≢◌, ◌∙◌, sym, ap, subst, Bool, true, false, cond, List, [], ◌∷◌, refl, ◌+◌, map, Option, Some, None, is_some, if◌then◌else◌}
use Rattle.std.specs.Prelude.{bytes_eq, option_map}
use Rattle.std.proofs.lemmas.Cmp.{nat_list_eq_equiv}
use Rattle.amqp_link_types.specs.Entries.{Tag, Entries, entry_at, with_entry, without_entry, without_entries, IsMap}
use Rattle.amqp_link_types.specs.Deliveries.{Ended}
use Rattle.amqp_link_types.proofs.MapLemmas.{entry_at-put, entry_at-put_other, entry_at-removed, IsMap-removed, put-absent}
use Rattle.amqp_link_types.proofs.EntriesLemmas.{IsMap-none, IsMap-push}
use Rattle.amqp_link_core.specs.declared.resumption.ResumingDelivery.{ResumingDelivery}
use Rattle.amqp_link_ledger.specs.declared.fate.Fate.{Fate}
use Rattle.amqp_link_ledger.specs.declared.fate.Fate.TheVariants.{Withdrawn, HandedOut, Resolved}
use Rattle.amqp_link_ledger.specs.Fates.{Records, Enters, Withdraws, HandsOut, Resolves, after, is_pending_fate, pending_count, with_fates, registered, IsRecorded}
use Rattle.amqp_link_ledger.proofs.ListSteps.{some_is, some_is_none, false_true, by_test, tag_is, is_tag, entry_at-map, is_some-option_map}
use Rattle.amqp_link_ledger.proofs.FateLemmas.{with_fates-none}
use Rattle.amqp_link_ledger.proofs.CountLemmas.{count-registered, count-registered_other, count-given, count-not_given}

-- nothing is registered where nothing is unsettled
pub IsRecorded-none : (V : Type 0) → IsRecorded {V = V} [] []
IsRecorded-none V = record { distinct = IsMap-none V; pending = λ tag. refl }

-- ---- an entry enters

module _ {V : Type 0} (m : Entries V) (records : Records) (tag : Tag) (v : V) (h : IsRecorded m records) (absent : entry_at m tag ≡ None) where
  Counted : Tag → Type 0
  Counted other = pending_count other (registered tag records) ≡ (if is_some (entry_at (with_entry m tag v) other) then 1 else 0)

  counted_here : Counted tag
  unfolding Counted
  counted_here =
      count-registered tag records
      ∙ ap (λ n. n + 1) (h.pending tag ∙ ap (λ o. if is_some o then 1 else 0) absent)
      ∙ sym (ap (λ o. if is_some o then 1 else 0) (entry_at-put m tag v))

  counted_there : (other : Tag) → other ≢ tag → Counted other
  unfolding Counted
  counted_there other n =
      count-registered_other tag other records n
      ∙ h.pending other
      ∙ sym (ap (λ o. if is_some o then 1 else 0) (entry_at-put_other m tag other v n))

  pub IsRecorded-enters : IsRecorded (with_entry m tag v) (after (Enters tag) records)
  unfolding Counted
  IsRecorded-enters = record {
    distinct = subst IsMap (sym (put-absent m tag v absent)) (IsMap-push m tag v h.distinct absent);
    pending = λ other. by_test (bytes_eq other tag)
        (λ y. subst Counted (sym (tag_is other tag y)) counted_here)
        (λ y. counted_there other (λ p. false_true y (is_tag other tag p)));
  }

-- ---- values change, and no tag enters or leaves

pub IsRecorded-changed : {V W : Type 0} (m : Entries V) (left : Entries W) (records : Records) → IsRecorded m records → IsMap left → ((tag : Tag) → is_some (entry_at left tag) ≡ is_some (entry_at m tag)) → IsRecorded left records
IsRecorded-changed m left records h is same = record {
  distinct = is;
  pending = λ tag. h.pending tag ∙ sym (ap (λ b. if b then 1 else 0) (same tag));
}

-- ---- fates are given: none of them is pending, and their tags leave the map

-- no fate that is given is pending
abbrev pub AreFinal : Entries Fate → Type 0
AreFinal given = (tag : Tag) (fate : Fate) → entry_at given tag ≡ Some fate → is_pending_fate fate ≡ false

-- the tags of these entries are gone, and the others are as they were
abbrev pub LeavesOthers : {V W X : Type 0} → Entries V → Entries X → Entries W → Type 0
LeavesOthers m gone left = (tag : Tag) → is_some (entry_at left tag) ≡ (if is_some (entry_at gone tag) then false else is_some (entry_at m tag))

module _ {V W : Type 0} where
  pub IsRecorded-given : (m : Entries V) (left : Entries W) (given : Entries Fate) (records : Records) → IsRecorded m records → IsMap left → AreFinal given → LeavesOthers m given left → IsRecorded left (with_fates given records)
  IsRecorded-given m left given records h is final others = record {
    distinct = is;
    pending = λ tag. by tag (entry_at given tag) refl;
  }
    where
      by : (tag : Tag) (o : Option Fate) → entry_at given tag ≡ o → pending_count tag (with_fates given records) ≡ (if is_some (entry_at left tag) then 1 else 0)
      by tag None e =
          count-not_given tag given records e
          ∙ h.pending tag
          ∙ sym (ap (λ b. if b then 1 else 0) (others tag ∙ ap (λ o. if is_some o then false else is_some (entry_at m tag)) e))
      by tag (Some fate) e =
          count-given tag given records fate e (final tag fate e)
          ∙ sym (ap (λ b. if b then 1 else 0) (others tag ∙ ap (λ o. if is_some o then false else is_some (entry_at m tag)) e))

-- the fates that a list gives
module _ {X : Type 0} (fate_of : X → Fate) (final : (x : X) → is_pending_fate (fate_of x) ≡ false) where
  pub AreFinal-map : (list : Entries X) → AreFinal (map (λ e. (e.0, fate_of e.1)) list)
  AreFinal-map list tag fate e = by (entry_at list tag) (sym (entry_at-map fate_of list tag) ∙ e)
    where
      by : (o : Option X) → option_map fate_of o ≡ Some fate → is_pending_fate fate ≡ false
      by None e = absurd (some_is_none (sym e))
      by (Some x) e = ap is_pending_fate (sym (some_is e)) ∙ final x

  pub IsRecorded-gone : {V W : Type 0} (m : Entries V) (left : Entries W) (list : Entries X) (records : Records) → IsRecorded m records → IsMap left → LeavesOthers m list left
      → IsRecorded left (with_fates (map (λ e. (e.0, fate_of e.1)) list) records)
  IsRecorded-gone m left list records h is others =
      IsRecorded-given m left (map (λ e. (e.0, fate_of e.1)) list) records h is (AreFinal-map list)
      (λ tag. others tag ∙ sym (ap (λ b. if b then false else is_some (entry_at m tag)) (ap is_some (entry_at-map fate_of list tag) ∙ is_some-option_map fate_of (entry_at list tag))))

-- ---- what is gone

-- all of a map are gone
pub LeavesOthers-none : {V X : Type 0} (W : Type 0) (m : Entries V) (gone : Entries X) → ((tag : Tag) → is_some (entry_at m tag) ≡ true → is_some (entry_at gone tag) ≡ true) → LeavesOthers {W = W} m gone []
LeavesOthers-none W m gone all = λ tag. by (is_some (entry_at gone tag)) (is_some (entry_at m tag)) (all tag)
  where
    by : (a b : Bool) → (b ≡ true → a ≡ true) → false ≡ (if a then false else b)
    by true b f = refl
    by false true f = f refl
    by false false f = refl

turned : (tag other : Tag) → bytes_eq tag other ≡ bytes_eq other tag
turned tag other = nat_list_eq_equiv.symm tag other

-- one is gone
pub LeavesOthers-one : {V X : Type 0} (m : Entries V) (tag : Tag) (x : X) → IsMap m → LeavesOthers m ((tag, x) ∷ []) (without_entry m tag)
LeavesOthers-one {V} {X} m tag x is = λ other. ap is_some (entry_at-removed m tag other is) ∙ by other (bytes_eq tag other) (bytes_eq other tag) (turned tag other)
  where
    by : (other : Tag) (a b : Bool) → a ≡ b → is_some (cond a None (entry_at m other)) ≡ (if is_some (cond {A = Option X} b (Some x) None) then false else is_some (entry_at m other))
    by other true true e = refl
    by other true false e = absurd (false_true e refl)
    by other false true e = absurd (false_true refl e)
    by other false false e = refl

-- those of a list are gone, one after the other
pub LeavesOthers-entries : {V X : Type 0} (m : Entries V) (list : Entries X) → IsMap m → LeavesOthers m list (without_entries m (map (λ e. e.0) list))
LeavesOthers-entries m [] is = λ tag. refl
LeavesOthers-entries {V} {X} m (e ∷ list) is = λ tag.
    LeavesOthers-entries (without_entry m e.0) list (IsMap-removed m e.0 is) tag
    ∙ ap (λ o. if is_some (entry_at list tag) then false else is_some o) (entry_at-removed m e.0 tag is)
    ∙ by tag (bytes_eq e.0 tag) (bytes_eq tag e.0) (turned e.0 tag) (is_some (entry_at list tag)) refl
  where
    by : (tag : Tag) (a b : Bool) → a ≡ b → (c : Bool) → is_some (entry_at list tag) ≡ c
        → (if c then false else is_some (cond a None (entry_at m tag))) ≡ (if is_some (cond b (Some e.1) (entry_at list tag)) then false else is_some (entry_at m tag))
    by tag true true e true h = refl
    by tag true true e false h = refl
    by tag true false e c h = absurd (false_true e refl)
    by tag false true e c h = absurd (false_true refl e)
    by tag false false e c h = ap (λ b. if b then false else is_some (entry_at m tag)) (sym h)

pub IsMap-entries : {V : Type 0} (m : Entries V) (tags : List Tag) → IsMap m → IsMap (without_entries m tags)
IsMap-entries m [] is = is
IsMap-entries m (tag ∷ tags) is = IsMap-entries (without_entry m tag) tags (IsMap-removed m tag is)

-- ---- each change

module _ {V : Type 0} (m : Entries V) (records : Records) (h : IsRecorded m records) where
  pub IsRecorded-withdraws : (tag : Tag) → IsRecorded (without_entry m tag) (after (Withdraws tag) records)
  IsRecorded-withdraws tag =
      IsRecorded-gone {X = Unit {0}} (λ _. Withdrawn) (λ _. refl) m (without_entry m tag) ((tag, tt) ∷ []) records h (IsMap-removed m tag h.distinct) (LeavesOthers-one m tag tt h.distinct)

  -- outcomes whose tags leave the map
  pub IsRecorded-resolves : (outcomes : List Ended) → IsRecorded (without_entries m (map (λ o. o.0) outcomes)) (after (Resolves outcomes) records)
  IsRecorded-resolves outcomes =
      IsRecorded-gone Resolved (λ _. refl) m (without_entries m (map (λ o. o.0) outcomes)) outcomes records h (IsMap-entries m (map (λ o. o.0) outcomes) h.distinct) (LeavesOthers-entries m outcomes h.distinct)

  -- the same of a list that is handed out
  pub IsRecorded-hands_out : (list : Entries ResumingDelivery) → IsRecorded (without_entries m (map (λ d. d.0) list)) (after (HandsOut list) records)
  IsRecorded-hands_out list =
      IsRecorded-gone (λ _. HandedOut) (λ _. refl) m (without_entries m (map (λ d. d.0) list)) list records h (IsMap-entries m (map (λ d. d.0) list) h.distinct) (LeavesOthers-entries m list h.distinct)

  -- all entries are resolved, and the map is emptied
  pub IsRecorded-resolves_all : (W : Type 0) (outcomes : List Ended) → ((tag : Tag) → is_some (entry_at m tag) ≡ true → is_some (entry_at outcomes tag) ≡ true) → IsRecorded {V = W} [] (after (Resolves outcomes) records)
  IsRecorded-resolves_all W outcomes all =
      IsRecorded-gone Resolved (λ _. refl) {W = W} m [] outcomes records h (IsMap-none W) (LeavesOthers-none W m outcomes all)

  -- all entries are handed out or resolved before it, and the map is emptied
  pub IsRecorded-hands_out_all : (W : Type 0) (list : Entries ResumingDelivery) → ((tag : Tag) → is_some (entry_at m tag) ≡ true → is_some (entry_at list tag) ≡ true) → IsRecorded {V = W} [] (after (HandsOut list) records)
  IsRecorded-hands_out_all W list all =
      IsRecorded-gone (λ _. HandedOut) (λ _. refl) {W = W} m [] list records h (IsMap-none W) (LeavesOthers-none W m list all)

  -- an exchange splits the entries: some are resolved, the others handed out, and the map is emptied
  pub IsRecorded-exchanged : (W : Type 0) (outcomes : List Ended) (list : Entries ResumingDelivery)
      → ((tag : Tag) → is_some (entry_at outcomes tag) ≡ false → is_some (entry_at m tag) ≡ true → is_some (entry_at list tag) ≡ true)
      → IsRecorded {V = W} [] (after (HandsOut list) (after (Resolves outcomes) records))
  IsRecorded-exchanged W outcomes list rest =
      let left = without_entries m (map (λ o. o.0) outcomes) in
      let resolves : IsRecorded left (after (Resolves outcomes) records) = IsRecorded-resolves outcomes in
      let others : LeavesOthers m outcomes left = LeavesOthers-entries m outcomes h.distinct in
      IsRecorded-gone (λ _. HandedOut) (λ _. refl) {W = W} left [] list (after (Resolves outcomes) records) resolves (IsMap-none W)
      (LeavesOthers-none W left list (λ tag there. by tag (is_some (entry_at outcomes tag)) refl (sym (others tag) ∙ there)))
    where
      by : (tag : Tag) (b : Bool) → is_some (entry_at outcomes tag) ≡ b → (if is_some (entry_at outcomes tag) then false else is_some (entry_at m tag)) ≡ true → is_some (entry_at list tag) ≡ true
      by tag true e there = absurd (false_true (ap (λ b. if b then false else is_some (entry_at m tag)) e) there)
      by tag false e there = rest tag e (sym (ap (λ b. if b then false else is_some (entry_at m tag)) e) ∙ there)

  -- no outcomes
  pub IsRecorded-resolves_none : IsRecorded m (after (Resolves []) records)
  IsRecorded-resolves_none = subst (IsRecorded m) (sym (with_fates-none records)) h

-- no outcomes change nothing, and no list
pub resolves-none : (records : Records) → after (Resolves []) records ≡ records
resolves-none records = with_fates-none records

pub hands_out-none : (records : Records) → after (HandsOut []) records ≡ records
hands_out-none records = with_fates-none records
