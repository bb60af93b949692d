-- Deliveries that a sender settles, or states something of: which outcomes are returned, in which order they are copied, and
-- what is left of the map.
use Rattle.std.proofs.Common.{◌≡◌, ◌∙◌, sym, ap, Bool, true, false, cond, not, ◌||◌, List, [], ◌∷◌, refl, ℕ, ◌+◌, ◌<◌, ◌≤◌, map, drop, length, get_or, Option, Some, None, is_some, Ok, if◌then◌else◌}
use Rattle.std.specs.Prelude.{bytes_eq, option_map, nat_le}
use Rattle.std.specs.List.{filter, filter_map, cons_option, list_any}
use Rattle.std.specs.Option.{option_to_list}
use Rattle.amqp_link_types.specs.declared.delivery.UnsettledMessage.{UnsettledMessage}
use Rattle.amqp_link_types.specs.declared.types.delivery_state.DeliveryState.{DeliveryState}
use Rattle.amqp_link_types.specs.Deliveries.{Ended}
use Rattle.amqp_link_types.specs.Entries.{Tag, Entries, entry_at, without_entries, IsMap}
use Rattle.amqp_link_dispositions.specs.Order.{placed, sorted_by}
use Rattle.amqp_link_dispositions.specs.Ending.{settled_at, settled_of, disposed, ended_of, message_with_state}
use Rattle.amqp_link_dispositions.specs.Listed.{firsts, tags_in_order}
use Rattle.amqp_link_sender.specs.Senders.{Sender, settles}
use Rattle.amqp_link_sender.specs.SenderDisposes.{ended_at, after_disposing}
use Rattle.amqp_link_ledger.specs.declared.fate.Fate.{Fate}
use Rattle.amqp_link_ledger.specs.declared.fate.Fate.TheVariants.{Resolved}
use Rattle.amqp_link_ledger.specs.Disposing.{OutcomeSeen, settled_outcome, copies_at}
use Rattle.amqp_link_ledger.specs.Fates.{Records, Resolves, after, resolved, IsRecorded}
use Rattle.amqp_link_ledger.proofs.ListSteps.{tag_is, entry_at-map}
use Rattle.amqp_link_ledger.proofs.FateLemmas.{one_by_one, with_fates-none, with_fates-ext}
use Rattle.amqp_link_ledger.proofs.RecordLemmas.{IsRecorded-gone, IsMap-entries, LeavesOthers, LeavesOthers-entries, resolves-none}
use Rattle.amqp_link_ledger.proofs.DisposeLemmas.{recorded-changed}
use Rattle.amqp_link_ledger.proofs.LoopLemmas.{front, none_after}

-- ---- a tag stands in a list as often as the list is sorted or its repetitions are dropped

module _ (tag : Tag) where
  -- a tag stands in a list
  abbrev Stands : List Tag → Bool
  Stands ts = list_any (bytes_eq tag) ts

  turn : (a b c : Bool) → (a || (b || c)) ≡ (b || (a || c))
  turn true true c = refl
  turn true false c = refl
  turn false true c = refl
  turn false false c = refl

  module _ {A : Type 0} (number : A → ℕ) (tag_of : A → Tag) where
    stands-placed : (a : A) (bs : List A) → Stands (map tag_of (placed number a bs)) ≡ (bytes_eq tag (tag_of a) || Stands (map tag_of bs))
    stands-placed a [] = refl
    stands-placed a (b ∷ bs) =
        elim (nat_le (number a) (number b)) as (λ c. Stands (map tag_of (cond c (a ∷ b ∷ bs) (b ∷ placed number a bs))) ≡ (bytes_eq tag (tag_of a) || Stands (map tag_of (b ∷ bs)))) [
          | true ↦ refl
          | false ↦ ap (λ c. bytes_eq tag (tag_of b) || c) (stands-placed a bs) ∙ turn (bytes_eq tag (tag_of b)) (bytes_eq tag (tag_of a)) (Stands (map tag_of bs))
        ]

    stands-sorted : (xs : List A) → Stands (map tag_of (sorted_by number xs)) ≡ Stands (map tag_of xs)
    stands-sorted [] = refl
    stands-sorted (a ∷ more) = stands-placed a (sorted_by number more) ∙ ap (λ c. bytes_eq tag (tag_of a) || c) (stands-sorted more)

  -- a tag other than this one is still there once this one is dropped
  stands-others : (t : Tag) (ts : List Tag) → bytes_eq tag t ≡ false → Stands (filter (λ u. not (bytes_eq t u)) ts) ≡ Stands ts
  stands-others t [] n = refl
  stands-others t (u ∷ us) n = by (stands-others t us n) (bytes_eq t u) refl
    where
      by : Stands (filter (λ v. not (bytes_eq t v)) us) ≡ Stands us → (b : Bool) → bytes_eq t u ≡ b
          → Stands (cond (not b) (u ∷ filter (λ v. not (bytes_eq t v)) us) (filter (λ v. not (bytes_eq t v)) us)) ≡ (bytes_eq tag u || Stands us)
      by rest true e = rest ∙ sym (ap (λ c. c || Stands us) (ap (bytes_eq tag) (sym (tag_is t u e)) ∙ n))
      by rest false e = ap (λ c. bytes_eq tag u || c) rest

  stands-firsts : (ts : List Tag) → Stands (firsts ts) ≡ Stands ts
  stands-firsts [] = refl
  stands-firsts (t ∷ ts) = by (stands-firsts ts) (bytes_eq tag t) refl
    where
      by : Stands (firsts ts) ≡ Stands ts → (b : Bool) → bytes_eq tag t ≡ b → (b || Stands (filter (λ u. not (bytes_eq t u)) (firsts ts))) ≡ (b || Stands ts)
      by rest true e = refl
      by rest false e = stands-others t (firsts ts) e ∙ rest

  stands-in_order : (listed : List (ℕ × Tag)) → Stands (firsts (tags_in_order listed)) ≡ Stands (map (λ pair. pair.1) listed)
  stands-in_order listed = stands-firsts (tags_in_order listed) ∙ stands-sorted (λ pair. pair.0) (λ pair. pair.1) listed

  -- ---- the outcome of a tag

  either_none : (b : Bool) → (let n : Option OutcomeSeen = None in if b then n else n) ≡ None
  either_none true = refl
  either_none false = refl

  module _ (own : Entries UnsettledMessage) where
    outcome_of : (ts : List Tag) → entry_at (filter_map (settled_at own) ts) tag ≡ (if Stands ts then settled_outcome own tag else None)
    outcome_of [] = refl
    outcome_of (t ∷ ts) = by (outcome_of ts) (bytes_eq tag t) (entry_at own t) refl refl
      where
        by : entry_at (filter_map (settled_at own) ts) tag ≡ (if Stands ts then settled_outcome own tag else None) → (b : Bool) (o : Option UnsettledMessage) → bytes_eq tag t ≡ b → entry_at own t ≡ o
            → entry_at (cons_option (option_map (λ m. (t, Ok m.state)) o) (filter_map (settled_at own) ts)) tag ≡ (if b || Stands ts then settled_outcome own tag else None)
        by rest true None h e =
            let none : settled_outcome own tag ≡ None = ap (option_map (λ m. Ok m.state)) (ap (entry_at own) (tag_is tag t h) ∙ e) in
            rest ∙ ap (λ o. if Stands ts then o else None) none ∙ either_none (Stands ts) ∙ sym none
        by rest true (Some m) h e =
            ap (λ b. cond b (Some (Ok m.state)) (entry_at (filter_map (settled_at own) ts) tag)) h
            ∙ sym (ap (option_map (λ m. Ok m.state)) (ap (entry_at own) (tag_is tag t h) ∙ e))
        by rest false None h e = rest
        by rest false (Some m) h e = ap (λ b. cond b (Some (Ok m.state)) (entry_at (filter_map (settled_at own) ts) tag)) h ∙ rest

-- ---- the records

abbrev fates_of_outcomes : List Ended → Entries Fate
fates_of_outcomes outcomes = map (λ o. (o.0, Resolved o.1)) outcomes

module _ (own : Entries UnsettledMessage) where
  -- outcomes copied in the order of the list are those that are returned in the order of the numbers
  pub resolved-in_order : (listed : List (ℕ × Tag)) (records : Records)
      → resolved (filter_map (settled_at own) (map (λ pair. pair.1) listed)) records ≡ resolved (settled_of own (tags_in_order listed)) records
  resolved-in_order listed records =
      with_fates-ext (fates_of_outcomes (filter_map (settled_at own) (map (λ pair. pair.1) listed))) (fates_of_outcomes (settled_of own (tags_in_order listed))) records
      (λ tag. entry_at-map Resolved (filter_map (settled_at own) (map (λ pair. pair.1) listed)) tag
      ∙ ap (option_map Resolved) (outcome_of tag own (map (λ pair. pair.1) listed)
      ∙ sym (ap (λ c. if c then settled_outcome own tag else None) (stands-in_order tag listed))
      ∙ sym (outcome_of tag own (firsts (tags_in_order listed))))
      ∙ sym (entry_at-map Resolved (settled_of own (tags_in_order listed)) tag))

-- one outcome is given, if there is one, and then the others
pub resolved_one : (o : Option Ended) (rest : List Ended) (records : Records) → resolved (cons_option o rest) records ≡ resolved rest (after (Resolves (option_to_list o)) records)
resolved_one None rest records = ap (resolved rest) (sym (with_fates-none records))
resolved_one (Some e) rest records = one_by_one e.0 (Resolved e.1) (fates_of_outcomes rest) records refl

-- ---- the map

-- tags that are removed, as a map of nothing
units : List Tag → Entries (Unit {0})
units ts = map (λ t. (t, tt)) ts

units-keys : (ts : List Tag) → map (λ e. e.0) (units ts) ≡ ts
unfolding units
units-keys [] = refl
units-keys (t ∷ ts) = ap (λ l. t ∷ l) (units-keys ts)

units-at : (ts : List Tag) (tag : Tag) → is_some (entry_at (units ts) tag) ≡ list_any (bytes_eq tag) ts
unfolding units
units-at [] tag = refl
units-at (t ∷ ts) tag = elim (bytes_eq tag t) as (λ b. is_some (cond b (Some tt) (entry_at (units ts) tag)) ≡ (b || list_any (bytes_eq tag) ts)) [
  | true ↦ refl
  | false ↦ units-at ts tag
]

abbrev settled_state : Option UnsettledMessage → Option OutcomeSeen
settled_state o = option_map (λ message. Ok message.state) o

module _ (m : Entries UnsettledMessage) (is : IsMap m) where
  -- what is left once these are removed
  left_of : (ts : List Tag) (tag : Tag) → is_some (entry_at (without_entries m ts) tag) ≡ (if list_any (bytes_eq tag) ts then false else is_some (entry_at m tag))
  left_of ts tag =
      ap (λ l. is_some (entry_at (without_entries m l) tag)) (sym (units-keys ts))
      ∙ LeavesOthers-entries m (units ts) is tag
      ∙ ap (λ b. if b then false else is_some (entry_at m tag)) (units-at ts tag)

  leaves_settled : (ts : List Tag) → LeavesOthers m (settled_of m ts) (without_entries m ts)
  leaves_settled ts tag = left_of ts tag ∙ by (list_any (bytes_eq tag) ts) (entry_at m tag)
      (ap is_some (outcome_of tag m (firsts ts) ∙ ap (λ c. if c then settled_outcome m tag else None) (stands-firsts tag ts)))
    where
      by : (b : Bool) (o : Option UnsettledMessage) → is_some (entry_at (settled_of m ts) tag) ≡ is_some (if b then settled_state o else None)
          → (if b then false else is_some o) ≡ (if is_some (entry_at (settled_of m ts) tag) then false else is_some o)
      by true None h = sym (ap (λ c. if c then false else false) h)
      by true (Some x) h = sym (ap (λ c. if c then false else true) h)
      by false None h = sym (ap (λ c. if c then false else false) h)
      by false (Some x) h = sym (ap (λ c. if c then false else true) h)

module _ (m : Entries UnsettledMessage) (records : Records) (h : IsRecorded m records) where
  recorded-disposed : (settled : Bool) (state : DeliveryState) (ts : List Tag)
      → IsRecorded (disposed settled state ts m) (after (Resolves (ended_of settled ts m)) records)
  recorded-disposed false state ts = rw (resolves-none records) (recorded-changed (message_with_state (Some state)) ts m records h)
  recorded-disposed true state ts =
      IsRecorded-gone Resolved (λ _. refl) m (without_entries m ts) (settled_of m ts) records h (IsMap-entries m ts h.distinct) (leaves_settled m h.distinct ts)

pub recorded-disposing : {T : Type 0} (s : Sender T) (records : Records) → IsRecorded s.unsettled records → (settled : Bool) (state : DeliveryState) (ts : List Tag)
    → IsRecorded (after_disposing s settled state ts).unsettled (after (Resolves (ended_at s settled ts)) records)
recorded-disposing {T} s records h settled state ts = by (settles s.snd_settle_mode)
  where
    by : (b : Bool) → IsRecorded (if b then s else record s { unsettled = disposed settled state ts s.unsettled }).unsettled
        (after (Resolves (if b then [] else ended_of settled ts s.unsettled)) records)
    by true = rw (resolves-none records) h
    by false = recorded-disposed s.unsettled records h settled state ts

-- ---- a walk over the list, with an outcome beside each delivery

module _ (own : Entries UnsettledMessage) (listed : List (ℕ × Tag)) where
  -- the outcomes of the deliveries from a place on
  abbrev pub outcomes_from : ℕ → List (Option OutcomeSeen)
  outcomes_from i = map (λ pair. settled_outcome own pair.1) (drop i listed)

  abbrev pub ended_from : ℕ → List Ended
  ended_from i = filter_map (settled_at own) (map (λ pair. pair.1) (drop i listed))

  named : (tag : Tag) (o : Option UnsettledMessage) → option_map {U = Ended} (λ outcome. (tag, outcome)) (settled_state o) ≡ option_map {U = Ended} (λ message. (tag, Ok message.state)) o
  named tag None = refl
  named tag (Some message) = refl

  module _ (i : ℕ) (e : ℕ × Tag) (within : i < length listed) (at : e ≡ get_or listed i e) where
    beside_this : (x : Option OutcomeSeen) (rest : List (Option OutcomeSeen)) → x ∷ rest ≡ outcomes_from i → x ∷ rest ≡ settled_outcome own e.1 ∷ outcomes_from (i + 1)
    beside_this x rest same = same ∙ ap (map (λ (pair : ℕ × Tag). settled_outcome own pair.1)) (front listed i e within at)

    pub this_outcome : (x : Option OutcomeSeen) (rest : List (Option OutcomeSeen)) → x ∷ rest ≡ outcomes_from i → x ≡ settled_outcome own e.1
    this_outcome x rest same = let h = beside_this x rest same in cc

    pub other_outcomes : (x : Option OutcomeSeen) (rest : List (Option OutcomeSeen)) → x ∷ rest ≡ outcomes_from i → rest ≡ outcomes_from (i + 1)
    other_outcomes x rest same = let h = beside_this x rest same in cc

    -- there is an outcome beside each
    pub not_short : outcomes_from i ≡ [] → ⊥
    not_short none = let h = sym (ap (map (λ (pair : ℕ × Tag). settled_outcome own pair.1)) (front listed i e within at)) ∙ none in cc

    pub next_ended : (x : Option OutcomeSeen) (now next aim : Records) → x ≡ settled_outcome own e.1
        → next ≡ after (Resolves (option_to_list (option_map (λ outcome. (e.1, outcome)) x))) now
        → resolved (ended_from i) now ≡ aim → resolved (ended_from (i + 1)) next ≡ aim
    next_ended x now next aim is step left =
        ap (resolved (ended_from (i + 1))) (step
        ∙ ap (λ (o : Option Ended). after (Resolves (option_to_list o)) now) (ap (option_map (λ outcome. (e.1, outcome))) is ∙ named e.1 (entry_at own e.1)))
        ∙ sym (resolved_one (settled_at own e.1) (ended_from (i + 1)) now)
        ∙ sym (ap (λ l. resolved (filter_map (settled_at own) (map (λ (pair : ℕ × Tag). pair.1) l)) now) (front listed i e within at))
        ∙ left

  pub all_ended : (i : ℕ) (now aim : Records) → length listed ≤ i → resolved (ended_from i) now ≡ aim → now ≡ aim
  all_ended i now aim past left =
      sym (with_fates-none now)
      ∙ sym (ap (λ l. resolved (filter_map (settled_at own) (map (λ (pair : ℕ × Tag). pair.1) l)) now) (none_after listed i past))
      ∙ left

-- what a walk over copies of the outcomes leaves is what the endpoint has returned
pub resolved-copied : {T : Type 0} (s : Sender T) (settled : Bool) (listed : List (ℕ × Tag)) (records : Records) (copies : List (Option OutcomeSeen)) (now : Records)
    → copies ≡ copies_at s settled listed → (copies ≡ [] → now ≡ records)
    → ((own : Entries UnsettledMessage) → copies ≡ map (λ pair. settled_outcome own pair.1) listed → now ≡ after (Resolves (filter_map (settled_at own) (map (λ pair. pair.1) listed))) records)
    → now ≡ after (Resolves (ended_at s settled (tags_in_order listed))) records
resolved-copied {T} s settled listed records copies now copied none each = by (settles s.snd_settle_mode) settled copied
  where
    by : (b settled : Bool) → copies ≡ (if b || not settled then [] else map (λ pair. settled_outcome s.unsettled pair.1) listed)
        → now ≡ after (Resolves (if b then [] else ended_of settled (tags_in_order listed) s.unsettled)) records
    by true settled is = none is ∙ sym (resolves-none records)
    by false false is = none is ∙ sym (resolves-none records)
    by false true is = each s.unsettled is ∙ resolved-in_order s.unsettled listed records
