-- Removals of several deliveries: from what is kept, and from what is stated.
use Rattle.std.proofs.Common.{◌≡◌, ◌∙◌, sym, ap, Bool, true, false, cond, not, refl, Option, Some, None, List, [], ◌∷◌}
use Rattle.std.specs.Prelude.{◌&&◌, ◌||◌, bytes_eq, Decides, is_some, if◌then◌else◌}
use Rattle.std.specs.List.{filter, list_any}
use Rattle.std.proofs.lemmas.List.Sorted.{list_any-IsPermutation}
use Rattle.std.proofs.lemmas.Slice.Eq.{bytes_eq-Decides}
use Rattle.amqp_link_runs.proofs.OrderLemmas.{sorted_by-permutes}
use Rattle.amqp_link_types.specs.Deliveries.{Info}
use Rattle.amqp_link_types.specs.Entries.{Tag, Entries, IsMap, changed_at, entry_at, without_entries, without_entry}
use Rattle.amqp_link_types.specs.declared.types.delivery_state.DeliveryState.{DeliveryState}
use Rattle.amqp_link_types.proofs.MapLemmas.{IsMap-removed, entry_at-removed}
use Rattle.amqp_link_dispositions.specs.Keeping.{after_dispositions, tags_of}
use Rattle.amqp_link_dispositions.specs.Listed.{kept_in_order}
use Rattle.amqp_link_inbox.specs.Storing.{IsStated, is_unsettled}
use Rattle.amqp_link_inbox.specs.declared.kept.Kept.{Kept}
use Rattle.amqp_link_inbox.proofs.StatedLemmas.{found-changed, stated_changed}

-- ---- tests of lists

and_true : (a : Bool) → a ≡ (a && true)
and_true true = refl
and_true false = refl

and_false : (a : Bool) → false ≡ (a && false)
and_false true = refl
and_false false = refl

any_alike : {X : Type 0} (p q : X → Bool) (xs : List X) → ((x : X) → p x ≡ q x) → list_any p xs ≡ list_any q xs
any_alike p q xs same = λ i. list_any (λ x. same x i) xs

any_filtered : {X : Type 0} (h p : X → Bool) (xs : List X) → list_any p (filter h xs) ≡ list_any (λ x. h x && p x) xs
any_filtered h p [] = refl
any_filtered h p (x ∷ xs) = by (h x) (any_filtered h p xs)
  where
    by : (b : Bool) → list_any p (filter h xs) ≡ list_any (λ x. h x && p x) xs
        → list_any p (if b then x ∷ filter h xs else filter h xs) ≡ ((b && p x) || list_any (λ x. h x && p x) xs)
    by true same = ap (λ r. p x || r) same
    by false same = same

any_tag : (p : Tag → Bool) (infos : List Info) → list_any p (tags_of infos) ≡ list_any (λ info. p info.delivery_tag) infos
any_tag p [] = refl
any_tag p (info ∷ infos) = ap (λ r. p info.delivery_tag || r) (any_tag p infos)

pub eq_turned : (a b : Tag) → bytes_eq a b ≡ bytes_eq b a
eq_turned a b = by (bytes_eq a b) (bytes_eq b a) (bytes_eq-Decides a b) (bytes_eq-Decides b a)
  where
    by : (x y : Bool) → Decides x (a ≡ b) → Decides y (b ≡ a) → x ≡ y
    by true y d e = sym (e.1 (sym (d.0 refl)))
    by false true d e = d.1 (sym (e.0 refl))
    by false false d e = refl

-- ---- what is found after removals

module _ {V : Type 0} (P : Option V → Bool) (none : P None ≡ false) (tag : Tag) where
  pub found-removed : (ts : List Tag) (m : Entries V) → IsMap m
      → P (entry_at (without_entries m ts) tag) ≡ (P (entry_at m tag) && not (list_any (bytes_eq tag) ts))
  found-removed [] m is = and_true (P (entry_at m tag))
  found-removed (t ∷ ts) m is =
      found-removed ts (without_entry m t) (IsMap-removed m t is)
      ∙ ap (λ o. P o && not (list_any (bytes_eq tag) ts)) (entry_at-removed m t tag is)
      ∙ ap (λ b. P (cond b None (entry_at m tag)) && not (list_any (bytes_eq tag) ts)) (eq_turned t tag)
      ∙ by (bytes_eq tag t)
    where
      by : (b : Bool) → (P (cond b None (entry_at m tag)) && not (list_any (bytes_eq tag) ts)) ≡ (P (entry_at m tag) && not (b || list_any (bytes_eq tag) ts))
      by true = ap (λ p. p && not (list_any (bytes_eq tag) ts)) none ∙ and_false (P (entry_at m tag))
      by false = refl

IsMap-removed_all : {V : Type 0} (ts : List Tag) (m : Entries V) → IsMap m → IsMap (without_entries m ts)
IsMap-removed_all [] m is = is
IsMap-removed_all (t ∷ ts) m is = IsMap-removed_all ts (without_entry m t) (IsMap-removed m t is)

-- lists that have the same of the tags that are stated
pub stated_removed : {V : Type 0} (entries : Entries Kept) (unsettled : Entries V) (ts us : List Tag) → IsStated entries unsettled
    → ((tag : Tag) → is_some (entry_at unsettled tag) ≡ true → list_any (bytes_eq tag) us ≡ list_any (bytes_eq tag) ts)
    → IsStated (without_entries entries ts) (without_entries unsettled us)
stated_removed {V} entries unsettled ts us is alike = record {
  entries_map = IsMap-removed_all ts entries is.entries_map;
  unsettled_map = IsMap-removed_all us unsettled is.unsettled_map;
  each = λ tag.
      found-removed {V = V} is_some refl tag us unsettled is.unsettled_map
      ∙ by tag (is_some (entry_at unsettled tag)) (alike tag)
      ∙ ap (λ b. b && not (list_any (bytes_eq tag) ts)) (is.each tag)
      ∙ sym (found-removed {V = Kept} is_unsettled refl tag ts entries is.entries_map);
}
  where
    by : (tag : Tag) (b : Bool) → (b ≡ true → list_any (bytes_eq tag) us ≡ list_any (bytes_eq tag) ts)
        → (b && not (list_any (bytes_eq tag) us)) ≡ (b && not (list_any (bytes_eq tag) ts))
    by tag true same = ap not (same refl)
    by tag false same = refl

-- ---- several deliveries are disposed of

module _ (f : Info → Bool) (state : DeliveryState) (infos : List Info) (entries : Entries Kept) (unsettled : Entries (Option DeliveryState)) where
  abbrev has : Info → Bool
  has info = is_some (entry_at unsettled info.delivery_tag)

  abbrev chosen : Tag → Info → Bool
  chosen tag info = f info && bytes_eq tag info.delivery_tag

  with_entry_here : (tag : Tag) → is_some (entry_at unsettled tag) ≡ true → (info : Info) → (has info && chosen tag info) ≡ chosen tag info
  with_entry_here tag here info = by (bytes_eq tag info.delivery_tag) (bytes_eq-Decides tag info.delivery_tag)
    where
      by : (b : Bool) → Decides b (tag ≡ info.delivery_tag) → (has info && (f info && b)) ≡ (f info && b)
      by true d = ap (λ h. h && (f info && true)) (ap (λ t. is_some (entry_at unsettled t)) (sym (d.0 refl)) ∙ here)
      by false d = ap (λ r. has info && r) (sym (and_false (f info))) ∙ sym (and_false (has info)) ∙ and_false (f info)

  pub alike : (tag : Tag) → is_some (entry_at unsettled tag) ≡ true
      → list_any (bytes_eq tag) (tags_of (filter f (kept_in_order unsettled infos))) ≡ list_any (bytes_eq tag) (tags_of (filter f infos))
  alike tag here =
      any_tag (bytes_eq tag) (filter f (kept_in_order unsettled infos))
      ∙ any_filtered f (λ info. bytes_eq tag info.delivery_tag) (kept_in_order unsettled infos)
      ∙ sym (list_any-IsPermutation (chosen tag) (filter has infos) (kept_in_order unsettled infos) (sorted_by-permutes (λ info. info.delivery_id) (filter has infos)))
      ∙ any_filtered has (chosen tag) infos
      ∙ any_alike (λ info. has info && chosen tag info) (chosen tag) infos (with_entry_here tag here)
      ∙ sym (any_filtered f (λ info. bytes_eq tag info.delivery_tag) infos)
      ∙ sym (any_tag (bytes_eq tag) (filter f infos))

  pub stated_disposed_all : IsStated entries unsettled
      → IsStated (without_entries entries (tags_of (filter f infos))) (after_dispositions f state (kept_in_order unsettled infos) unsettled)
  stated_disposed_all is =
      let others = tags_of (filter (λ info. not (f info)) (kept_in_order unsettled infos)) in
      let set : DeliveryState = state in
      stated_removed entries (changed_at (λ _. Some set) others unsettled) (tags_of (filter f infos)) (tags_of (filter f (kept_in_order unsettled infos)))
      (stated_changed (λ _. Some set) others entries unsettled is)
      (λ tag here. alike tag (sym (found-changed (λ _. Some set) others unsettled tag) ∙ here))
