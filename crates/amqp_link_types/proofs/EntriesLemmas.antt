-- Puts, writes and cuts of maps from tags.
use Rattle.std.proofs.Common.{◌≡◌, Bool, true, false, cond, ◌||◌, [], ◌∷◌, ◌++◌, refl, sym, ap, ◌∙◌, subst, Some, None, Option, is_some}
use Rattle.std.specs.List.{IsDistinct, AllByRecursion}
use Rattle.std.specs.Option.{option_map}
use Rattle.std.specs.Map.{keys_of, lookup_key, set_value}
use Rattle.std.specs.Str.{bytes_eq}
use Rattle.std.proofs.lemmas.Map.Keys.{IsDistinct-push}
use Rattle.std.proofs.lemmas.List.{map-append}
use Rattle.std.proofs.lemmas.Map.Made.{is_some-lookup, lookup_key_same}
use Rattle.std.proofs.lemmas.Cmp.{nat_list_eq_equiv}
use Rattle.std.proofs.lemmas.Slice.Eq.{bytes_eq-Decides}
use Rattle.indexmap.proofs.MapLemmas.{absent_from_lookup}
use Rattle.amqp_link_types.specs.Entries.{Tag, Entries, entry_at, with_entry, changed_at, IsMap}

module _ {V : Type 0} (f : V → V) where
  -- a pair with another tag stays, and the one with the tag is changed
  stays : (t : Tag) (e : Tag × V) (es : Entries V) → bytes_eq t e.0 ≡ false → changed_at f (t ∷ []) (e ∷ es) ≡ e ∷ changed_at f (t ∷ []) es
  stays t e es h = ap (λ b. cond (b || false) (e.0, f e.1) e ∷ changed_at f (t ∷ []) es) h

  changes : (t : Tag) (e : Tag × V) (es : Entries V) → bytes_eq t e.0 ≡ true → changed_at f (t ∷ []) (e ∷ es) ≡ (e.0, f e.1) ∷ changed_at f (t ∷ []) es
  changes t e es h = ap (λ b. cond (b || false) (e.0, f e.1) e ∷ changed_at f (t ∷ []) es) h

  pub changed-none : (t : Tag) (es : Entries V) → AllByRecursion (λ k. bytes_eq t k ≡ false) (keys_of es) → changed_at f (t ∷ []) es ≡ es
  changed-none t [] h = refl
  changed-none t (e ∷ es) h = stays t e es h.0 ∙ ap (λ l. e ∷ l) (changed-none t es h.1)

  -- where the tag is absent nothing is changed
  pub changed-absent : (es : Entries V) (t : Tag) → entry_at es t ≡ None → changed_at f (t ∷ []) es ≡ es
  changed-absent es t none = changed-none t es (absent_from_lookup (bytes_eq t) es none)

  -- a write of what the function makes of a present entry is its change
  pub changed-present : (es : Entries V) (t : Tag) (old v : V) → IsMap es → entry_at es t ≡ Some old → v ≡ f old
      → set_value (bytes_eq t) es v ≡ changed_at f (t ∷ []) es
  unfolding IsDistinct
  changed-present [] t old v m found is = absurd (cc)
  changed-present (e ∷ es) t old v m found is =
      elim (bytes_eq t e.0) as (λ b. bytes_eq t e.0 ≡ b → cond b (Some e.1) (entry_at es t) ≡ Some old
      → cond b ((e.0, v) ∷ es) (e ∷ set_value (bytes_eq t) es v) ≡ changed_at f (t ∷ []) (e ∷ es)) [
        | true ↦ λ h here.
            let same : t ≡ e.0 = (bytes_eq-Decides t e.0).0 h in
            let value : v ≡ f e.1 = let got : e.1 ≡ old = cc in is ∙ ap f (sym got) in
            ap (λ w. (e.0, w) ∷ es) value
            ∙ ap (λ l. (e.0, f e.1) ∷ l) (sym (changed-none t es (subst (λ k. AllByRecursion (λ y. bytes_eq k y ≡ false) (keys_of es)) (sym same) m.0)))
            ∙ sym (changes t e es h)
        | false ↦ λ h later. ap (λ l. e ∷ l) (changed-present es t old v m.1 later is) ∙ sym (stays t e es h)
      ] refl found

-- the empty list is a map; a put and a cut keep the tags distinct
pub IsMap-none : (V : Type 0) → IsMap {V = V} []
unfolding IsDistinct
IsMap-none V = tt

pub IsMap-push : {V : Type 0} (es : Entries V) (t : Tag) (v : V) → IsMap es → entry_at es t ≡ None → IsMap (es ++ (t, v) ∷ [])
IsMap-push es t v m none =
    rw map-append (IsDistinct-push nat_list_eq_equiv (keys_of es) t m (sym (is_some-lookup (bytes_eq t) es) ∙ ap is_some none))

-- what a look-up finds has the tag that was asked for
pub pair_at_tag : {V : Type 0} (es : Entries V) (t : Tag) (found : Option (Tag × V)) → option_map (λ p. p.0) found ≡ lookup_key (bytes_eq t) es
    → option_map (λ p. p.1) found ≡ entry_at es t → found ≡ option_map (λ v. (t, v)) (entry_at es t)
pair_at_tag es t None key value = ap (option_map (λ v. (t, v))) value
pair_at_tag es t (Some p) key value =
    ap (λ k. Some (k, p.1)) (sym (lookup_key_same bytes_eq-Decides t es p.0 (sym key))) ∙ ap (option_map (λ v. (t, v))) value

-- a write at a present tag is a put
pub with_entry-present : {V : Type 0} (es : Entries V) (t : Tag) (old v : V) → entry_at es t ≡ Some old → set_value (bytes_eq t) es v ≡ with_entry es t v
with_entry-present [] t old v found = absurd (cc)
with_entry-present (e ∷ es) t old v found = by (bytes_eq t e.0) found (with_entry-present es t old v)
  where
    by : (b : Bool) → cond b (Some e.1) (entry_at es t) ≡ Some old → (entry_at es t ≡ Some old → set_value (bytes_eq t) es v ≡ with_entry es t v)
        → cond b ((e.0, v) ∷ es) (e ∷ set_value (bytes_eq t) es v) ≡ cond b ((e.0, v) ∷ es) (e ∷ with_entry es t v)
    by true h rest = refl
    by false h rest = ap (λ l. e ∷ l) (rest h)
