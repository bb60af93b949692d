-- Puts and look-ups of maps from tags.
use Rattle.std.proofs.Common.{◌≡◌, ◌≢◌, ◌∙◌, sym, ap, subst, Bool, true, false, cond, [], ◌∷◌, ◌++◌, refl, ℕ, suc, ◌+◌, ◌-◌, ◌||◌, List, Option, Some, None, not, nat_lt, length, take, position, arith, length-append, slice_set, slice_index_or}
use Rattle.std.specs.Prelude.{bytes_eq}
use Rattle.std.specs.List.{position_or_len, list_any}
use Rattle.std.proofs.lemmas.List.Folds.{list_any-append}
use Rattle.std.specs.Map.{keys_of}
use lib.ListN.{length-map}
use Rattle.std.proofs.Math.Seq.{set-append_seam, take-append_seam}
use Rattle.std.proofs.lemmas.Bool.Decides.{nat_tests}
use Rattle.std.proofs.lemmas.Slice.Eq.{bytes_eq-Decides}
use Rattle.std.proofs.lemmas.Option.{slice_get-get_or}
use Rattle.std.proofs.lemmas.Cmp.{nat_list_eq_equiv}
use Rattle.indexmap.proofs.MapLemmas.{Found-position, absent_from_lookup, index-absent, swap_remove_entry-found, swap_remove_entry-missing}
use Rattle.indexmap.proofs.RemoveLemmas.{none_out, swap_out}
use Rattle.amqp_link_types.specs.Entries.{Tag, Entries, entry_at, with_entry, without_entry, changed_at, IsMap}

pub false_is_not_true : false ≡ true → ⊥
false_is_not_true h = cc

one_more : (n : ℕ) → 1 + n ≡ suc n
one_more n = omega arith

pub is_false : (b : Bool) → (b ≡ true → ⊥) → b ≡ false
is_false true h = absurd (h refl)
is_false false h = refl

pub same_tag : (tag : Tag) → bytes_eq tag tag ≡ true
same_tag tag = (bytes_eq-Decides tag tag).1 refl

pub other_tag : (other tag : Tag) → other ≢ tag → bytes_eq other tag ≡ false
other_tag other tag n = is_false (bytes_eq other tag) (λ e. n ((bytes_eq-Decides other tag).0 e))

module _ {X : Type 0} where
  -- a put is found, and leaves the others
  pub entry_at-put : (m : Entries X) (tag : Tag) (x : X) → entry_at (with_entry m tag x) tag ≡ Some x
  entry_at-put [] tag x = ap (λ b. cond b (Some x) None) (same_tag tag)
  entry_at-put (e ∷ m) tag x =
      elim (bytes_eq tag e.0) as (λ b. (bytes_eq tag e.0 ≡ b) → entry_at (cond b ((e.0, x) ∷ m) (e ∷ with_entry m tag x)) tag ≡ Some x) [
        | true ↦ λ h. ap (λ b. cond b (Some x) (entry_at m tag)) h
        | false ↦ λ h. ap (λ b. cond b (Some e.1) (entry_at (with_entry m tag x) tag)) h ∙ entry_at-put m tag x
      ] refl

  pub entry_at-put_other : (m : Entries X) (tag other : Tag) (x : X) → other ≢ tag → entry_at (with_entry m tag x) other ≡ entry_at m other
  entry_at-put_other [] tag other x n = ap (λ b. cond b (Some x) None) (other_tag other tag n)
  entry_at-put_other (e ∷ m) tag other x n =
      elim (bytes_eq tag e.0) as (λ b. (bytes_eq tag e.0 ≡ b) → entry_at (cond b ((e.0, x) ∷ m) (e ∷ with_entry m tag x)) other ≡ entry_at (e ∷ m) other) [
        | true ↦ λ h.
            let apart : bytes_eq other e.0 ≡ false = other_tag other e.0 (λ p. n (p ∙ sym ((bytes_eq-Decides tag e.0).0 h))) in
            ap (λ b. cond b (Some x) (entry_at m other)) apart ∙ sym (ap (λ b. cond b (Some e.1) (entry_at m other)) apart)
        | false ↦ λ h. ap (cond (bytes_eq other e.0) (Some e.1)) (entry_at-put_other m tag other x n)
      ] refl

  -- the second of two puts is what stays
  pub put-twice : (m : Entries X) (tag : Tag) (x y : X) → with_entry (with_entry m tag x) tag y ≡ with_entry m tag y
  put-twice [] tag x y = ap (λ b. cond b ((tag, y) ∷ []) ((tag, x) ∷ (tag, y) ∷ [])) (same_tag tag)
  put-twice (e ∷ m) tag x y =
      elim (bytes_eq tag e.0) as (λ b. (bytes_eq tag e.0 ≡ b) → with_entry (cond b ((e.0, x) ∷ m) (e ∷ with_entry m tag x)) tag y ≡ cond b ((e.0, y) ∷ m) (e ∷ with_entry m tag y)) [
        | true ↦ λ h. ap (λ b. cond b ((e.0, y) ∷ m) ((e.0, x) ∷ with_entry m tag y)) h
        | false ↦ λ h. ap (λ b. cond b ((e.0, y) ∷ with_entry m tag x) (e ∷ with_entry (with_entry m tag x) tag y)) h ∙ ap (λ l. e ∷ l) (put-twice m tag x y)
      ] refl

  -- a put of what stands there changes nothing
  pub put-same : (m : Entries X) (tag : Tag) (x : X) → entry_at m tag ≡ Some x → with_entry m tag x ≡ m
  put-same [] tag x found = absurd (cc)
  put-same (e ∷ m) tag x found =
      elim (bytes_eq tag e.0) as (λ b. cond b (Some e.1) (entry_at m tag) ≡ Some x → cond b ((e.0, x) ∷ m) (e ∷ with_entry m tag x) ≡ e ∷ m) [
        | true ↦ λ h. let is : x ≡ e.1 = cc in ap (λ y. (e.0, y) ∷ m) is
        | false ↦ λ h. ap (λ l. e ∷ l) (put-same m tag x h)
      ] found

module _ {X : Type 0} where
  none_is_some : {x : X} → Some x ≡ None → ⊥
  none_is_some h = cc

  first_after_put : (m : Entries X) (tag : Tag) (x : X) → entry_at m tag ≡ None → position_or_len (bytes_eq tag) (keys_of (with_entry m tag x)) ≡ length m
  first_after_put [] tag x h = ap (λ b. cond (not b) 1 0) (same_tag tag)
  first_after_put (e ∷ m) tag x h =
      elim (bytes_eq tag e.0) as (λ b. (bytes_eq tag e.0 ≡ b) → cond b (Some e.1) (entry_at m tag) ≡ None → position_or_len (bytes_eq tag) (keys_of (cond b ((e.0, x) ∷ m) (e ∷ with_entry m tag x))) ≡ suc (length m)) [
        | true ↦ λ is h. absurd (none_is_some h)
        | false ↦ λ is h. ap (λ b. cond (not b) (1 + position_or_len (bytes_eq tag) (keys_of (with_entry m tag x))) 0) is ∙ (ap (λ n. 1 + n) (first_after_put m tag x h) ∙ one_more (length m))
      ] refl h

  pub put-absent : (m : Entries X) (tag : Tag) (x : X) → entry_at m tag ≡ None → with_entry m tag x ≡ m ++ (tag, x) ∷ []
  put-absent [] tag x h = refl
  put-absent (e ∷ m) tag x h =
      elim (bytes_eq tag e.0) as (λ b. cond b (Some e.1) (entry_at m tag) ≡ None → cond b ((e.0, x) ∷ m) (e ∷ with_entry m tag x) ≡ e ∷ (m ++ (tag, x) ∷ [])) [
        | true ↦ λ h. absurd (none_is_some h)
        | false ↦ λ h. ap (λ l. e ∷ l) (put-absent m tag x h)
      ] h

  -- what was put last goes without a trace
  pub put-taken_back : (m : Entries X) (tag : Tag) (x : X) → entry_at m tag ≡ None → without_entry (with_entry m tag x) tag ≡ m
  put-taken_back m tag x h =
      let es = with_entry m tag x in
      let is : es ≡ m ++ (tag, x) ∷ [] = put-absent m tag x h in
      let len : length es ≡ length m + 1 = ap length is ∙ length-append m ((tag, x) ∷ []) in
      let keys : length (keys_of es) ≡ length m + 1 = length-map es (λ e. e.0) ∙ len in
      let found : position (bytes_eq tag) (keys_of es) ≡ Some (length m) =
      (λ i. cond (nat_lt (first_after_put m tag x h i) (keys i)) (Some (first_after_put m tag x h i)) None) ∙ ap (λ b. cond b (Some (length m)) None) (below (length m)) in
      swap_remove_entry-found (bytes_eq tag) es (length m) (tag, x) found
      ∙ ap (λ (l : Entries X). take (length l - 1) (slice_set l (length m) (slice_index_or l (length l - 1) (tag, x)))) is
      ∙ ap (λ n. take n (slice_set (m ++ (tag, x) ∷ []) (length m) (slice_index_or (m ++ (tag, x) ∷ []) n (tag, x)))) (let e : length (m ++ (tag, x) ∷ []) - 1 ≡ length m = omega (arith, length-append m ((tag, x) ∷ [])) in e)
      ∙ ap (λ l. take (length m) l) (set-append_seam m (tag, x) [] (slice_index_or (m ++ (tag, x) ∷ []) (length m) (tag, x)))
      ∙ take-append_seam m (slice_index_or (m ++ (tag, x) ∷ []) (length m) (tag, x) ∷ [])
    where
      below : (n : ℕ) → nat_lt n (n + 1) ≡ true
      below n = grind (arith, nat_tests)

module _ {X : Type 0} where
  -- a removal of what is not there leaves all
  pub removed-absent : (m : Entries X) (tag : Tag) → entry_at m tag ≡ None → without_entry m tag ≡ m
  removed-absent m tag h =
      swap_remove_entry-missing (bytes_eq tag) m (index-absent (bytes_eq tag) m (absent_from_lookup (bytes_eq tag) m h))

  -- what a removal leaves: a map, in which the tag is not found, and the others are as before
  record Leaves (m : Entries X) (tag : Tag) : Type 0 where
    pub is_map : IsMap (without_entry m tag)
    pub found : (other : Tag) → entry_at (without_entry m tag) other ≡ cond (bytes_eq tag other) None (entry_at m other)

  leaves_at : (m : Entries X) (tag : Tag) (d : Tag × X) → IsMap m → (r : Option ℕ) → position (bytes_eq tag) (keys_of m) ≡ r → Leaves m tag
  leaves_at m tag d is None p =
      let same = swap_remove_entry-missing (bytes_eq tag) m p in
      record {
        is_map = subst IsMap (sym same) is;
        found = (none_out bytes_eq nat_list_eq_equiv (bytes_eq tag) (nat_list_eq_equiv.congr tag) m (without_entry m tag) p same).0;
      }
  leaves_at m tag d is (Some i) p =
      let f = Found-position (bytes_eq tag) m i p in
      let e = slice_index_or m i d in
      let out = swap_out bytes_eq nat_list_eq_equiv (bytes_eq tag) (nat_list_eq_equiv.congr tag) m i e p (slice_get-get_or m i d f.within) is
      (without_entry m tag) (swap_remove_entry-found (bytes_eq tag) m i e p) in
      record { is_map = out.unique; found = out.updated.0 }

  leaves : (m : Entries X) (tag : Tag) → IsMap m → Leaves m tag
  leaves [] tag is = record { is_map = is; found = λ other. sym (none_either (bytes_eq tag other)) }
    where
      none_either : (b : Bool) → cond {A = Option X} b None None ≡ None
      none_either true = refl
      none_either false = refl
  leaves (e ∷ m) tag is = leaves_at (e ∷ m) tag e is (position (bytes_eq tag) (keys_of (e ∷ m))) refl

  pub IsMap-removed : (m : Entries X) (tag : Tag) → IsMap m → IsMap (without_entry m tag)
  IsMap-removed m tag is = (leaves m tag is).is_map

  pub entry_at-removed : (m : Entries X) (tag other : Tag) → IsMap m → entry_at (without_entry m tag) other ≡ cond (bytes_eq tag other) None (entry_at m other)
  entry_at-removed m tag other is = (leaves m tag is).found other

-- changes in place
module _ {X : Type 0} (f : X → X) where
  pub changed-nothing : (m : Entries X) → changed_at f [] m ≡ m
  changed-nothing [] = refl
  changed-nothing (e ∷ m) = ap (λ l. e ∷ l) (changed-nothing m)

  module _ (again : (x : X) → f (f x) ≡ f x) where
    one : (a b : Bool) (e : Tag × X) → cond b (e.0, f (cond a (f e.1) e.1)) (e.0, cond a (f e.1) e.1) ≡ cond (a || b) (e.0, f e.1) e
    one true true e = ap (λ x. (e.0, x)) (again e.1)
    one true false e = refl
    one false true e = refl
    one false false e = refl

    head : (a : Bool) (vs : List Tag) (e : Tag × X)
        → (let e2 = cond a (e.0, f e.1) e in cond (list_any (λ t. bytes_eq t e2.0) vs) (e2.0, f e2.1) e2) ≡ cond (a || list_any (λ t. bytes_eq t e.0) vs) (e.0, f e.1) e
    head true vs e = one true (list_any (λ t. bytes_eq t e.0) vs) e
    head false vs e = one false (list_any (λ t. bytes_eq t e.0) vs) e

    -- a change after a change is one of both
    pub changed-twice : (us vs : List Tag) (m : Entries X) → changed_at f vs (changed_at f us m) ≡ changed_at f (us ++ vs) m
    changed-twice us vs [] = refl
    changed-twice us vs (e ∷ m) =
        let p : Tag → Bool = λ t. bytes_eq t e.0 in
        ap (λ l. (let e2 = cond (list_any p us) (e.0, f e.1) e in cond (list_any (λ t. bytes_eq t e2.0) vs) (e2.0, f e2.1) e2) ∷ l) (changed-twice us vs m)
        ∙ ap (λ x. x ∷ changed_at f (us ++ vs) m) (head (list_any p us) vs e ∙ ap (λ b. cond b (e.0, f e.1) e) (sym (list_any-append p us vs)))
