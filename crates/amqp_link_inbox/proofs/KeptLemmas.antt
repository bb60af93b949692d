-- A kept delivery is written in its place, and one that is settled leaves.
use Rattle.std.proofs.Common.{◌≡◌, ◌∙◌, ◌-◌, sym, ap, arith, true, false, refl, Option, Some, None, List, [], ◌∷◌, ℕ, length, suc, is_some}
use Rattle.std.specs.Prelude.{bytes_eq, slice_index_or, slice_set, take}
use Rattle.std.specs.List.{position, swap_remove}
use Rattle.std.specs.Map.{keys_of, set_value}
use Rattle.std.proofs.lemmas.List.{get_or-set_other, length-set, take-set-le}
use Rattle.std.proofs.lemmas.Map.{keys-set_value}
use Rattle.std.proofs.lemmas.Bool.Decides.{Decides-eqb}
use Rattle.std.specs.Prelude.{Decides, ◌==◌}
use Prim.Native.Nat.{zero}
use Rattle.indexmap.specs.IndexMap.{set_value_at}
use Rattle.indexmap.proofs.MapLemmas.{Found-position, insert_entry-first, some_index, swap_remove_entry-found, swap_remove_last}
use Rattle.amqp_link_types.specs.Entries.{Tag, Entries, entry_at, with_entry, without_entry}
use Rattle.amqp_link_types.proofs.EntriesLemmas.{with_entry-present}
use Rattle.amqp_link_types.proofs.MapLemmas.{false_is_not_true, put-same}

module _ {V : Type 0} where
  -- a write to what is there is a put
  pub put_in_place : (inside m : Entries V) (tag : Tag) (before after : V) (new : Entries V) → inside ≡ m → entry_at m tag ≡ Some before
      → new ≡ set_value (bytes_eq tag) inside after → new ≡ with_entry m tag after
  put_in_place inside m tag before after new seen known written =
      written ∙ with_entry-present inside tag before after (ap (λ es. entry_at es tag) seen ∙ known) ∙ ap (λ es. with_entry es tag after) seen

  -- what was there, written again
  pub put_again : (inside m : Entries V) (tag : Tag) (before : V) (new : Entries V) → inside ≡ m → entry_at m tag ≡ Some before
      → new ≡ set_value (bytes_eq tag) inside before → new ≡ m
  put_again inside m tag before new seen known written =
      put_in_place inside m tag before before new seen known written ∙ put-same m tag before known

-- ---- what is written and removed is removed

set_twice : {X : Type 0} (xs : List X) (i : ℕ) (y z : X) → slice_set (slice_set xs i y) i z ≡ slice_set xs i z
set_twice [] i y z = refl
set_twice (x ∷ xs) zero y z = refl
set_twice (x ∷ xs) (suc i) y z = ap (λ l. x ∷ l) (set_twice xs i y z)

-- the last item takes the place, whatever was written there
swap_over : {X : Type 0} (xs : List X) (i : ℕ) (y d : X) → swap_remove (slice_set xs i y) i d ≡ swap_remove xs i d
swap_over xs i y d = elim (i == length xs - 1) as (λ b. Decides b (i ≡ length xs - 1) → swap_remove (slice_set xs i y) i d ≡ swap_remove xs i d) [
  | true ↦ λ w.
      let e : i ≡ length xs - 1 = w.0 refl in
      ap (λ j. swap_remove (slice_set xs i y) j d) (e ∙ ap (λ n. n - 1) (sym (length-set xs i y)))
      ∙ swap_remove_last (slice_set xs i y) d
      ∙ ap (λ n. take (n - 1) (slice_set xs i y)) (length-set xs i y)
      ∙ take-set-le (length xs - 1) xs i y (omega (arith, e))
      ∙ sym (swap_remove_last xs d) ∙ ap (λ j. swap_remove xs j d) (sym e)
  | false ↦ λ w.
      ap (λ n. take (n - 1) (slice_set (slice_set xs i y) i (slice_index_or (slice_set xs i y) (n - 1) d))) (length-set xs i y)
      ∙ ap (λ v. take (length xs - 1) (slice_set (slice_set xs i y) i v))
      (get_or-set_other xs i (length xs - 1) y d (λ p. false_is_not_true (w.1 (sym p))))
      ∙ ap (take (length xs - 1)) (set_twice xs i y _)
] (Decides-eqb i (length xs - 1))

module _ {V : Type 0} where
  value_set : (m : Entries V) (i : ℕ) (x : V) (d : Tag × V) → set_value_at m i x ≡ slice_set m i ((slice_index_or m i d).0, x)
  value_set [] i x d = refl
  value_set (e ∷ m) zero x d = refl
  value_set (e ∷ m) (suc i) x d = ap (λ l. e ∷ l) (value_set m i x d)

  removed_by : (m : Entries V) (tag : Tag) (old x : V) → entry_at m tag ≡ Some old → (r : Option ℕ) → position (bytes_eq tag) (keys_of m) ≡ r
      → without_entry (with_entry m tag x) tag ≡ without_entry m tag
  removed_by m tag old x known r p =
      let keys : keys_of (with_entry m tag x) ≡ keys_of m = ap keys_of (sym (with_entry-present m tag old x known)) ∙ keys-set_value (bytes_eq tag) m x in
      let found : position (bytes_eq tag) (keys_of (with_entry m tag x)) ≡ r = ap (position (bytes_eq tag)) keys ∙ p in
      elim r as (λ r. position (bytes_eq tag) (keys_of m) ≡ r → position (bytes_eq tag) (keys_of (with_entry m tag x)) ≡ r
      → without_entry (with_entry m tag x) tag ≡ without_entry m tag) [
        | None ↦ λ p found. absurd (false_is_not_true (ap is_some (sym p) ∙ some_index (bytes_eq tag) m ∙ ap is_some known))
        | Some i ↦ λ p found.
            swap_remove_entry-found (bytes_eq tag) (with_entry m tag x) i (tag, x) found
            ∙ ap (λ l. swap_remove l i (tag, x)) (insert_entry-first bytes_eq tag x m i (Found-position (bytes_eq tag) m i p).first ∙ value_set m i x (tag, x))
            ∙ swap_over m i _ (tag, x)
            ∙ sym (swap_remove_entry-found (bytes_eq tag) m i (tag, x) p)
      ] p found

  -- a removal leaves nothing of what was written there
  pub put_removed : (m : Entries V) (tag : Tag) (old x : V) → entry_at m tag ≡ Some old → without_entry (with_entry m tag x) tag ≡ without_entry m tag
  put_removed m tag old x known = removed_by m tag old x known (position (bytes_eq tag) (keys_of m)) refl
