-- The tests behind `==` return true exactly if the two are equal, so they are equivalences: the laws that
-- callers of `==` need. Proofs alone.
use Rattle.std.proofs.Common.{◌≡◌, ◌&&◌, ◌∙◌, ℕ, Bool, true, false, List}
use Rattle.std.proofs.Common.{refl, ap, sym, subst, rules, tests, true≢false}
use Rattle.std.proofs.lemmas.Bool.Decides.{Decides-and}
use Rattle.std.proofs.lemmas.Slice.Eq.{slice_eq-Decides, bytes_eq-Decides}
use Rattle.std.specs.Bool.{Decides}
use Rattle.std.specs.Cmp.{IsEquivalence, decided, on_equiv}
use Rattle.std.specs.Str.{bytes_eq}
use base.Stored.{Gv, gnil, gnum, gcons}
use Rattle.amqp_link_values.specs.Code.{data_to, data_from, data_back, kind_to, kind_from, kind_back}
use Rattle.amqp_link_values.specs.Data.{Data}
use Rattle.amqp_link_values.specs.Same.{same_tree, same_data, same_kind, same_entry, same_entries}
use Rattle.amqp_link_values.specs.View.{view}
use Rattle.amqp_link_values.specs.declared.value.Descriptor.{Descriptor}

-- ---- trees

-- the first part of a conjunction that is true
first : (s t : Bool) → (s && t) ≡ true → s ≡ true
first true t h = refl
first false t h = h

second : (s t : Bool) → (s && t) ≡ true → t ≡ true
second true t h = h
second false t h = absurd (true≢false (sym h))

-- two trees that pass the test are equal
tree_is : (x y : Gv) → same_tree x y ≡ true → x ≡ y
tree_is gnil gnil h = refl
tree_is (gnum m) (gnum n) h = ap gnum (search (tests, rules))
tree_is (gcons a b) (gcons c d) h =
    let heads = tree_is a c (first (same_tree a c) (same_tree b d) h) in
    let tails = tree_is b d (second (same_tree a c) (same_tree b d) h) in
    λ i. gcons (heads i) (tails i)
tree_is gnil (gnum n) h = absurd (true≢false (sym h))
tree_is gnil (gcons c d) h = absurd (true≢false (sym h))
tree_is (gnum m) gnil h = absurd (true≢false (sym h))
tree_is (gnum m) (gcons c d) h = absurd (true≢false (sym h))
tree_is (gcons a b) gnil h = absurd (true≢false (sym h))
tree_is (gcons a b) (gnum n) h = absurd (true≢false (sym h))

-- each tree passes the test with itself
same_tree-refl : (x : Gv) → same_tree x x ≡ true
same_tree-refl gnil = refl
same_tree-refl (gnum n) = search (tests, rules)
same_tree-refl (gcons a b) = λ i. same_tree-refl a i && same_tree-refl b i

-- ---- what is stored as a tree and read back

-- a type whose values can be read back from their trees is compared by the trees
stored_Decides : {A : Type 0} (to : A → Gv) (from : Gv → A) → ((a : A) → from (to a) ≡ a) →
    (a b : A) → Decides (same_tree (to a) (to b)) (a ≡ b)
stored_Decides to from back a b = (
  λ h. sym (back a) ∙ ap from (tree_is (to a) (to b) h) ∙ back b,
  λ e. subst (λ c. same_tree (to a) (to c) ≡ true) e (same_tree-refl (to a)),
)

-- `==` of values
pub same_data-Decides : (d e : Data) → Decides (same_data d e) (d ≡ e)
same_data-Decides = stored_Decides data_to data_from data_back

-- `==` of descriptors
pub same_kind-Decides : (k l : Descriptor) → Decides (same_kind k l) (k ≡ l)
same_kind-Decides = stored_Decides kind_to kind_from kind_back

-- `==` of a map's entries
same_entry-Decides : (e f : List ℕ × Data) → Decides (same_entry e f) (e ≡ f)
same_entry-Decides e f =
    let names = bytes_eq-Decides e.0 f.0 in
    let values = same_data-Decides e.1 f.1 in
    let both = Decides-and (bytes_eq e.0 f.0) (same_data e.1 f.1) names values in
    (λ h. λ i. ((both.0 h).0 i, (both.0 h).1 i), λ p. both.1 (ap (λ g. g.0) p, ap (λ g. g.1) p))

-- `==` of maps
pub same_entries-Decides : (es fs : List (List ℕ × Data)) → Decides (same_entries es fs) (es ≡ fs)
same_entries-Decides es fs = slice_eq-Decides same_entry-Decides es fs (same_entries es fs) refl

-- ---- equivalences

pub data_equiv : IsEquivalence same_data
data_equiv = decided same_data same_data-Decides

pub kind_equiv : IsEquivalence same_kind
kind_equiv = decided same_kind same_kind-Decides

pub entries_equiv : IsEquivalence same_entries
entries_equiv = decided same_entries same_entries-Decides

pub value_equiv : IsEquivalence (λ v w. same_data (view v) (view w))
value_equiv = on_equiv view data_equiv
