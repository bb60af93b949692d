-- Lists that are sorted by numbers beside their elements, and changes one after the other.
use Rattle.std.proofs.Common.{◌≡◌, ◌∙◌, sym, ap, ℕ, Bool, true, false, List, [], ◌∷◌, map, refl, Option, Some, None, is_some, if◌then◌else◌}
use Rattle.std.proofs.lemmas.List.{map-id}
use Rattle.std.proofs.lemmas.Simd.{map-map}
use Rattle.amqp_link_runs.specs.Order.{sorted_by}
use Rattle.amqp_link_runs.proofs.OrderLemmas.{sorted-map}
use Rattle.amqp_link_types.specs.declared.types.delivery_state.DeliveryState.{DeliveryState}
use Rattle.amqp_link_types.specs.Entries.{Tag, Entries, entry_at, without_entry, changed_at}
use Rattle.amqp_link_types.proofs.MapLemmas.{removed-absent, changed-nothing, changed-twice}
use Rattle.amqp_link_types.proofs.EntriesLemmas.{changed-absent}
use Rattle.amqp_link_dispositions.specs.Changes.{StateChange, with_states}

-- pairs are sorted by their numbers; what is seen of them is sorted alike
module _ {T A : Type 0} (see : T → A) where
  seen : (items : List (ℕ × T)) → map see (map (λ pair. pair.1) (sorted_by (λ pair. pair.0) items))
      ≡ map (λ pair. pair.1) (sorted_by (λ (pair : ℕ × A). pair.0) (map (λ pair. (pair.0, see pair.1)) items))
  seen items =
      map-map see (λ pair. pair.1) (sorted_by (λ pair. pair.0) items)
      ∙ sym (map-map (λ pair. pair.1) (λ pair. (pair.0, see pair.1)) (sorted_by (λ pair. pair.0) items))
      ∙ ap (map (λ pair. pair.1)) (sorted-map (λ pair. (pair.0, see pair.1)) (λ (pair : ℕ × A). pair.0) items)

  -- the numbers of listed pairs, sorted
  pub numbers_sorted : (items sorted : List (ℕ × T)) (listed : List (ℕ × A)) (ids : List ℕ) → map (λ pair. (pair.0, see pair.1)) items ≡ listed
      → sorted ≡ sorted_by (λ pair. pair.0) items → ids ≡ map (λ pair. pair.0) sorted → ids ≡ sorted_by (λ id. id) (map (λ pair. pair.0) listed)
  numbers_sorted items sorted listed ids are by is =
      is ∙ ap (map (λ pair. pair.0)) by ∙ sorted-map (λ pair. pair.0) (λ id. id) items
      ∙ ap (sorted_by (λ id. id)) (sym (map-map (λ pair. pair.0) (λ pair. (pair.0, see pair.1)) items) ∙ ap (map (λ pair. pair.0)) are)

  -- and their elements
  pub elements_sorted : (items sorted : List (ℕ × T)) (listed : List (ℕ × A)) (out : List T) → map (λ pair. (pair.0, see pair.1)) items ≡ listed
      → sorted ≡ sorted_by (λ pair. pair.0) items → out ≡ map (λ pair. pair.1) sorted → map see out ≡ map (λ pair. pair.1) (sorted_by (λ pair. pair.0) listed)
  elements_sorted items sorted listed out are by is =
      ap (map see) (is ∙ ap (map (λ pair. pair.1)) by) ∙ seen items ∙ ap (λ l. map (λ pair. pair.1) (sorted_by (λ pair. pair.0) l)) are

  -- elements that were paired with their numbers
  pub own_sorted : (n : A → ℕ) (items sorted : List (ℕ × T)) (xs : List A) (out : List T) → map (λ pair. (pair.0, see pair.1)) items ≡ map {B = ℕ × A} (λ x. (n x, x)) xs
      → sorted ≡ sorted_by (λ pair. pair.0) items → out ≡ map (λ pair. pair.1) sorted → map see out ≡ sorted_by n xs
  own_sorted n items sorted xs out are by is =
      elements_sorted items sorted (map {B = ℕ × A} (λ x. (n x, x)) xs) out are by is
      ∙ ap (map (λ pair. pair.1)) (sym (sorted-map (λ x. (n x, x)) (λ (pair : ℕ × A). pair.0) xs))
      ∙ map-map (λ pair. pair.1) (λ x. (n x, x)) (sorted_by n xs) ∙ map-id (sorted_by n xs)

-- one state that is set of several deliveries in turn is set of all
pub with_states_same : {V : Type 0} (set : V → Option DeliveryState → V) (es : Entries V) (state : DeliveryState) (tags : List Tag)
    → ((v : V) → set (set v (Some state)) (Some state) ≡ set v (Some state))
    → with_states set es (map {B = StateChange} (λ tag. (tag, state)) tags) ≡ changed_at (λ v. set v (Some state)) tags es
with_states_same set es state [] again = sym (changed-nothing (λ v. set v (Some state)) es)
with_states_same set es state (t ∷ tags) again =
    with_states_same set (changed_at (λ v. set v (Some state)) (t ∷ []) es) state tags again
    ∙ changed-twice (λ v. set v (Some state)) again (t ∷ []) tags es

-- what is not there is neither removed nor changed
pub unmoved : {V : Type 0} (es : Entries V) (tag : Tag) (f : V → V) (b : Bool) → is_some (entry_at es tag) ≡ false
    → es ≡ (if b then without_entry es tag else changed_at f (tag ∷ []) es)
unmoved {V} es tag f b h = by b
  where
    none : (o : Option V) → is_some o ≡ false → o ≡ None
    none None h = refl
    none (Some v) h = cc

    by : (b : Bool) → es ≡ (if b then without_entry es tag else changed_at f (tag ∷ []) es)
    by true = sym (removed-absent es tag (none (entry_at es tag) h))
    by false = sym (changed-absent f es tag (none (entry_at es tag) h))
