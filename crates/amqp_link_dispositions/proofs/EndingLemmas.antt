-- Deliveries that are settled one after the other end as those of the list do, each once.
use Rattle.std.proofs.Common.{◌≡◌, ◌≢◌, ◌∙◌, ap, Bool, true, false, cond, not, List, [], ◌∷◌, refl, Option, Some, None, Ok}
use Rattle.std.specs.List.{filter, filter_map, cons_option, AllByRecursion, IsDistinct}
use Rattle.std.specs.Map.{keys_of}
use Rattle.std.specs.Option.{option_map}
use Rattle.std.specs.Str.{bytes_eq}
use Rattle.amqp_link_types.specs.declared.delivery.UnsettledMessage.{UnsettledMessage}
use Rattle.amqp_link_types.specs.Deliveries.{Ended}
use Rattle.amqp_link_types.specs.Entries.{Tag, Entries, entry_at, without_entry, IsMap}
use Rattle.amqp_link_types.proofs.MapLemmas.{IsMap-removed, entry_at-removed}
use Rattle.amqp_link_dispositions.specs.Listed.{firsts}
use Rattle.amqp_link_dispositions.specs.Ending.{settled_at, settled_of}

-- what ends as they are settled in turn
abbrev pub in_turn : Entries UnsettledMessage → List Tag → List Ended
in_turn es [] = []
in_turn es (t ∷ ts) = cons_option (settled_at es t) (in_turn (without_entry es t) ts)

-- what was settled before does not end again
others : (es : Entries UnsettledMessage) (t : Tag) (us : List Tag) → IsMap es
    → filter_map (settled_at (without_entry es t)) us ≡ filter_map (settled_at es) (filter (λ u. not (bytes_eq t u)) us)
others es t [] is = refl
others es t (u ∷ us) is =
    ap (λ o. cons_option (option_map (λ m. (u, Ok m.state)) o) (filter_map (settled_at (without_entry es t)) us)) (entry_at-removed es t u is)
    ∙ ap (λ l. cons_option (option_map (λ m. (u, Ok m.state)) (cond (bytes_eq t u) None (entry_at es u))) l) (others es t us is)
    ∙ by (bytes_eq t u) (filter (λ v. not (bytes_eq t v)) us)
  where
    by : (b : Bool) (rest : List Tag)
        → cons_option (option_map (λ m. (u, Ok m.state)) (cond b None (entry_at es u))) (filter_map (settled_at es) rest)
        ≡ filter_map (settled_at es) (cond (not b) (u ∷ rest) rest)
    by true rest = refl
    by false rest = refl

pub in_turn-settled_of : (es : Entries UnsettledMessage) (ts : List Tag) → IsMap es → in_turn es ts ≡ settled_of es ts
in_turn-settled_of es [] is = refl
in_turn-settled_of es (t ∷ ts) is =
    ap (cons_option (settled_at es t)) (in_turn-settled_of (without_entry es t) ts (IsMap-removed es t is) ∙ others es t (firsts ts) is)

-- each tag stands once among the firsts
all_filter : {A : Type 0} (P : A → Type 0) (p : A → Bool) (xs : List A) → AllByRecursion P xs → AllByRecursion P (filter p xs)
all_filter P p [] h = tt
all_filter P p (x ∷ xs) h = elim (p x) as (λ b. AllByRecursion P (cond b (x ∷ filter p xs) (filter p xs))) [
  | true ↦ (h.0, all_filter P p xs h.1)
  | false ↦ all_filter P p xs h.1
]

distinct_filter : (p : Tag → Bool) (ts : List Tag) → IsDistinct bytes_eq ts → IsDistinct bytes_eq (filter p ts)
unfolding IsDistinct
distinct_filter p [] h = tt
distinct_filter p (t ∷ ts) h = elim (p t) as (λ b. IsDistinct bytes_eq (cond b (t ∷ filter p ts) (filter p ts))) [
  | true ↦ (all_filter (λ u. bytes_eq t u ≡ false) p ts h.0, distinct_filter p ts h.1)
  | false ↦ distinct_filter p ts h.1
]

apart : (t : Tag) (us : List Tag) → AllByRecursion (λ u. bytes_eq t u ≡ false) (filter (λ u. not (bytes_eq t u)) us)
apart t [] = tt
apart t (u ∷ us) = by (bytes_eq t u) refl (apart t us)
  where
    by : (b : Bool) → bytes_eq t u ≡ b → AllByRecursion (λ v. bytes_eq t v ≡ false) (filter (λ v. not (bytes_eq t v)) us)
        → AllByRecursion (λ v. bytes_eq t v ≡ false) (cond (not b) (u ∷ filter (λ v. not (bytes_eq t v)) us) (filter (λ v. not (bytes_eq t v)) us))
    by true h rest = rest
    by false h rest = (h, rest)

firsts_distinct : (ts : List Tag) → IsDistinct bytes_eq (firsts ts)
unfolding IsDistinct
firsts_distinct [] = tt
firsts_distinct (t ∷ ts) = (apart t (firsts ts), distinct_filter (λ u. not (bytes_eq t u)) (firsts ts) (firsts_distinct ts))

module _ (es : Entries UnsettledMessage) where
  ended_apart : (t : Tag) (us : List Tag) → AllByRecursion (λ u. bytes_eq t u ≡ false) us → AllByRecursion (λ k. bytes_eq t k ≡ false) (keys_of (filter_map (settled_at es) us))
  ended_apart t [] h = tt
  ended_apart t (u ∷ us) h =
      elim (entry_at es u) as (λ o. AllByRecursion (λ k. bytes_eq t k ≡ false) (keys_of (cons_option (option_map (λ m. (u, Ok m.state)) o) (filter_map (settled_at es) us)))) [
        | None ↦ ended_apart t us h.1
        | Some m ↦ (h.0, ended_apart t us h.1)
      ]

  ended_distinct : (us : List Tag) → IsDistinct bytes_eq us → IsDistinct bytes_eq (keys_of (filter_map (settled_at es) us))
  unfolding IsDistinct
  ended_distinct [] h = tt
  ended_distinct (u ∷ us) h =
      elim (entry_at es u) as (λ o. IsDistinct bytes_eq (keys_of (cons_option (option_map (λ m. (u, Ok m.state)) o) (filter_map (settled_at es) us)))) [
        | None ↦ ended_distinct us h.1
        | Some m ↦ (ended_apart u us h.0, ended_distinct us h.1)
      ]

  pub each_once : (ts : List Tag) → IsDistinct bytes_eq (keys_of (settled_of es ts))
  each_once ts = ended_distinct (firsts ts) (firsts_distinct ts)

  ended_kept : (us : List Tag) → AllByRecursion (λ ended. entry_at es ended.0 ≢ None) (filter_map (settled_at es) us)
  ended_kept [] = tt
  ended_kept (u ∷ us) = by (entry_at es u) refl (ended_kept us)
    where
      by : (o : Option UnsettledMessage) → entry_at es u ≡ o → AllByRecursion (λ ended. entry_at es ended.0 ≢ None) (filter_map (settled_at es) us)
          → AllByRecursion (λ ended. entry_at es ended.0 ≢ None) (cons_option (option_map (λ m. (u, Ok m.state)) o) (filter_map (settled_at es) us))
      by None h rest = rest
      by (Some m) h rest = ((λ none. cc), rest)

  pub each_kept : (ts : List Tag) → AllByRecursion (λ ended. entry_at es ended.0 ≢ None) (settled_of es ts)
  each_kept ts = ended_kept (firsts ts)
