-- In an exchange each tag is answered once.
use Rattle.std.proofs.Common.{◌≡◌, ◌∙◌, sym, ap, subst, Bool, true, false, cond, List, [], ◌∷◌, ◌++◌, refl, ℕ, ◌+◌, ◌||◌, map, filter, Option, Some, None, arith}
use Rattle.std.specs.Prelude.{is_none, is_some, bytes_eq}
use Rattle.std.specs.List.{filter_map, cons_option, count_by, IsDistinct, AllByRecursion}
use Rattle.std.specs.Map.{keys_of}
use Rattle.std.proofs.lemmas.List.Recursion.{is_count_by}
use Rattle.std.proofs.lemmas.List.{map-append}
use Rattle.std.proofs.lemmas.Slice.Eq.{bytes_eq-Decides}
use Rattle.amqp_link_types.specs.Entries.{Tag, Entries, entry_at, IsMap}
use Rattle.amqp_link_types.specs.Deliveries.{Ended}
use Rattle.amqp_link_types.specs.declared.delivery.UnsettledMessage.{UnsettledMessage}
use Rattle.amqp_link_types.specs.declared.types.delivery_state.DeliveryState.{DeliveryState}
use Rattle.amqp_link_endpoint.specs.Attaching.{States}
use Rattle.amqp_link_core.specs.declared.resumption.Resolution.{Resolution}
use Rattle.amqp_link_core.specs.declared.resumption.Resolution.TheVariants.{Resuming, Outcome}
use Rattle.amqp_link_core.specs.declared.resumption.ResumingDelivery.{ResumingDelivery}
use Rattle.amqp_link_core.specs.declared.resumption.ResumingDelivery.TheVariants.{Abort}
use Rattle.amqp_link_exchange.specs.Exchanges.{resolutions, to_resume, to_return, unknown_aborted, deliveries_to_resume, outcomes_returned}

module _ (tag : Tag) where
  -- how often the tag stands in a list
  abbrev times : List Tag → ℕ
  times [] = 0
  times (k ∷ ks) = cond (bytes_eq tag k) (1 + times ks) (times ks)

  times-count_by : (ks : List Tag) → times ks ≡ count_by (bytes_eq tag) ks
  times-count_by ks = is_count_by times (bytes_eq tag) refl (λ k ks. refl) ks

  times-append : (ks js : List Tag) → times (ks ++ js) ≡ times ks + times js
  times-append [] js = omega arith
  times-append (k ∷ ks) js =
      elim (bytes_eq tag k) as (λ b. cond b (1 + times (ks ++ js)) (times (ks ++ js)) ≡ cond b (1 + times ks) (times ks) + times js) [
        | true ↦ omega (arith, times-append ks js)
        | false ↦ times-append ks js
      ]

  times-none : (ks : List Tag) → AllByRecursion (λ k. bytes_eq tag k ≡ false) ks → times ks ≡ 0
  times-none [] h = refl
  times-none (k ∷ ks) h = ap (λ b. cond b (1 + times ks) (times ks)) h.0 ∙ times-none ks h.1

  -- a delivery is in one of the two lists
  one_of_two : (r : Tag × Resolution) (a : Entries ResumingDelivery) (b : List Ended) (n : ℕ) → times (keys_of a) + times (keys_of b) ≡ n
      → times (keys_of (cons_option (to_resume r) a)) + times (keys_of (cons_option (to_return r) b)) ≡ cond (bytes_eq tag r.0) (1 + n) n
  one_of_two (t, Resuming next) a b n h =
      elim (bytes_eq tag t) as (λ c. cond c (1 + times (keys_of a)) (times (keys_of a)) + times (keys_of b) ≡ cond c (1 + n) n) [
        | true ↦ omega (arith, h)
        | false ↦ h
      ]
  one_of_two (t, Outcome outcome) a b n h =
      elim (bytes_eq tag t) as (λ c. times (keys_of a) + cond c (1 + times (keys_of b)) (times (keys_of b)) ≡ cond c (1 + n) n) [
        | true ↦ omega (arith, h)
        | false ↦ h
      ]

  each_in_one : (rs : List (Tag × Resolution)) → times (keys_of (filter_map to_resume rs)) + times (keys_of (filter_map to_return rs)) ≡ times (keys_of rs)
  each_in_one [] = refl
  each_in_one (r ∷ rs) = one_of_two r (filter_map to_resume rs) (filter_map to_return rs) (times (keys_of rs)) (each_in_one rs)

  keys-resolutions : (own : Entries UnsettledMessage) (remote : States) → keys_of (resolutions own remote) ≡ keys_of own
  keys-resolutions [] remote = refl
  keys-resolutions (e ∷ own) remote = ap (λ l. e.0 ∷ l) (keys-resolutions own remote)

  -- a map has a tag once, where it has it
  module _ {V : Type 0} where
    absent_of : (t : Tag) (es : Entries V) → AllByRecursion (λ k. bytes_eq t k ≡ false) (keys_of es) → entry_at es t ≡ None
    absent_of t [] h = refl
    absent_of t (e ∷ es) h = ap (λ b. cond b (Some e.1) (entry_at es t)) h.0 ∙ absent_of t es h.1

    rest_lacks : (e : Tag × V) (es : Entries V) → bytes_eq tag e.0 ≡ true → AllByRecursion (λ k. bytes_eq e.0 k ≡ false) (keys_of es) → AllByRecursion (λ k. bytes_eq tag k ≡ false) (keys_of es)
    rest_lacks e es h all = subst (λ t. AllByRecursion (λ k. bytes_eq t k ≡ false) (keys_of es)) (sym ((bytes_eq-Decides tag e.0).0 h)) all

    times-map : (es : Entries V) → IsMap es → times (keys_of es) ≡ cond (is_some (entry_at es tag)) 1 0
    unfolding IsDistinct
    times-map [] m = refl
    times-map (e ∷ es) m =
        elim (bytes_eq tag e.0) as (λ b. (bytes_eq tag e.0 ≡ b) → cond b (1 + times (keys_of es)) (times (keys_of es)) ≡ cond (is_some (cond b (Some e.1) (entry_at es tag))) 1 0) [
          | true ↦ λ h. ap (λ n. 1 + n) (times-none (keys_of es) (rest_lacks e es h m.0))
          | false ↦ λ h. times-map es m.1
        ] refl

  module _ (own : Entries UnsettledMessage) where
    zero_either : (b : Bool) → let z : ℕ = 0 in z ≡ cond b z z
    zero_either true = refl
    zero_either false = refl

    abbrev keys_if : Bool → Tag × Option DeliveryState → States → List Tag
    keys_if q e es = keys_of (map (λ (d : Tag × Option DeliveryState). (d.0, Abort 0 None)) (cond q (e ∷ es) es))

    known : (e : Tag) → bytes_eq tag e ≡ true → is_none (entry_at own e) ≡ is_none (entry_at own tag)
    known e h = ap (λ t. is_none (entry_at own t)) (sym ((bytes_eq-Decides tag e).0 h))

    some_none : {X : Type 0} (o : Option X) → is_some o ≡ cond (is_none o) false true
    some_none None = refl
    some_none (Some x) = refl

    abbrev unknown_here : States → ℕ
    unknown_here es = cond (is_some (entry_at own tag)) 0 (cond (is_some (entry_at es tag)) 1 0)

    step : (e : Tag × Option DeliveryState) (es fs : States) → times (keys_of (map (λ (d : Tag × Option DeliveryState). (d.0, Abort 0 None)) fs)) ≡ unknown_here es
        → (bytes_eq tag e.0 ≡ true → entry_at es tag ≡ None)
        → (b q : Bool) → bytes_eq tag e.0 ≡ b → is_none (entry_at own e.0) ≡ q
        → times (keys_if q e fs) ≡ cond (is_some (entry_at own tag)) 0 (cond (is_some (cond b (Some e.1) (entry_at es tag))) 1 0)
    step e es fs ih only true true h k =
        let gone = only h in
        let foreign : is_some (entry_at own tag) ≡ false = some_none (entry_at own tag) ∙ ap (λ b. cond b false true) (sym (known e.0 h) ∙ k) in
        ap (λ b. cond b (1 + times (keys_of (map (λ (d : Tag × Option DeliveryState). (d.0, Abort 0 None)) fs))) (times (keys_of (map (λ (d : Tag × Option DeliveryState). (d.0, Abort 0 None)) fs)))) h
        ∙ ap (λ n. 1 + n) (ih ∙ ap (λ b. cond b 0 (cond (is_some (entry_at es tag)) 1 0)) foreign ∙ ap (λ (o : Option (Option DeliveryState)). cond (is_some o) 1 0) gone)
        ∙ sym (ap (λ b. cond b 0 1) foreign)
    step e es fs ih only true false h k =
        let here : is_some (entry_at own tag) ≡ true = some_none (entry_at own tag) ∙ ap (λ b. cond b false true) (sym (known e.0 h) ∙ k) in
        ih ∙ ap (λ b. cond b 0 (cond (is_some (entry_at es tag)) 1 0)) here ∙ sym (ap (λ b. cond b 0 1) here)
    step e es fs ih only false true h k =
        ap (λ b. cond b (1 + times (keys_of (map (λ (d : Tag × Option DeliveryState). (d.0, Abort 0 None)) fs))) (times (keys_of (map (λ (d : Tag × Option DeliveryState). (d.0, Abort 0 None)) fs)))) h ∙ ih
    step e es fs ih only false false h k = ih

    times-unknown : (es : States) → IsMap es → times (keys_of (unknown_aborted own es)) ≡ unknown_here es
    unfolding IsDistinct
    times-unknown [] m = zero_either (is_some (entry_at own tag))
    times-unknown (e ∷ es) m =
        step e es (filter (λ d. is_none (entry_at own d.0)) es) (times-unknown es m.1)
        (λ h. absent_of tag es (rest_lacks e es h m.0)) (bytes_eq tag e.0) (is_none (entry_at own e.0)) refl refl

    both : (a b : Bool) → cond a 1 0 + cond a 0 (cond b 1 0) ≡ cond (a || b) 1 0
    both true true = refl
    both true false = refl
    both false true = refl
    both false false = refl

    pub answered_once : (remote : States) → IsMap own → IsMap remote
        → count_by (bytes_eq tag) (keys_of (deliveries_to_resume own remote) ++ keys_of (outcomes_returned own remote)) ≡ cond (is_some (entry_at own tag) || is_some (entry_at remote tag)) 1 0
    answered_once remote mo mr =
        let rs = resolutions own remote in
        let list = filter_map to_resume rs in
        let parts : times (keys_of (deliveries_to_resume own remote)) ≡ times (keys_of list) + times (keys_of (unknown_aborted own remote)) =
        ap times (map-append (λ (d : Tag × ResumingDelivery). d.0) list (unknown_aborted own remote)) ∙ times-append (keys_of list) (keys_of (unknown_aborted own remote)) in
        let whole : times (keys_of list) + times (keys_of (outcomes_returned own remote)) ≡ cond (is_some (entry_at own tag)) 1 0 =
        each_in_one rs ∙ ap times (keys-resolutions own remote) ∙ times-map own mo in
        sym (times-count_by (keys_of (deliveries_to_resume own remote) ++ keys_of (outcomes_returned own remote)))
        ∙ times-append (keys_of (deliveries_to_resume own remote)) (keys_of (outcomes_returned own remote))
        ∙ (let sum : times (keys_of (deliveries_to_resume own remote)) + times (keys_of (outcomes_returned own remote))
        ≡ cond (is_some (entry_at own tag)) 1 0 + cond (is_some (entry_at own tag)) 0 (cond (is_some (entry_at remote tag)) 1 0) = omega (arith, parts, whole, times-unknown remote mr) in sum)
        ∙ both (is_some (entry_at own tag)) (is_some (entry_at remote tag))
