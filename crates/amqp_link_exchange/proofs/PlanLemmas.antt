-- A plan of an exchange: the steps of its deliveries, as they are decided and as they are carried out.
use Rattle.std.proofs.Common.{◌≡◌, ◌∙◌, sym, ap, subst, Bool, true, false, cond, List, [], ◌∷◌, ◌++◌, refl, ℕ, zero, suc, ◌+◌, ◌<◌, ◌≤◌, map, filter, Option, Some, None, length, arith, slice_get, slice_set}
use Rattle.std.specs.Prelude.{is_none, bytes_eq}
use Rattle.std.specs.List.{cons_option}
use Rattle.std.proofs.lemmas.Slice.Eq.{bytes_eq-Decides}
use Rattle.amqp_link_types.specs.Deliveries.{Ended}
use Rattle.amqp_link_types.specs.Entries.{Tag, Entries, entry_at, IsMap}
use Rattle.amqp_link_types.specs.declared.delivery.UnsettledMessage.{UnsettledMessage}
use Rattle.amqp_link_types.specs.declared.types.delivery_state.DeliveryState.{DeliveryState}
use Rattle.amqp_link_endpoint.specs.Attaching.{States}
use Rattle.amqp_link_core.specs.Resuming.{resolution, resolution_by, row, sender_report, nothing, does_carry_tag, IsPlannedFor}
use Rattle.amqp_link_core.specs.declared.resumption.PlannedResolution.{PlannedResolution}
use Rattle.amqp_link_core.specs.declared.resumption.PlannedResolution.TheVariants as plan
use Rattle.amqp_link_types.specs.declared.types.delivery_state.DeliveryState.TheVariants.{Accepted, Rejected, Released, Modified, Received}
use Rattle.amqp_link_core.specs.declared.resumption.ResumingDelivery.{ResumingDelivery}
use Rattle.amqp_link_core.specs.declared.resumption.ResumingDelivery.TheVariants.{Abort}
use Rattle.amqp_link_exchange.specs.Exchanges.{resolutions, to_resume, to_return, unknown_aborted}
use Rattle.std.specs.List.{IsDistinct, AllByRecursion}
use Rattle.std.specs.Map.{keys_of}
use Rattle.std.proofs.Common.{append_assoc}
use Rattle.std.proofs.lemmas.List.{append-nil}
use Rattle.indexmap.proofs.MapLemmas.{absent_from_lookup}
use Rattle.amqp_link_types.proofs.MapLemmas.{false_is_not_true, is_false}
use Rattle.amqp_link_core.specs.Resuming.{is_ended_by}
use Rattle.amqp_link_exchange.specs.Plans.{Planned, Pairwise, IsStepFor, IsPlanOf, IsResolvable, IsProgress, resolved_by, resumed_by, ended_by_steps, resumed_count, ended_count}
use Rattle.amqp_link_exchange.specs.declared.planning.Step.{Step}

some_is : {X : Type 0} {x y : X} → Some x ≡ Some y → x ≡ y
some_is h = cc

some_is_none : {X : Type 0} {x : X} → Some x ≡ None → ⊥
some_is_none h = cc

lookup_of_absent : (tag : Tag) (es : States) → AllByRecursion (λ k. bytes_eq tag k ≡ false) (keys_of es) → entry_at es tag ≡ None
lookup_of_absent tag [] all = refl
lookup_of_absent tag (e ∷ es) all = ap (λ b. cond b (Some e.1) (entry_at es tag)) all.0 ∙ lookup_of_absent tag es all.1

-- ---- two lists that go together

module _ {X Y : Type 0} (R : X → Y → Type 0) where
  pub Pairwise-length : (xs : List X) (ys : List Y) → Pairwise R xs ys → length ys ≡ length xs
  Pairwise-length [] [] p = refl
  Pairwise-length [] (v ∷ ys) p = absurd p
  Pairwise-length (u ∷ xs) [] p = absurd p
  Pairwise-length (u ∷ xs) (v ∷ ys) p = ap suc (Pairwise-length xs ys p.1)

module _ {X Y : Type 0} (R S : X → Y → Type 0) where
  pub Pairwise-map : ((x : X) (y : Y) → R x y → S x y) → (xs : List X) (ys : List Y) → Pairwise R xs ys → Pairwise S xs ys
  Pairwise-map f [] [] p = tt
  Pairwise-map f [] (v ∷ ys) p = absurd p
  Pairwise-map f (u ∷ xs) [] p = absurd p
  Pairwise-map f (u ∷ xs) (v ∷ ys) p = (f u v p.0, Pairwise-map f xs ys p.1)

module _ {X Y : Type 0} (R : X → Y → Type 0) where
  pub Pairwise-push : (xs : List X) (ys : List Y) (x : X) (y : Y) → Pairwise R xs ys → R x y → Pairwise R (xs ++ x ∷ []) (ys ++ y ∷ [])
  Pairwise-push [] [] x y p r = (r, tt)
  Pairwise-push [] (v ∷ ys) x y p r = absurd p
  Pairwise-push (u ∷ xs) [] x y p r = absurd p
  Pairwise-push (u ∷ xs) (v ∷ ys) x y p r = (p.0, Pairwise-push xs ys x y p.1 r)

-- ---- the plan of an exchange carried out

resolvable : (remote : States) (e : Tag × UnsettledMessage) (s : Step) → IsStepFor e (entry_at remote e.0) s → IsResolvable e s
resolvable remote e s is = record { tag = is.tag; state = is.planned.known }

pub plan_is_able : (own : Entries UnsettledMessage) (remote : States) (steps : List Step)
    → Pairwise (λ e s. IsStepFor e (entry_at remote e.0) s) own steps → Pairwise IsResolvable own steps
plan_is_able own remote steps p = Pairwise-map (λ e s. IsStepFor e (entry_at remote e.0) s) IsResolvable (resolvable remote) own steps p

pub resolved_by-plan : (own : Entries UnsettledMessage) (remote : States) (steps : List Step)
    → Pairwise (λ e s. IsStepFor e (entry_at remote e.0) s) own steps → resolved_by own steps ≡ resolutions own remote
resolved_by-plan [] remote [] p = refl
resolved_by-plan [] remote (s ∷ steps) p = absurd p
resolved_by-plan (e ∷ own) remote [] p = absurd p
resolved_by-plan (e ∷ own) remote (s ∷ steps) p =
    ap (λ r. (e.0, r) ∷ resolved_by own steps) (p.0.planned.answers e.0)
    ∙ ap (λ l. (e.0, resolution e.0 e.1 (entry_at remote e.0)) ∷ l) (resolved_by-plan own remote steps p.1)

pub counts_add : (steps : List Step) → resumed_count steps + ended_count steps ≡ length steps
counts_add [] = refl
counts_add (s ∷ steps) =
    elim (is_ended_by s.plan) as (λ b. (cond b 0 1 + resumed_count steps) + (cond b 1 0 + ended_count steps) ≡ suc (length steps)) [
      | true ↦ omega (arith, counts_add steps)
      | false ↦ omega (arith, counts_add steps)
    ]

-- ---- while the receiver's map is read

same : (tag : Tag) → bytes_eq tag tag ≡ true
same tag = (bytes_eq-Decides tag tag).1 refl

turned_from : (tag other : Tag) → bytes_eq tag other ≡ false → bytes_eq other tag ≡ false
turned_from tag other h = is_false (bytes_eq other tag) (λ e. false_is_not_true (sym h ∙ (bytes_eq-Decides tag other).1 (sym ((bytes_eq-Decides other tag).0 e))))

-- what holds of all keys holds of the one at a place
key_in : (P : Tag → Type 0) (own : Entries UnsettledMessage) (i : ℕ) (e : Tag × UnsettledMessage) → AllByRecursion P (keys_of own) → slice_get own i ≡ Some e → P e.0
key_in P [] i e all at = absurd (some_is_none (sym at))
key_in P (x ∷ own) zero e all at = subst (λ (y : Tag × UnsettledMessage). P y.0) (some_is at) all.0
key_in P (x ∷ own) (suc i) e all at = key_in P own i e all.1 at

module _ (remote : States) where
  -- the step of a delivery is decided unless its report is still to be read
  abbrev pub Decided : States → Tag × UnsettledMessage → Step → Type 0
  Decided left pair step = entry_at left pair.0 ≡ None → IsStepFor pair (entry_at remote pair.0) step

  module _ (tag : Tag) (state : Option DeliveryState) (left : States) where
    other_is_left : (other : Tag) → bytes_eq other tag ≡ false → entry_at left other ≡ None → entry_at ((tag, state) ∷ left) other ≡ None
    other_is_left other h none = ap (λ b. cond b (Some state) (entry_at left other)) h ∙ none

    -- none of these deliveries has the tag
    none_has : (own : Entries UnsettledMessage) (steps : List Step) → AllByRecursion (λ k. bytes_eq tag k ≡ false) (keys_of own)
        → Pairwise (Decided ((tag, state) ∷ left)) own steps → Pairwise (Decided left) own steps
    none_has [] [] all p = tt
    none_has [] (s ∷ steps) all p = absurd p
    none_has (e ∷ own) [] all p = absurd p
    none_has (e ∷ own) (s ∷ steps) all p =
        ((λ none. p.0 (other_is_left e.0 (turned_from tag e.0 all.0) none)), none_has own steps all.1 p.1)

    absent : (own : Entries UnsettledMessage) → entry_at own tag ≡ None → AllByRecursion (λ k. bytes_eq tag k ≡ false) (keys_of own)
    absent own none = absent_from_lookup (bytes_eq tag) own none

    -- one of them has it, and gets a step
    one_has : (own : Entries UnsettledMessage) (steps : List Step) (i : ℕ) (entry : UnsettledMessage) (step : Step) → IsMap own
        → slice_get own i ≡ Some (tag, entry) → IsStepFor (tag, entry) (entry_at remote tag) step
        → Pairwise (Decided ((tag, state) ∷ left)) own steps → Pairwise (Decided left) own (slice_set steps i step)
    unfolding IsDistinct
    one_has [] steps i entry step m at is p = absurd (some_is_none (sym at))
    one_has (e ∷ own) [] i entry step m at is p = absurd p
    one_has (e ∷ own) (s ∷ steps) zero entry step m at is p =
        let same_pair : e ≡ (tag, entry) = some_is at in (
          (λ none. subst (λ (y : Tag × UnsettledMessage). IsStepFor y (entry_at remote y.0) step) (sym same_pair) is),
          none_has own steps (subst (λ (y : Tag × UnsettledMessage). AllByRecursion (λ k. bytes_eq y.0 k ≡ false) (keys_of own)) same_pair m.0) p.1,
        )
    one_has (e ∷ own) (s ∷ steps) (suc i) entry step m at is p = (
      (λ none. p.0 (other_is_left e.0 (key_in (λ k. bytes_eq e.0 k ≡ false) own i (tag, entry) m.0 at) none)),
      one_has own steps i entry step m.1 at is p.1,
    )

-- ---- progress

pub progress-begin : (own : Entries UnsettledMessage) (steps : List Step) (remote : States) → IsMap remote
    → Pairwise (λ e s. IsStepFor e None s) own steps → IsProgress own (record { steps = steps; aborts = [] }) remote remote
progress-begin own steps remote m p = record {
  distinct = m;
  from = λ tag state at. at;
  steps = Pairwise-map (λ e s. IsStepFor e None s) (Decided remote remote) (λ e s is none. subst (λ r. IsStepFor e r s) (sym none) is) own steps p;
  aborts = refl;
}

pub progress-end : (own : Entries UnsettledMessage) (plan : Planned) (remote : States) → IsProgress own plan [] remote → IsPlanOf plan own remote
progress-end own plan remote p = record {
  steps = Pairwise-map (Decided remote []) (λ e s. IsStepFor e (entry_at remote e.0) s) (λ e s is. is refl) own plan.steps p.steps;
  aborts = sym (append-nil plan.aborts) ∙ p.aborts;
}

module _ (own : Entries UnsettledMessage) (steps : List Step) (aborts : Entries ResumingDelivery) (tag : Tag) (state : Option DeliveryState) (left remote : States)
    (p : IsProgress own (record { steps = steps; aborts = aborts }) ((tag, state) ∷ left) remote) where
  rest_is_map : IsMap left
  unfolding IsDistinct
  rest_is_map = p.distinct.1

  not_left : entry_at left tag ≡ None
  unfolding IsDistinct
  not_left = lookup_of_absent tag left p.distinct.0

  others_from : (other : Tag) (s : Option DeliveryState) → entry_at left other ≡ Some s → entry_at remote other ≡ Some s
  others_from other s at =
      p.from other s (elim (bytes_eq other tag) as (λ b. (bytes_eq other tag ≡ b) → cond b (Some state) (entry_at left other) ≡ Some s) [
        | true ↦ λ h. absurd (some_is_none (sym at ∙ (ap (entry_at left) ((bytes_eq-Decides other tag).0 h) ∙ not_left)))
        | false ↦ λ h. at
      ] refl)

  pub reported : entry_at remote tag ≡ Some state
  reported = p.from tag state (ap (λ b. cond b (Some state) (entry_at left tag)) (same tag))

  aborts_of : (b : Bool) → is_none (entry_at own tag) ≡ b
      → unknown_aborted own ((tag, state) ∷ left) ≡ cond b ((tag, Abort 0 None) ∷ unknown_aborted own left) (unknown_aborted own left)
  aborts_of true h = ap (λ b. map (λ (e : Tag × Option DeliveryState). (e.0, Abort 0 None)) (cond b ((tag, state) ∷ filter (λ e. is_none (entry_at own e.0)) left) (filter (λ e. is_none (entry_at own e.0)) left))) h
  aborts_of false h = ap (λ b. map (λ (e : Tag × Option DeliveryState). (e.0, Abort 0 None)) (cond b ((tag, state) ∷ filter (λ e. is_none (entry_at own e.0)) left) (filter (λ e. is_none (entry_at own e.0)) left))) h

  pub progress-unknown : entry_at own tag ≡ None → IsProgress own (record { steps = steps; aborts = aborts ++ (tag, Abort 0 None) ∷ [] }) left remote
  progress-unknown none = record {
    distinct = rest_is_map;
    from = others_from;
    steps = none_has remote tag state left own steps (absent remote tag state left own none) p.steps;
    aborts = append_assoc aborts ((tag, Abort 0 None) ∷ []) (unknown_aborted own left) ∙ (ap (λ l. aborts ++ l) (sym (aborts_of true (ap is_none none))) ∙ p.aborts);
  }

  pub progress-known : (i : ℕ) (entry : UnsettledMessage) (step : Step) → IsMap own → slice_get own i ≡ Some (tag, entry) → entry_at own tag ≡ Some entry
      → IsStepFor (tag, entry) (Some state) step → IsProgress own (record { steps = slice_set steps i step; aborts = aborts }) left remote
  progress-known i entry step m at known is = record {
    distinct = rest_is_map;
    from = others_from;
    steps = one_has remote tag state left own steps i entry step m at (subst (λ r. IsStepFor (tag, entry) r step) (sym reported) is) p.steps;
    aborts = ap (λ l. aborts ++ l) (sym (aborts_of false (ap is_none known))) ∙ p.aborts;
  }

-- ---- a delivery at its place

pub within : (own : Entries UnsettledMessage) (i : ℕ) (e : Tag × UnsettledMessage) → slice_get own i ≡ Some e → i < length own
within [] i e at = absurd (some_is_none (sym at))
within (x ∷ own) zero e at = omega arith
within (x ∷ own) (suc i) e at = omega (arith, within own i e at)

pub found : (own : Entries UnsettledMessage) (i : ℕ) (tag : Tag) (entry : UnsettledMessage) → IsMap own → slice_get own i ≡ Some (tag, entry) → entry_at own tag ≡ Some entry
unfolding IsDistinct
found [] i tag entry m at = absurd (some_is_none (sym at))
found (x ∷ own) zero tag entry m at =
    let is : x ≡ (tag, entry) = some_is at in
    ap (λ (y : Tag × UnsettledMessage). cond (bytes_eq tag y.0) (Some y.1) (entry_at own tag)) is ∙ ap (λ b. cond b (Some entry) (entry_at own tag)) (same tag)
found (x ∷ own) (suc i) tag entry m at =
    ap (λ b. cond b (Some x.1) (entry_at own tag)) (turned_from x.0 tag (key_in (λ k. bytes_eq x.0 k ≡ false) own i (tag, entry) m.0 at)) ∙ found own i tag entry m.1 at

-- ---- a delivery that the receiver does not know

carries_nothing : (plan : PlannedResolution) (entry : UnsettledMessage) (tag : Tag) (state : Option DeliveryState) → resolution_by plan tag entry ≡ row tag entry (sender_report state) nothing → does_carry_tag plan ≡ false
carries_nothing plan.Resend entry tag state h = refl
carries_nothing (plan.Resume rest) entry tag state h = refl
carries_nothing plan.LocalOutcome entry tag state h = refl
carries_nothing (plan.RemoteOutcome s) entry tag state h = refl
carries_nothing plan.Abort entry tag None h = absurd (cc)
carries_nothing plan.Abort entry tag (Some (Received section offset)) h = absurd (cc)
carries_nothing plan.Abort entry tag (Some Accepted) h = absurd (cc)
carries_nothing plan.Abort entry tag (Some (Rejected error)) h = absurd (cc)
carries_nothing plan.Abort entry tag (Some Released) h = absurd (cc)
carries_nothing plan.Abort entry tag (Some (Modified failed undeliverable annotations)) h = absurd (cc)
carries_nothing plan.RestateOutcome entry tag None h = absurd (cc)
carries_nothing plan.RestateOutcome entry tag (Some (Received section offset)) h = absurd (cc)
carries_nothing plan.RestateOutcome entry tag (Some Accepted) h = absurd (cc)
carries_nothing plan.RestateOutcome entry tag (Some (Rejected error)) h = absurd (cc)
carries_nothing plan.RestateOutcome entry tag (Some Released) h = absurd (cc)
carries_nothing plan.RestateOutcome entry tag (Some (Modified failed undeliverable annotations)) h = absurd (cc)

pub no_tag : (e : Tag × UnsettledMessage) (plan : PlannedResolution) → IsPlannedFor plan e.1 None → IsStepFor e None (record { plan = plan; tag = None })
no_tag e plan is = record {
  planned = is;
  tag = λ h. absurd (false_is_not_true (sym (carries_nothing plan e.1 e.0 e.1.state (is.answers e.0)) ∙ h));
}

-- ---- how many are resumed, and how many have ended

one_step : (e : Tag × UnsettledMessage) (resumed : Entries ResumingDelivery) (ended : List Ended) (n m : ℕ) → length resumed ≤ n → length ended ≤ m → (p : PlannedResolution)
    → (length (cons_option (to_resume (e.0, resolution_by p e.0 e.1)) resumed) ≤ cond (is_ended_by p) 0 1 + n)
    × (length (cons_option (to_return (e.0, resolution_by p e.0 e.1)) ended) ≤ cond (is_ended_by p) 1 0 + m)
one_step e resumed ended n m h k plan.Resend = (omega (arith, h), omega (arith, k))
one_step e resumed ended n m h k (plan.Resume rest) = (omega (arith, h), omega (arith, k))
one_step e resumed ended n m h k plan.Abort = (omega (arith, h), omega (arith, k))
one_step e resumed ended n m h k plan.LocalOutcome = (omega (arith, h), omega (arith, k))
one_step e resumed ended n m h k (plan.RemoteOutcome state) = (omega (arith, h), omega (arith, k))
one_step e resumed ended n m h k plan.RestateOutcome = (omega (arith, h), omega (arith, k))

-- both lists are at most as long as the steps are counted
pub within_counts : (own : Entries UnsettledMessage) (steps : List Step)
    → (length (resumed_by own steps) ≤ resumed_count steps) × (length (ended_by_steps own steps) ≤ ended_count steps)
within_counts [] steps = (omega arith, omega arith)
within_counts (e ∷ own) [] = (omega arith, omega arith)
within_counts (e ∷ own) (s ∷ steps) =
    let rest = within_counts own steps in
    one_step e (resumed_by own steps) (ended_by_steps own steps) (resumed_count steps) (ended_count steps) rest.0 rest.1 s.plan

-- ---- the first of them, and the others

first_and_others : {B : Type 0} (o : Option B) (list : List B) → cons_option o list ≡ cons_option o [] ++ list
first_and_others None list = refl
first_and_others (Some x) list = refl

pub resumed_first : (e : Tag × UnsettledMessage) (s : Step) (own : Entries UnsettledMessage) (steps : List Step)
    → resumed_by (e ∷ own) (s ∷ steps) ≡ resumed_by (e ∷ []) (s ∷ []) ++ resumed_by own steps
resumed_first e s own steps = first_and_others (to_resume (e.0, resolution_by s.plan e.0 e.1)) (resumed_by own steps)

pub ended_first : (e : Tag × UnsettledMessage) (s : Step) (own : Entries UnsettledMessage) (steps : List Step)
    → ended_by_steps (e ∷ own) (s ∷ steps) ≡ ended_by_steps (e ∷ []) (s ∷ []) ++ ended_by_steps own steps
ended_first e s own steps = first_and_others (to_return (e.0, resolution_by s.plan e.0 e.1)) (ended_by_steps own steps)
