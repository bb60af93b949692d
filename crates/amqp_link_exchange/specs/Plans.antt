-- A plan of the exchange: how each delivery of the sender's map is resolved, before any is moved.
use Rattle.std.specs.Prelude.{◌≡◌, ℕ, ◌+◌, true, List, [], ◌∷◌, ◌++◌, Option, Some, None, IsSome, if◌then◌else◌}
use Rattle.std.specs.List.{filter_map}
use Rattle.amqp_link_types.specs.Deliveries.{Ended}
use Rattle.amqp_link_types.specs.Entries.{Tag, Entries, IsMap, entry_at}
use Rattle.amqp_link_endpoint.specs.Attaching.{States}
use Rattle.amqp_link_core.specs.Resuming.{IsPlannedFor, does_carry_tag, is_restated, is_ended_by, resolution_by}
use Rattle.amqp_link_types.specs.declared.delivery.UnsettledMessage.{UnsettledMessage}
use Rattle.amqp_link_types.specs.declared.types.delivery_state.DeliveryState.{DeliveryState}
use Rattle.amqp_link_core.specs.declared.resumption.Resolution.{Resolution}
use Rattle.amqp_link_core.specs.declared.resumption.ResumingDelivery.{ResumingDelivery}
use Rattle.amqp_link_exchange.specs.Exchanges.{to_resume, to_return, unknown_aborted}
use Rattle.amqp_link_exchange.specs.declared.planning.Step.{Step}

-- what a plan has: a step for each delivery of the sender's map, in order, and the aborts
pub record Planned : Type 0 where
  pub steps : List Step
  pub aborts : Entries ResumingDelivery

-- the two lists have the same length, and R holds of each two elements at the same place
abbrev pub Pairwise : {X Y : Type 0} → (X → Y → Type 0) → List X → List Y → Type 0
Pairwise R [] [] = Unit {0}
Pairwise R (x ∷ xs) (y ∷ ys) = R x y × Pairwise R xs ys
Pairwise R _ _ = ⊥

-- a step for a delivery of the sender's map, with this entry of the receiver's
pub record IsStepFor (pair : Tag × UnsettledMessage) (remote : Option (Option DeliveryState)) (step : Step) : Type 0 where
  pub planned : IsPlannedFor step.plan pair.1 remote
  pub tag : does_carry_tag step.plan ≡ true → step.tag ≡ Some pair.0

-- the plan of an exchange of these maps
pub record IsPlanOf (plan : Planned) (own : Entries UnsettledMessage) (remote : States) : Type 0 where
  pub steps : Pairwise (λ pair step. IsStepFor pair (entry_at remote pair.0) step) own plan.steps
  pub aborts : plan.aborts ≡ unknown_aborted own remote

-- ---- while a plan is made: helpers

-- The receiver's entries that are left are still to be read: the steps of all other deliveries are decided,
-- and the aborts are those of the entries that were read.
pub record IsProgress (own : Entries UnsettledMessage) (plan : Planned) (left remote : States) : Type 0 where
  pub distinct : IsMap left
  pub from : (tag : Tag) (state : Option DeliveryState) → entry_at left tag ≡ Some state → entry_at remote tag ≡ Some state
  pub steps : Pairwise (λ pair step. entry_at left pair.0 ≡ None → IsStepFor pair (entry_at remote pair.0) step) own plan.steps
  pub aborts : plan.aborts ++ unknown_aborted own left ≡ unknown_aborted own remote

-- ---- while the entries are moved: helpers

-- a delivery can be resolved by a step
pub record IsResolvable (pair : Tag × UnsettledMessage) (step : Step) : Type 0 where
  pub tag : does_carry_tag step.plan ≡ true → step.tag ≡ Some pair.0
  pub state : is_restated step.plan ≡ true → IsSome pair.1.state

-- the resolutions of deliveries by their steps
abbrev pub resolved_by : Entries UnsettledMessage → List Step → List (Tag × Resolution)
resolved_by (e ∷ own) (s ∷ steps) = (e.0, resolution_by s.plan e.0 e.1) ∷ resolved_by own steps
resolved_by _ _ = []

abbrev pub resumed_by : Entries UnsettledMessage → List Step → Entries ResumingDelivery
resumed_by own steps = filter_map to_resume (resolved_by own steps)

abbrev pub ended_by_steps : Entries UnsettledMessage → List Step → List Ended
ended_by_steps own steps = filter_map to_return (resolved_by own steps)

-- how many of the steps have an outcome, and how many have none
abbrev pub ended_count : List Step → ℕ
ended_count [] = 0
ended_count (s ∷ steps) = (if is_ended_by s.plan then 1 else 0) + ended_count steps

abbrev pub resumed_count : List Step → ℕ
resumed_count [] = 0
resumed_count (s ∷ steps) = (if is_ended_by s.plan then 0 else 1) + resumed_count steps
