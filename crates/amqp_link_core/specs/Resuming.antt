-- How an unsettled delivery is resolved when its link is attached again (OASIS AMQP 1.0 core, 2.6.13).
use Rattle.std.specs.Prelude.{◌≡◌, ℕ, Bool, true, false, List, drop, ◌&&◌, ◌||◌, ◌==◌, nat_lt, option_map, unwrap_or, Option, Some, None, IsSome, Result, Ok, if◌then◌else◌}
use Rattle.amqp_link_types.specs.DeliveryStates.{carries_more}
use Rattle.amqp_link_types.specs.Entries.{Tag}
use Rattle.amqp_link_payloads.specs.Position.{place}
use Rattle.amqp_link_types.specs.declared.delivery.UnsettledMessage.{UnsettledMessage}
use Rattle.amqp_link_types.specs.declared.types.delivery_state.DeliveryState.{DeliveryState}
use Rattle.amqp_link_types.specs.declared.types.delivery_state.DeliveryState.TheVariants.{Accepted, Rejected, Released, Modified, Received}
use Rattle.amqp_link_types.specs.declared.types.errors.LinkStateError.{LinkStateError}
use Rattle.amqp_link_core.specs.declared.resumption.PlannedResolution.{PlannedResolution}
use Rattle.amqp_link_core.specs.declared.resumption.PlannedResolution.TheVariants as plan
use Rattle.amqp_link_core.specs.declared.resumption.Resolution.{Resolution}
use Rattle.amqp_link_core.specs.declared.resumption.Resolution.TheVariants.{Resuming, Outcome}
use Rattle.amqp_link_core.specs.declared.resumption.ResumingDelivery.TheVariants.{Abort, Resend, Resume, RestateOutcome}

-- what an endpoint reports of a delivery: nothing, a front of it that ends at this offset in this section,
-- or how it ended
pub data Report : Type 0 where
  nothing : Report
  front : ℕ → ℕ → Report
  ended : DeliveryState → Report

-- what a state reports
abbrev pub report_of : DeliveryState → Report
report_of (Received section offset) = front section offset
report_of state = ended state

-- what the sender reports: the state in its entry, if any
abbrev pub sender_report : Option DeliveryState → Report
sender_report None = nothing
sender_report (Some state) = report_of state

-- what the receiver reports: nothing if its map has no entry; a null state is a front of no bytes
abbrev pub receiver_report : Option (Option DeliveryState) → Report
receiver_report None = nothing
receiver_report (Some None) = front 0 0
receiver_report (Some (Some state)) = report_of state

-- the bytes still to be sent: those from the end of the receiver's front on, or the whole payload if the
-- receiver's position has no place in it
abbrev pub rest_from : List ℕ → ℕ → ℕ → List ℕ
rest_from payload section offset =
    unwrap_or (option_map (λ i. drop i payload) (place payload section offset)) payload

-- the first front ends beyond the second, by section, then by offset
abbrev pub is_beyond : ℕ → ℕ → ℕ → ℕ → Bool
is_beyond section offset section' offset' =
    nat_lt section' section || (section' == section && nat_lt offset' offset)

-- the sender's report is past a front: a front beyond it, or an outcome
abbrev pub is_past : Report → ℕ → ℕ → Bool
is_past nothing section' offset' = false
is_past (front section offset) section' offset' = is_beyond section offset section' offset'
is_past (ended state) section' offset' = true

-- two terminal states of one kind
abbrev pub is_same_outcome : DeliveryState → DeliveryState → Bool
is_same_outcome Accepted Accepted = true
is_same_outcome (Rejected error) (Rejected error') = true
is_same_outcome Released Released = true
is_same_outcome (Modified failed undeliverable annotations) (Modified failed' undeliverable' annotations') = true
is_same_outcome _ _ = false

-- The table: what the sender reports of the delivery, what the receiver reports of it, and how it is
-- resolved. An entry that is sent again or resumed keeps its whole payload.
abbrev pub row : Tag → UnsettledMessage → Report → Report → Resolution
row tag entry nothing nothing = Resuming (Resend entry)
row tag entry nothing (front section offset) =
    Resuming (Resume entry (rest_from entry.payload section offset))
row tag entry nothing (ended remote) = Outcome (Ok (Some remote))
row tag entry (front section offset) nothing = Resuming (Resend entry)
row tag entry (front section offset) (front section' offset') =
    if is_beyond section offset section' offset'
    then Resuming (Abort entry.message_format (Some tag))
    else Resuming (Resume entry (rest_from entry.payload section' offset'))
row tag entry (front section offset) (ended remote) = Outcome (Ok (Some remote))
row tag entry (ended local) nothing = Outcome (Ok (Some local))
row tag entry (ended local) (front section offset) = Resuming (Abort entry.message_format (Some tag))
row tag entry (ended local) (ended remote) =
    if is_same_outcome local remote
    then Outcome (Ok (Some local))
    else Resuming (RestateOutcome tag entry.payload local entry.message_format)

-- how the delivery with this tag is resolved: by its entry at the sender, and by what the receiver's
-- unsettled map has at the tag
abbrev pub resolution : Tag → UnsettledMessage → Option (Option DeliveryState) → Resolution
resolution tag entry remote = row tag entry (sender_report entry.state) (receiver_report remote)

-- only a delivery that is resumed allocates, for its rest
abbrev pub is_resumed : Resolution → Bool
is_resumed (Resuming (Resume entry rest)) = true
is_resumed _ = false

-- ---- a resolution that is decided before the entry is moved

-- the resolution of a delivery by a plan
abbrev pub resolution_by : PlannedResolution → Tag → UnsettledMessage → Resolution
resolution_by plan.Resend tag entry = Resuming (Resend entry)
resolution_by (plan.Resume rest) tag entry = Resuming (Resume entry rest)
resolution_by plan.Abort tag entry = Resuming (Abort entry.message_format (Some tag))
resolution_by plan.LocalOutcome tag entry = Outcome (Ok entry.state)
resolution_by (plan.RemoteOutcome state) tag entry = Outcome (Ok (Some state))
resolution_by plan.RestateOutcome tag entry =
    Resuming (RestateOutcome tag entry.payload (unwrap_or entry.state Accepted) entry.message_format)

-- what is sent carries the tag
abbrev pub does_carry_tag : PlannedResolution → Bool
does_carry_tag plan.Abort = true
does_carry_tag plan.RestateOutcome = true
does_carry_tag _ = false

-- the sender's outcome is stated again
abbrev pub is_restated : PlannedResolution → Bool
is_restated plan.RestateOutcome = true
is_restated _ = false

-- the outcome of a delivery that has ended
abbrev pub outcome_by : PlannedResolution → UnsettledMessage → Option (Result (Option DeliveryState) LinkStateError)
outcome_by plan.LocalOutcome entry = Some (Ok entry.state)
outcome_by (plan.RemoteOutcome state) entry = Some (Ok (Some state))
outcome_by _ entry = None

-- whether the state or outcome carries an error or annotations, which a copy allocates
abbrev pub does_carry : Option DeliveryState → Bool
does_carry None = false
does_carry (Some state) = carries_more state

abbrev pub does_outcome_carry : Option (Result (Option DeliveryState) LinkStateError) → Bool
does_outcome_carry (Some (Ok state)) = does_carry state
does_outcome_carry _ = false

abbrev pub is_ended_by : PlannedResolution → Bool
is_ended_by plan.LocalOutcome = true
is_ended_by (plan.RemoteOutcome state) = true
is_ended_by _ = false

-- A plan for a delivery with this entry at the sender and this report of the receiver is the row of the
-- table; if the sender's outcome is stated again, its entry has one.
pub record IsPlannedOf (plan : PlannedResolution) (entry : UnsettledMessage) (report : Report) : Type 0 where
  pub answers : (tag : Tag) → resolution_by plan tag entry ≡ row tag entry (sender_report entry.state) report
  pub known : is_restated plan ≡ true → IsSome entry.state

-- the same, by the entry of the receiver's unsettled map
abbrev pub IsPlannedFor : PlannedResolution → UnsettledMessage → Option (Option DeliveryState) → Type 0
IsPlannedFor plan entry remote = IsPlannedOf plan entry (receiver_report remote)
