-- The rows of the table of resumption, by what the code asks of the states.
use Rattle.std.proofs.Common.{◌≡◌, ℕ, Bool, true, false, refl}
use Rattle.std.specs.Prelude.{Option, Some, None, Ok}
use Rattle.std.specs.Option.{option_map_or}
use Rattle.amqp_link_types.specs.DeliveryStates.{is_terminal}
use Rattle.amqp_link_types.specs.Entries.{Tag}
use Rattle.amqp_link_types.specs.declared.delivery.UnsettledMessage.{UnsettledMessage}
use Rattle.amqp_link_types.specs.declared.types.delivery_state.DeliveryState.{DeliveryState}
use Rattle.amqp_link_types.specs.declared.types.delivery_state.DeliveryState.TheVariants.{Accepted, Rejected, Released, Modified, Received}
use Rattle.amqp_link_core.specs.Resuming.{Report, nothing, front, ended, sender_report, is_past, is_resumed, is_same_outcome, rest_from, row}
use Rattle.amqp_link_core.specs.declared.resumption.Resolution.{Resolution}
use Rattle.amqp_link_core.specs.declared.resumption.Resolution.TheVariants.{Resuming, Outcome}
use Rattle.amqp_link_core.specs.declared.resumption.ResumingDelivery.TheVariants.{Abort, Resend, Resume, RestateOutcome}

abbrev has_ended : Option DeliveryState → Bool
has_ended state = option_map_or is_terminal state false

-- ---- the receiver reports nothing

pub row-ended-nothing : (tag : Tag) (entry : UnsettledMessage) (state : Option DeliveryState) → has_ended state ≡ true
    → row tag entry (sender_report state) nothing ≡ Outcome (Ok state)
row-ended-nothing tag entry None h = cc
row-ended-nothing tag entry (Some Accepted) h = refl
row-ended-nothing tag entry (Some (Rejected error)) h = refl
row-ended-nothing tag entry (Some Released) h = refl
row-ended-nothing tag entry (Some (Modified failed undeliverable annotations)) h = refl
row-ended-nothing tag entry (Some (Received section offset)) h = cc

pub row-open-nothing : (tag : Tag) (entry : UnsettledMessage) (state : Option DeliveryState) → has_ended state ≡ false
    → row tag entry (sender_report state) nothing ≡ Resuming (Resend entry)
row-open-nothing tag entry None h = refl
row-open-nothing tag entry (Some Accepted) h = cc
row-open-nothing tag entry (Some (Rejected error)) h = cc
row-open-nothing tag entry (Some Released) h = cc
row-open-nothing tag entry (Some (Modified failed undeliverable annotations)) h = cc
row-open-nothing tag entry (Some (Received section offset)) h = refl

pub ruleset unreported_rows = (row-ended-nothing, row-open-nothing)

-- ---- the receiver has a front

pub row-past-front : (tag : Tag) (entry : UnsettledMessage) (local : Report) (section offset : ℕ) → is_past local section offset ≡ true
    → row tag entry local (front section offset) ≡ Resuming (Abort entry.message_format (Some tag))
row-past-front tag entry nothing section offset h = cc
row-past-front tag entry (front section' offset') section offset h = rw h refl
row-past-front tag entry (ended state) section offset h = refl

pub row-short-front : (tag : Tag) (entry : UnsettledMessage) (local : Report) (section offset : ℕ) → is_past local section offset ≡ false
    → row tag entry local (front section offset) ≡ Resuming (Resume entry (rest_from entry.payload section offset))
row-short-front tag entry nothing section offset h = refl
row-short-front tag entry (front section' offset') section offset h = rw h refl
row-short-front tag entry (ended state) section offset h = cc

pub resumed-short-front : (tag : Tag) (entry : UnsettledMessage) (local : Report) (section offset : ℕ) → is_past local section offset ≡ false
    → is_resumed (row tag entry local (front section offset)) ≡ true
resumed-short-front tag entry local section offset h = rw (row-short-front tag entry local section offset h) refl

pub ruleset front_rows = (row-past-front, row-short-front, resumed-short-front)

-- ---- the receiver reports how it ended

pub row-open-ended : (tag : Tag) (entry : UnsettledMessage) (state : Option DeliveryState) (remote : DeliveryState) → has_ended state ≡ false
    → row tag entry (sender_report state) (ended remote) ≡ Outcome (Ok (Some remote))
row-open-ended tag entry None remote h = refl
row-open-ended tag entry (Some Accepted) remote h = cc
row-open-ended tag entry (Some (Rejected error)) remote h = cc
row-open-ended tag entry (Some Released) remote h = cc
row-open-ended tag entry (Some (Modified failed undeliverable annotations)) remote h = cc
row-open-ended tag entry (Some (Received section offset)) remote h = refl

ended_report : (state : DeliveryState) → is_terminal state ≡ true → sender_report (Some state) ≡ ended state
ended_report Accepted h = refl
ended_report (Rejected error) h = refl
ended_report Released h = refl
ended_report (Modified failed undeliverable annotations) h = refl
ended_report (Received section offset) h = cc

pub row-same-ended : (tag : Tag) (entry : UnsettledMessage) (state : Option DeliveryState) (remote : DeliveryState) → has_ended state ≡ true
    → option_map_or (λ own. is_same_outcome own remote) state false ≡ true
    → row tag entry (sender_report state) (ended remote) ≡ Outcome (Ok state)
row-same-ended tag entry None remote h same = cc
row-same-ended tag entry (Some local) remote h same = rw (ended_report local h) (rw same refl)

pub row-other-ended : (tag : Tag) (entry : UnsettledMessage) (state : Option DeliveryState) (remote : DeliveryState) (answer : Resolution)
    → has_ended state ≡ true
    → option_map_or (λ own. is_same_outcome own remote) state false ≡ false
    → ((local : DeliveryState) → state ≡ Some local → answer ≡ Resuming (RestateOutcome tag entry.payload local entry.message_format))
    → answer ≡ row tag entry (sender_report state) (ended remote)
row-other-ended tag entry None remote answer h other is = cc
row-other-ended tag entry (Some local) remote answer h other is = rw (ended_report local h) (rw other (is local refl))

pub ruleset end_rows = (row-open-ended, row-same-ended, row-other-ended)
