-- What the calls of a sender do for C (OASIS AMQP 1.0 core, 2.6.12, 2.6.13 and 2.7.5).
use Rattle.std.specs.Prelude.{◌≡◌, ◌∷◌, ℕ, Bool, false, List, [], Option, None, IsSomeAnd, option_and_then, slice_get, Result, Ok, Err}
use Rattle.std.specs.Option.{option_to_list}
use Rattle.amqp_link_c.specs.Reading.{outcome_error}
use Rattle.amqp_link_c.specs.declared.outcomes.Outcome.{Outcome}
use Rattle.amqp_link_dispositions.specs.Ending.{ended_by, map_after_receiver_disposition}
use Rattle.amqp_link_flat.specs.Flat.{plain_flow, plain_state}
use Rattle.amqp_link_flat.specs.Statuses.{link_status}
use Rattle.amqp_link_flat.specs.declared.flow.Flow.{Flow}
use Rattle.amqp_link_ledger.specs.Fates.{Resolves, after as after_change}
use Rattle.amqp_link_ledger.specs.Ledgers.{Ledger}
use Rattle.amqp_link_ledger.specs.Sends.{after_settlement}
use Rattle.amqp_link_ledger.specs.declared.fate.Fate.{Fate}
use Rattle.amqp_link_ledger.specs.declared.fate.Fate.TheVariants as fate
use Rattle.amqp_link_sender.specs.SenderDisposes.{Dispositions, after_disposing, ended_at, is_echoed}
use Rattle.amqp_link_sender.specs.Senders.{Delivery, SendStop, SendsTagged, missing_credit, new_transfer, refused}
use Rattle.amqp_link_split.specs.Fitting.{IsFitting}
use Rattle.amqp_link_state.specs.Counts.{sender_flow, with_available}
use Rattle.amqp_link_types.specs.Deliveries.{Ended}
use Rattle.amqp_link_types.specs.Entries.{Tag}
use Rattle.amqp_link_types.specs.declared.delivery.Settlement.{Settlement}
use Rattle.amqp_link_types.specs.declared.frame.LinkFrame.{LinkFrame}
use Rattle.amqp_link_types.specs.declared.types.definitions.Error.{Error}
use Rattle.amqp_link_types.specs.declared.types.delivery_state.DeliveryState.{DeliveryState}
use Rattle.amqp_link_types.specs.declared.types.errors.LinkStateError.{LinkStateError}
use Rattle.amqp_link_types.specs.declared.types.terminus.Target.{Target}

-- A payload is sent under a tag as a new delivery, for one credit: its frames carry it in as few as fit the frame limit, and an
-- unsettled delivery is the next registration.
pub record Sends (tag : List ℕ) (d : Delivery) (payload : List ℕ) (frames : List LinkFrame) (before after : Ledger Target) : Type 0 where
  pub settlement : Settlement
  pub sent : IsSomeAnd before.link.output_handle (λ handle.
      SendsTagged before.link handle tag d payload settlement frames after.link)
  pub fits : IsSomeAnd before.link.output_handle (λ handle.
      IsFitting (new_transfer before.link handle tag d) before.link.max_frame_size payload frames)
  pub records : after.records ≡ after_settlement settlement before.records

-- the status of what stops a send
abbrev pub send_status : SendStop → ℕ
send_status missing_credit = 11
send_status (refused error) = link_status error

-- A sender states its flow, with how many deliveries wait, if that is known.
pub record SendsFlow (available : Option ℕ) (echo : Bool) (flow : Flow) (before after : Ledger Target) : Type 0 where
  pub after_it : after ≡ record before {
    link = record before.link { flow_state = with_available available before.link.flow_state };
  }
  pub flow_is : IsSomeAnd before.link.output_handle (λ handle. flow ≡ plain_flow (sender_flow after.link.flow_state handle echo false))

-- the number of a fate
abbrev pub fate_number : Fate → ℕ
fate_number fate.Pending = 0
fate_number fate.Withdrawn = 1
fate_number fate.HandedOut = 2
fate_number (fate.Resolved outcome) = 3
fate_number fate.Released = 4

-- how a delivery has ended, as C gets it: the peer's state, or why there is none
abbrev pub plain_outcome : Result (Option DeliveryState) LinkStateError → Outcome
plain_outcome (Ok state) = record { state = plain_state state; failed = 0 }
plain_outcome (Err error) = record { state = plain_state None; failed = link_status error }

-- the outcome that is written of a fate: that with which it is resolved
abbrev pub fate_outcome : Fate → Outcome → Outcome
fate_outcome (fate.Resolved outcome) before = plain_outcome outcome
fate_outcome _ before = before

-- the error of the rejection with which a registration is resolved, if it is one with an error
abbrev pub error_of_fate : Fate → Option Error
error_of_fate (fate.Resolved outcome) = outcome_error outcome
error_of_fate _ = None

-- the same of the registration with this number
abbrev pub fate_error_at : ℕ → Ledger Target → Option Error
fate_error_at number l = option_and_then (λ entry. error_of_fate entry.1) (slice_get l.records number)

-- ---- dispositions

-- The receiver's disposition of the delivery with this tag is taken: whether it asks for an answer, and what it has ended.
pub record TakesDisposition (settled : Bool) (state : Option DeliveryState) (tag : Tag) (echo : Bool) (ended : List Ended)
    (before after : Ledger Target) : Type 0 where
  pub echo_is : echo ≡ is_echoed settled before.link.rcv_settle_mode
  pub ended_is : ended ≡ option_to_list (ended_by settled state tag before.link.unsettled)
  pub after_is : after ≡ record {
    link = record before.link { unsettled = map_after_receiver_disposition settled state tag before.link.unsettled };
    records = after_change (Resolves ended) before.records;
  }

-- A sender disposes of a delivery: the frames, and what that ends.
pub record Disposes (id : ℕ) (tag : Tag) (settled : Bool) (state : DeliveryState) (frames : List LinkFrame) (ended : List Ended)
    (before after : Ledger Target) : Type 0 where
  pub frames_are : Dispositions before.link settled state false (id ∷ []) frames
  pub ended_are : ended ≡ ended_at before.link settled (tag ∷ [])
  pub after_is : after ≡ record {
    link = after_disposing before.link settled state (tag ∷ []);
    records = after_change (Resolves ended) before.records;
  }
