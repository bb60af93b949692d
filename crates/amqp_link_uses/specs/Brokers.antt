-- A broker: the messages between its incoming and its outgoing links (OASIS AMQP 1.0 core, 2.6.7, 2.6.12 and 2.6.13).
use Rattle.std.specs.Prelude.{◌≡◌, ◌⊎◌, ◌++◌, ◌∷◌, ◌+◌, ◌-◌, ◌%◌, ◌^◌, ◌==◌, ◌&&◌, ◌||◌, not, Bool, true, false, ℕ, List, [], length, slice_get, slice_set, sum_by, count_by}
use Rattle.std.specs.Prelude.{Option, Some, None, IsSome, IsSomeAnd, is_some, option_and_then, unwrap_or, Result, Ok, Err, if◌then◌else◌}
use Rattle.std.specs.Map.{set_value}
use Rattle.std.specs.Option.{option_map_or, option_to_list}
use Rattle.std.specs.Str.{bytes_eq}
use Rattle.amqp_link.specs.AttachFields.{next_of, remote_entries}
use Rattle.amqp_link.specs.Counts.{with_stated}
use Rattle.amqp_link.specs.Deliveries.{Ended}
use Rattle.amqp_link.specs.DeliveryStates.{is_terminal}
use Rattle.amqp_link.specs.Disposing.{disposed}
use Rattle.amqp_link.specs.Ending.{ended_by, map_after_receiver_disposition}
use Rattle.amqp_link.specs.Entries.{Tag, Entries, entry_at, with_entry, without_entry}
use Rattle.amqp_link.specs.Exchanges.{deliveries_to_resume, outcomes_returned}
use Rattle.amqp_link.specs.Exchanging.{ledger_attached, ledger_taken}
use Rattle.amqp_link.specs.Fates.{Resolves, after}
use Rattle.amqp_link.specs.Held.{Held, held_bytes}
use Rattle.amqp_link.specs.Inboxes.{InboxState}
use Rattle.amqp_link.specs.Ledgers.{Ledger}
use Rattle.amqp_link.specs.Refusals.{refusal}
use Rattle.amqp_link.specs.ResumingSteps.{DoesOf, StopsStep, step_tests}
use Rattle.amqp_link.specs.SenderAttaches.{exchange_in}
use Rattle.amqp_link.specs.SenderDisposes.{is_echoed}
use Rattle.amqp_link.specs.Senders.{Delivery, SendStop, SendsPayload, delivery_of, missing_credit, next_tag, payload_tests, refused}
use Rattle.amqp_link.specs.Sends.{after_settlement}
use Rattle.amqp_link.specs.Shown.{all_illegal}
use Rattle.amqp_link.specs.Taking.{complete_of, with_taken}
use Rattle.amqp_link.specs.Targets.{plain_target}
use Rattle.amqp_link.specs.declared.delivery.Settlement.{Settlement}
use Rattle.amqp_link.specs.declared.delivery.Settlement.TheVariants as settlement
use Rattle.amqp_link.specs.declared.errors.LinkStateError.{LinkStateError}
use Rattle.amqp_link.specs.declared.errors.LinkStateError.TheVariants.{OutOfMemory, TagPending}
use Rattle.amqp_link.specs.declared.frame.LinkFrame.{LinkFrame}
use Rattle.amqp_link.specs.declared.inbox.Contents.{Contents}
use Rattle.amqp_link.specs.declared.inbox.Contents.TheVariants as contents
use Rattle.amqp_link.specs.declared.inbox.DisposeError.{DisposeError}
use Rattle.amqp_link.specs.declared.inbox.DisposeError.TheVariants as dispose
use Rattle.amqp_link.specs.declared.inbox.Kept.{Kept}
use Rattle.amqp_link.specs.declared.inbox.TakeError.{TakeError}
use Rattle.amqp_link.specs.declared.inbox.TakeError.TheVariants as take
use Rattle.amqp_link.specs.declared.resumption.ResumingDelivery.{ResumingDelivery}
use Rattle.amqp_link.specs.declared.resumption.ResumingDelivery.TheVariants as next
use Rattle.amqp_link.specs.declared.resumption.Step.{Step}
use Rattle.amqp_link.specs.declared.resumption.Step.TheVariants as step
use Rattle.amqp_link.specs.declared.state.LinkFlowStateInner.{LinkFlowStateInner}
use Rattle.amqp_link.specs.declared.state.LinkState.{LinkState}
use Rattle.amqp_link.specs.declared.types.Attach.{Attach}
use Rattle.amqp_link.specs.declared.types.DeliveryState.{DeliveryState}
use Rattle.amqp_link.specs.declared.types.DeliveryState.TheVariants.{Accepted, Released}
use Rattle.amqp_link.specs.declared.types.Target.{Target}
use Rattle.amqp_link_uses.specs.Relays.{is_incomplete as is_incomplete_in}
use Rattle.amqp_link_uses.specs.declared.broker.Forwarded.{Forwarded}
use Rattle.amqp_link_uses.specs.declared.broker.Forwarded.TheVariants as forwarded
use Rattle.amqp_link_uses.specs.declared.broker.Message.{Message}
use Rattle.amqp_link_uses.specs.declared.broker.Origin.{Origin}
use Rattle.amqp_link_uses.specs.declared.broker.errors.SendError.{SendError}
use Rattle.amqp_link_uses.specs.declared.broker.errors.SendError.TheVariants as send
use Rattle.amqp_link_uses.specs.declared.broker.errors.TakeInError.{TakeInError}
use Rattle.amqp_link_uses.specs.declared.broker.errors.TakeInError.TheVariants as take_in
use Rattle.amqp_link_uses.specs.declared.broker.incoming.Progress.{Progress}
use Rattle.amqp_link_uses.specs.declared.broker.incoming.Progress.TheVariants as progress
use Rattle.amqp_link_uses.specs.declared.broker.resuming.Resumed.{Resumed}
use Rattle.amqp_link_uses.specs.declared.broker.resuming.Resumed.TheVariants as resumed

-- the outcome of a delivery, as a sender's link returns it
abbrev pub OutcomeSeen : Type 0
OutcomeSeen = Result (Option DeliveryState) LinkStateError

-- An outgoing link: where the messages came from that are under way on it, by the tags of their deliveries; the deliveries that
-- the last exchange has ended, and those that it has left to resume; and whether it did not state all.
pub record OutgoingState : Type 0 where
  pub ledger : Ledger Target
  pub under_way : Entries Origin
  pub ended : List (Tag × OutcomeSeen)
  pub resuming : Entries ResumingDelivery
  pub is_incomplete : Bool

-- an incoming link: its inbox, and what became of the last message that was taken in under each tag and is not settled
pub record IncomingState : Type 0 where
  pub inbox : InboxState Target
  pub messages : Entries Progress

pub record BrokerState : Type 0 where
  -- for how many messages there is room
  pub room : ℕ
  -- the number of the next message
  pub next_number : ℕ
  pub incoming : List IncomingState
  pub queue : List Message
  pub outgoing : List OutgoingState

-- ---- the room

-- how many messages are queued and under way
abbrev pub held : BrokerState → ℕ
held b = length b.queue + sum_by (λ o. length o.under_way) b.outgoing

-- whether a delivery is kept, and was taken
abbrev pub is_taken_in : Contents → Bool
is_taken_in contents.Taken = true
is_taken_in _ = false

abbrev pub is_taken : Option Kept → Bool
is_taken None = false
is_taken (Some kept) = is_taken_in kept.contents

-- how many of the deliveries that an inbox states were not taken
abbrev pub untaken : InboxState Target → ℕ
untaken s = count_by (λ e. not (is_taken (entry_at s.deliveries e.0))) s.link.unsettled

-- how many deliveries its sender may begin
abbrev pub credit_of : IncomingState → ℕ
credit_of s = s.inbox.link.flow_state.link_credit

-- How many messages an incoming link claims: its credit, and the deliveries that were not taken.
abbrev pub claimed : IncomingState → ℕ
claimed s = credit_of s + untaken s.inbox + length s.inbox.settled

-- how many more may come
abbrev pub free : BrokerState → ℕ
free b = b.room - (held b + sum_by claimed b.incoming)

-- what of the room is used: by messages that are queued and under way, and by the credit that was stated
abbrev pub occupied : BrokerState → ℕ
occupied b = held b + sum_by credit_of b.incoming

-- a link whose sender may begin so many deliveries more
abbrev pub granted_flow : ℕ → InboxState Target → LinkFlowStateInner
granted_flow more s = with_stated (Some (s.link.flow_state.link_credit + more)) None s.link.flow_state

abbrev pub granted : ℕ → IncomingState → IncomingState
granted more s = record s { inbox = record s.inbox { link = record s.inbox.link { flow_state = granted_flow more s.inbox } } }

-- ---- a message is taken in

-- the message of a delivery that is held
abbrev pub message_of : ℕ → Option Tag → ℕ → Held → Message
message_of link tag number held = record {
  origin = record { link = link; tag = tag; number = number };
  message_format = unwrap_or held.performative.message_format 0;
  payload = held_bytes held;
}

-- what is taken of an incoming link: a complete delivery by its tag, or the first that its sender has settled
pub record TakesOne (link : ℕ) (tag : Tag) (number : ℕ) (old : IncomingState) (message : Message) (new : IncomingState) : Type 0 where
  pub held : Held
  pub complete : complete_of (entry_at old.inbox.deliveries tag) ≡ Some held
  pub message_is : message ≡ message_of link (Some tag) number held
  pub link_is : new ≡ record {
    inbox = record old.inbox { deliveries = with_taken tag old.inbox.deliveries };
    messages = with_entry old.messages tag (progress.Pending number);
  }

pub record TakesFirst (link : ℕ) (number : ℕ) (old : IncomingState) (message : Message) (new : IncomingState) : Type 0 where
  pub held : Held
  pub rest : List Held
  pub settled : old.inbox.settled ≡ held ∷ rest
  pub message_is : message ≡ message_of link None number held
  pub link_is : new ≡ record old { inbox = record old.inbox { settled = rest } }

abbrev pub TakesSettledOne : ℕ → ℕ → IncomingState → Option Message → IncomingState → Type 0
TakesSettledOne link number old None new = (old.inbox.settled ≡ []) × (new ≡ old)
TakesSettledOne link number old (Some message) new = TakesFirst link number old message new

-- why it is not taken: by the refusal of its inbox, which out of memory may precede
abbrev pub IsRefusedTake : TakeInError → Option TakeError → Type 0
IsRefusedTake (take_in.Inbox error) refusal = (error ≡ take.OutOfMemory) ⊎ (refusal ≡ Some error)
IsRefusedTake _ refusal = ⊥

-- the same on the link with this number
pub record TakesAt (link : ℕ) (Takes : IncomingState → Message → IncomingState → Type 0) (old : List IncomingState) (message : Message) (new : List IncomingState) : Type 0 where
  pub from : IncomingState
  pub to : IncomingState
  pub is : slice_get old link ≡ Some from
  pub takes : Takes from message to
  pub link_is : new ≡ slice_set old link to

abbrev pub NoneWaits : Option IncomingState → Type 0
NoneWaits None = ⊥
NoneWaits (Some s) = s.inbox.settled ≡ []

abbrev pub TakesFirstAt : ℕ → ℕ → List IncomingState → Option Message → List IncomingState → Type 0
TakesFirstAt link number old None new = (new ≡ old) × NoneWaits (slice_get old link)
TakesFirstAt link number old (Some message) new = TakesAt link (TakesFirst link number) old message new

-- The message that is taken is the last of the queue.
pub record Queues (link : ℕ) (Takes : ℕ → IncomingState → Message → IncomingState → Type 0) (old new : BrokerState) : Type 0 where
  pub message : Message
  pub takes : TakesAt link (Takes old.next_number) old.incoming message new.incoming
  pub broker : new ≡ record old {
    next_number = (old.next_number + 1) % 2 ^ 64;
    incoming = new.incoming;
    queue = old.queue ++ message ∷ [];
  }

abbrev pub TakesIn : ℕ → Tag → BrokerState → BrokerState → Type 0
TakesIn link tag old new = Queues link (TakesOne link tag) old new

abbrev pub TakesSettledIn : ℕ → BrokerState → BrokerState → Type 0
TakesSettledIn link old new = Queues link (TakesFirst link) old new

-- ---- an outcome returns

-- the state with which a delivery is settled whose message was sent on with this outcome: released, unless that is terminal
abbrev pub state_for : OutcomeSeen → DeliveryState
state_for (Ok (Some state)) = if is_terminal state then state else Released
state_for _ = Released

-- whether the message with this number is the last that was taken in under its tag, and has no outcome yet
abbrev pub awaits : ℕ → Option Progress → Bool
awaits number (Some (progress.Pending last)) = last == number
awaits number _ = false

-- The incoming link once the outcome of a message has returned: the delivery from which it came has that outcome, unless a later
-- one of the same tag was taken in.
abbrev pub carried_at : Option Tag → ℕ → DeliveryState → IncomingState → IncomingState
carried_at None number state s = s
carried_at (Some tag) number state s =
    if awaits number (entry_at s.messages tag)
    then record s { messages = set_value (bytes_eq tag) s.messages (progress.Ended state) }
    else s

abbrev pub carried_by : Origin → DeliveryState → IncomingState → IncomingState
carried_by origin state s = carried_at origin.tag origin.number state s

-- all incoming links then
abbrev pub returned_to : Origin → DeliveryState → List IncomingState → List IncomingState
returned_to origin state incoming =
    option_map_or (λ s. slice_set incoming origin.link (carried_by origin state s)) (slice_get incoming origin.link) incoming

abbrev pub returned_if : Option Origin → DeliveryState → List IncomingState → List IncomingState
returned_if None state incoming = incoming
returned_if (Some origin) state incoming = returned_to origin state incoming

-- where the message came from whose delivery has this tag on an outgoing link
abbrev pub origin_at : ℕ → Tag → List OutgoingState → Option Origin
origin_at link tag outgoing = option_and_then (λ o. entry_at o.under_way tag) (slice_get outgoing link)

-- it is under way there no longer
abbrev pub left_by : ℕ → Tag → List OutgoingState → List OutgoingState
left_by link tag outgoing =
    option_map_or (λ o. slice_set outgoing link (record o { under_way = without_entry o.under_way tag })) (slice_get outgoing link) outgoing

-- The delivery with this tag has this outcome on an outgoing link: its message is under way no longer, and the delivery from
-- which it came has that outcome.
abbrev pub returned : ℕ → Tag → OutcomeSeen → BrokerState → BrokerState
returned link tag outcome b = record b {
  incoming = returned_if (origin_at link tag b.outgoing) (state_for outcome) b.incoming;
  outgoing = left_by link tag b.outgoing;
}

-- the broker with an outgoing link in another state
abbrev pub with_outgoing : ℕ → OutgoingState → BrokerState → BrokerState
with_outgoing link o b = record b { outgoing = slice_set b.outgoing link o }

-- the ledger once it has taken its peer's disposition
abbrev pub disposed_by_peer : Bool → Option DeliveryState → Tag → Ledger Target → Ledger Target
disposed_by_peer settled state tag ledger = record {
  link = record ledger.link { unsettled = map_after_receiver_disposition settled state tag ledger.link.unsettled };
  records = after (Resolves (option_to_list (ended_by settled state tag ledger.link.unsettled))) ledger.records;
}

-- an outgoing link has taken it: whether it asks for an answer, and the outcome, if it ends the delivery
pub record DisposesAt (link : ℕ) (settled : Bool) (state : Option DeliveryState) (tag : Tag) (old : List OutgoingState)
    (echo : Bool) (outcome : Option Ended) (new : List OutgoingState) : Type 0 where
  pub before : OutgoingState
  pub is : slice_get old link ≡ Some before
  pub echo_is : echo ≡ is_echoed settled before.ledger.link.rcv_settle_mode
  pub outcome_is : outcome ≡ ended_by settled state tag before.ledger.link.unsettled
  pub link_is : new ≡ slice_set old link (record before { ledger = disposed_by_peer settled state tag before.ledger })

-- where the outcome returns, if there is one
abbrev pub origin_of : Option Ended → ℕ → Tag → List OutgoingState → Option Origin
origin_of None link tag outgoing = None
origin_of (Some ended) link tag outgoing = origin_at link tag outgoing

abbrev pub returned_of : Option Ended → ℕ → Tag → BrokerState → BrokerState
returned_of None link tag b = b
returned_of (Some ended) link tag b = returned link tag ended.1 b

-- The broker has taken it: the outcome returns.
pub record Disposes (link : ℕ) (settled : Bool) (state : Option DeliveryState) (tag : Tag) (old : BrokerState)
    (echo : Bool) (origin : Option Origin) (new : BrokerState) : Type 0 where
  pub outcome : Option Ended
  pub outgoing : List OutgoingState
  pub takes : DisposesAt link settled state tag old.outgoing echo outcome outgoing
  pub origin_is : origin ≡ origin_of outcome link tag outgoing
  pub broker : new ≡ returned_of outcome link tag (record old { outgoing = outgoing })

-- the outcome of a delivery whose message was taken in, if it is known
abbrev pub ended_in : Option Progress → Option DeliveryState
ended_in (Some (progress.Ended state)) = Some state
ended_in _ = None

abbrev pub outcome_known : Tag → IncomingState → Option DeliveryState
outcome_known tag s = ended_in (entry_at s.messages tag)

-- the broker with an incoming link in another state
abbrev pub with_incoming : ℕ → IncomingState → BrokerState → BrokerState
with_incoming link s b = record b { incoming = slice_set b.incoming link s }

-- an incoming link without what became of the message under this tag
abbrev pub without_message : Tag → IncomingState → IncomingState
without_message tag s = record s { messages = without_entry s.messages tag }

-- once its disposition has settled a delivery
abbrev pub settled_on : Tag → DeliveryState → IncomingState → IncomingState
settled_on tag state s = record (without_message tag s) { inbox = disposed true state tag s.inbox }

-- what a refused `settle` leaves of it: nothing of a delivery that its inbox does not keep
abbrev pub left_unsettled : DisposeError → Tag → IncomingState → IncomingState
left_unsettled dispose.UnknownTag tag s = without_message tag s
left_unsettled error tag s = s

-- ---- a message is sent on

-- what a link is asked to send of it: unsettled where its mode lets it
abbrev pub sent_as : Message → Delivery
sent_as message = delivery_of message.message_format (Some false) None false

-- what is under way once it is sent, and where it came from, if it was sent settled
abbrev pub under_way_with : Settlement → Origin → Entries Origin → Entries Origin
under_way_with (settlement.Unsettled tag) origin under_way = with_entry under_way tag origin
under_way_with (settlement.Settled tag) origin under_way = under_way

abbrev pub done_by : Settlement → Origin → Option Origin
done_by (settlement.Unsettled tag) origin = None
done_by (settlement.Settled tag) origin = Some origin

-- whether what an exchange has ended or left is not all returned, resumed or put back
abbrev pub is_resuming : OutgoingState → Bool
is_resuming o = not (length o.ended == 0) || not (length o.resuming == 0)

-- its tests: that no message is under way under its tag, and then those of the link
abbrev pub message_tests : OutgoingState → Message → List (Bool × SendStop)
message_tests o message =
    (is_some (entry_at o.under_way (next_tag o.ledger.link)), refused TagPending)
    ∷ payload_tests o.ledger.link (sent_as message) message.payload

-- An outgoing link sends a message: it takes one credit, and is under way there.
pub record SendsOn (old : OutgoingState) (message : Message) (frames : List LinkFrame) (done : Option Origin) (new : OutgoingState) : Type 0 where
  pub accepted : refusal (message_tests old message) ≡ None
  pub settlement : Settlement
  pub sent : IsSomeAnd old.ledger.link.output_handle (λ handle.
      SendsPayload old.ledger.link handle (sent_as message) message.payload settlement frames new.ledger.link)
  pub records : new.ledger.records ≡ after_settlement settlement old.ledger.records
  pub rest : new ≡ record old { ledger = new.ledger; under_way = under_way_with settlement message.origin old.under_way }
  pub done_is : done ≡ done_by settlement message.origin

-- the same on the link with this number
pub record SendsAt (link : ℕ) (old : List OutgoingState) (message : Message) (frames : List LinkFrame) (done : Option Origin) (new : List OutgoingState) : Type 0 where
  pub before : OutgoingState
  pub after_it : OutgoingState
  pub is : slice_get old link ≡ Some before
  pub sends : SendsOn before message frames done after_it
  pub link_is : new ≡ slice_set old link after_it

-- The first message of the queue is sent on an outgoing link. If it is sent settled, its delivery is accepted.
pub record SendsFirst (link : ℕ) (old : BrokerState) (frames : List LinkFrame) (done : Option Origin) (new : BrokerState) : Type 0 where
  pub message : Message
  pub first : old.queue ≡ message ∷ new.queue
  pub sends : SendsAt link old.outgoing message frames done new.outgoing
  pub broker : new ≡ record old {
    queue = new.queue;
    incoming = returned_if done Accepted old.incoming;
    outgoing = new.outgoing;
  }

-- why it is not sent: by its tests; out of memory may come before any
abbrev pub StopsSend : Option LinkStateError → List (Bool × SendStop) → Type 0
StopsSend None tests = refusal tests ≡ Some missing_credit
StopsSend (Some error) tests = (error ≡ OutOfMemory) ⊎ (refusal tests ≡ Some (refused error))

abbrev pub IsResuming : Option OutgoingState → Type 0
IsResuming None = ⊥
IsResuming (Some o) = is_resuming o ≡ true

-- a message waits until what the last exchange has left is done
abbrev pub StopsLink : Option LinkStateError → Option OutgoingState → Message → Type 0
StopsLink why None message = ⊥
StopsLink why (Some o) message = (is_resuming o ≡ false) × StopsSend why (message_tests o message)

abbrev pub Stops : Option SendError → Option OutgoingState → Message → Type 0
Stops None o message = StopsLink None o message
Stops (Some send.NoSuchLink) o message = o ≡ None
Stops (Some send.StillResuming) o message = IsResuming o
Stops (Some (send.Link error)) o message = StopsLink (Some error) o message

-- the same of the first message of the queue; without one only a link that there is not stops it
abbrev pub StopsFirst : Option SendError → Option OutgoingState → List Message → Type 0
StopsFirst why o (message ∷ queue) = Stops why o message
StopsFirst (Some send.NoSuchLink) o [] = o ≡ None
StopsFirst why o [] = ⊥

-- the answer of a broker that is asked to send its first message on an outgoing link
abbrev pub Forwards : ℕ → BrokerState → Result Forwarded SendError → BrokerState → Type 0
Forwards link old (Ok (forwarded.Sent frames)) new = SendsFirst link old frames.items None new
Forwards link old (Ok (forwarded.Done frames origin)) new = SendsFirst link old frames.items (Some origin) new
Forwards link old (Ok forwarded.CreditMissing) new = (new ≡ old) × StopsFirst None (slice_get old.outgoing link) old.queue
Forwards link old (Ok forwarded.NothingQueued) new = (new ≡ old) × IsSome (slice_get old.outgoing link) × (old.queue ≡ [])
Forwards link old (Err error) new = (new ≡ old) × StopsFirst (Some error) (slice_get old.outgoing link) old.queue

-- where the message came from that an answer says is done
abbrev pub done_in : Result Forwarded SendError → Option Origin
done_in (Ok (forwarded.Done frames origin)) = Some origin
done_in answer = None

-- ---- an outgoing link is attached again

-- The outgoing link once its ledger has taken the peer's attach: the outcomes of the deliveries that both attaches state as ended
-- are to return, and the others are left to be sent again.
abbrev pub attached_by : Attach → OutgoingState → OutgoingState
attached_by theirs o =
    let own = o.ledger.link.unsettled in
    let remote = remote_entries theirs in
    record o {
      ledger = ledger_taken plain_target o.ledger theirs;
      ended = outcomes_returned own remote;
      resuming = deliveries_to_resume own remote;
      is_incomplete = is_incomplete_in (exchange_in (unwrap_or (next_of o.ledger.link.local_state theirs) o.ledger.link.local_state) own remote);
    }

-- the link once its attach was sent, by whether it is reattached: then its deliveries have ended
abbrev pub attaching : Bool → LinkState → OutgoingState → OutgoingState
attaching anew next o = record o {
  ledger = ledger_attached o.ledger anew next;
  ended = if anew then all_illegal o.ledger.link.unsettled else [];
}

-- whether it is put back although it is to be resumed: it is listed to be sent whole by an exchange that did not state all
abbrev pub is_kept_back : Bool → ResumingDelivery → Bool
is_kept_back true (next.Resend entry) = true
is_kept_back _ _ = false

-- the first that is left is taken from the list, and this is done of it
pub record TakesNext (is_sent : Bool) (old : OutgoingState) (what : Step) (new : OutgoingState) : Type 0 where
  pub tag : Tag
  pub next_is : ResumingDelivery
  pub first : old.resuming ≡ (tag, next_is) ∷ new.resuming
  pub none_ended : old.ended ≡ []
  pub rest : new ≡ record old { ledger = new.ledger; resuming = new.resuming }
  pub does : DoesOf (is_sent && not (is_kept_back old.is_incomplete next_is)) tag next_is old.ledger new.ledger what

-- why it stays the first
abbrev pub StopsFirstOf : Bool → LinkStateError → Entries ResumingDelivery → OutgoingState → Type 0
StopsFirstOf is_sent why [] o = ⊥
StopsFirstOf is_sent why (first ∷ rest) o =
    StopsStep why (step_tests (is_sent && not (is_kept_back o.is_incomplete first.1)) first.0 first.1 o.ledger.link)

abbrev pub StopsNext : Bool → LinkStateError → OutgoingState → Type 0
StopsNext is_sent why o = (o.ended ≡ []) × StopsFirstOf is_sent why o.resuming o

-- the first that has ended is taken
pub record TakesEnded (old : OutgoingState) (tag : Tag) (outcome : OutcomeSeen) (new : OutgoingState) : Type 0 where
  pub first : old.ended ≡ (tag, outcome) ∷ new.ended
  pub rest : new ≡ record old { ended = new.ended }

abbrev pub StepsBy : Bool → OutgoingState → Step → OutgoingState → Type 0
StepsBy is_sent old step.Nothing new = (is_resuming old ≡ false) × (new ≡ old)
StepsBy is_sent old (step.Ended tag outcome) new = TakesEnded old tag outcome new ⊎ TakesNext is_sent old (step.Ended tag outcome) new
StepsBy is_sent old what new = TakesNext is_sent old what new

-- the outgoing link with this number takes a step
pub record MovesAt (link : ℕ) (Does : OutgoingState → OutgoingState → Type 0) (old new : List OutgoingState) : Type 0 where
  pub before : OutgoingState
  pub after_it : OutgoingState
  pub is : slice_get old link ≡ Some before
  pub does : Does before after_it
  pub link_is : new ≡ slice_set old link after_it

abbrev pub NothingIsLeft : Option OutgoingState → Type 0
NothingIsLeft None = ⊥
NothingIsLeft (Some o) = is_resuming o ≡ false

abbrev pub StepsAt : ℕ → Bool → List OutgoingState → Step → List OutgoingState → Type 0
StepsAt link is_sent old step.Nothing new = (new ≡ old) × NothingIsLeft (slice_get old link)
StepsAt link is_sent old what new = MovesAt link (λ o o'. StepsBy is_sent o what o') old new

-- The same of a broker: where an outcome comes of it, that returns.
pub record Steps (link : ℕ) (is_sent : Bool) (what : Step) (old new : BrokerState) : Type 0 where
  pub outgoing : List OutgoingState
  pub steps : StepsAt link is_sent old.outgoing what outgoing
  pub broker : new ≡ record old { outgoing = outgoing }

pub record StepsReturning (link : ℕ) (is_sent : Bool) (what : Step) (tag : Tag) (outcome : OutcomeSeen) (origin : Option Origin)
    (old new : BrokerState) : Type 0 where
  pub outgoing : List OutgoingState
  pub steps : StepsAt link is_sent old.outgoing what outgoing
  pub origin_is : origin ≡ origin_at link tag outgoing
  pub broker : new ≡ returned link tag outcome (record old { outgoing = outgoing })

-- the answer of a broker that is asked to resume the next delivery of an outgoing link, or to keep it for the next attach
abbrev pub Resumes : Bool → ℕ → BrokerState → Result Resumed SendError → BrokerState → Type 0
Resumes is_sent link old (Ok (resumed.Sent frames)) new = Steps link is_sent (step.Sent frames) old new
Resumes is_sent link old (Ok (resumed.Aborted frame origin)) new =
    (tag : Tag) × StepsReturning link is_sent (step.Aborted frame tag) tag (Ok None) origin old new
Resumes is_sent link old (Ok (resumed.Ended origin)) new =
    (tag : Tag) × (outcome : OutcomeSeen) × StepsReturning link is_sent (step.Ended tag outcome) tag outcome origin old new
Resumes is_sent link old (Ok resumed.PutBack) new = Steps link is_sent step.PutBack old new
Resumes is_sent link old (Ok resumed.Nothing) new = (new ≡ old) × NothingIsLeft (slice_get old.outgoing link)
Resumes is_sent link old (Err send.NoSuchLink) new = (new ≡ old) × (slice_get old.outgoing link ≡ None)
Resumes is_sent link old (Err send.StillResuming) new = ⊥
Resumes is_sent link old (Err (send.Link error)) new =
    (new ≡ old) × IsSomeAnd (slice_get old.outgoing link) (λ o. StopsNext is_sent error o)

-- where the message came from that an answer says is done
abbrev pub ended_by_step : Result Resumed SendError → Option Origin
ended_by_step (Ok (resumed.Aborted frame origin)) = origin
ended_by_step (Ok (resumed.Ended origin)) = origin
ended_by_step answer = None

-- ---- where the messages are

-- What is counted of the messages that are queued and under way: f says how much one counts, by where it came from.
abbrev pub sum_under_way : (Origin → ℕ) → OutgoingState → ℕ
sum_under_way f o = sum_by (λ e. f e.1) o.under_way

abbrev pub sum_of_messages : (Origin → ℕ) → BrokerState → ℕ
sum_of_messages f b = sum_by (λ m. f m.origin) b.queue + sum_by (sum_under_way f) b.outgoing

-- what the message counts that is there no longer
abbrev pub counted : (Origin → ℕ) → Option Origin → ℕ
counted f gone = option_map_or f gone 0
