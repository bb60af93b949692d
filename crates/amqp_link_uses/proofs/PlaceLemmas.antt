-- What a call of a broker does to its messages and to the credit of its links, for any count of the messages.
use Rattle.std.proofs.Common.{◌≡◌, ◌∙◌, ◌+◌, ◌-◌, ◌≤◌, arith, ap, length, refl, subst, sym, Bool, true, false, ℕ, List, [], ◌∷◌, Option, Some, None, Result, Ok, Err, inl, inr}
use Rattle.std.specs.Prelude.{IsSomeAnd, is_some, option_and_then, slice_get, slice_set, sum_by, if◌then◌else◌}
use Rattle.std.specs.Map.{set_value}
use Rattle.std.specs.Option.{option_map_or}
use Rattle.std.specs.Str.{bytes_eq}
use Rattle.std.proofs.lemmas.Bool.{true≢false}
use Rattle.std.proofs.lemmas.List.Sums.{sum_by-cons, sum_by_push}
use Rattle.std.proofs.lemmas.Option.{none-some}
use Rattle.amqp_link.specs.Deliveries.{Ended}
use Rattle.amqp_link.specs.Entries.{Tag, Entries, entry_at, with_entry, without_entry}
use Rattle.amqp_link.specs.Refusals.{refusal}
use Rattle.amqp_link.specs.Senders.{Sender, SendsPayload, next_tag, payload_tests, refused, settled_by_mode, settlement_of}
use Rattle.amqp_link.specs.declared.delivery.Settlement.{Settlement}
use Rattle.amqp_link.specs.declared.errors.LinkStateError.TheVariants.{TagPending}
use Rattle.amqp_link.specs.declared.frame.LinkFrame.{LinkFrame}
use Rattle.amqp_link.specs.declared.types.DeliveryState.{DeliveryState}
use Rattle.amqp_link.specs.declared.types.DeliveryState.TheVariants.{Accepted}
use Rattle.amqp_link.specs.declared.types.OutputHandle.{OutputHandle}
use Rattle.amqp_link.specs.declared.types.Target.{Target}
use Rattle.amqp_link_uses.specs.Brokers.{BrokerState, Disposes, Forwards, IncomingState, MovesAt, OutcomeSeen, OutgoingState, Queues, Resumes, SendsFirst, SendsOn, StepsAt, StepsBy, TakesFirst, TakesIn, TakesOne, TakesSettledIn, awaits, carried_at, carried_by, claimed, counted, credit_of, done_by, done_in, ended_by_step, free, granted, held, left_by, message_tests, occupied, origin_at, origin_of, returned, returned_if, returned_of, returned_to, sent_as, state_for, sum_of_messages, sum_under_way, under_way_with, with_incoming, with_outgoing}
use Rattle.amqp_link_uses.specs.declared.broker.Forwarded.{Forwarded}
use Rattle.amqp_link_uses.specs.declared.broker.Forwarded.TheVariants as forwarded
use Rattle.amqp_link_uses.specs.declared.broker.Message.{Message}
use Rattle.amqp_link_uses.specs.declared.broker.Origin.{Origin}
use Rattle.amqp_link_uses.specs.declared.broker.errors.SendError.{SendError}
use Rattle.amqp_link_uses.specs.declared.broker.errors.SendError.TheVariants as send
use Rattle.amqp_link_uses.specs.declared.broker.incoming.Progress.TheVariants as progress
use Rattle.amqp_link_uses.specs.declared.broker.resuming.Resumed.{Resumed}
use Rattle.amqp_link_uses.specs.declared.broker.resuming.Resumed.TheVariants as resumed
use Rattle.amqp_link.specs.declared.resumption.Step.{Step}
use Rattle.amqp_link.specs.declared.resumption.Step.TheVariants as step
use Rattle.amqp_link_uses.proofs.SumLemmas.{sum_by_less, sum_by_same, sum_by_written, sum_of_ones, sum_put, sum_taken}

-- The same messages are there but for one that is done, and the same credit.
pub record Keeps (gone : Option Origin) (old new : BrokerState) : Type 0 where
  pub messages : (f : Origin → ℕ) → sum_of_messages f new + counted f gone ≡ sum_of_messages f old
  pub credit : sum_by credit_of new.incoming ≡ sum_by credit_of old.incoming

-- each message counts one
held_is : (b : BrokerState) → sum_of_messages (λ o. 1) b ≡ held b
held_is b = omega (
  arith,
  sum_of_ones b.queue,
  sum_by_same (sum_under_way (λ o. 1)) (λ o. length o.under_way) b.outgoing (λ o. sum_of_ones o.under_way),
)

pub room_kept : (origin : Option Origin) (old new : BrokerState) → Keeps origin old new → occupied new ≤ occupied old
room_kept origin old new k = omega (arith, k.messages (λ o. 1), held_is old, held_is new, k.credit)

same : (old new : BrokerState) → new ≡ old → Keeps None old new
same old new is = record {
  messages = λ f. omega (arith, ap (sum_of_messages f) is);
  credit = ap (λ b. sum_by credit_of b.incoming) is;
}

after_same : (origin : Option Origin) (a b c : BrokerState) → Keeps None a b → Keeps origin b c → Keeps origin a c
after_same origin a b c first second = record {
  messages = λ f. omega (arith, first.messages f, second.messages f);
  credit = second.credit ∙ first.credit;
}

-- ---- incoming links

same_credit : (incoming : List IncomingState) (link : ℕ) (s t : IncomingState) → slice_get incoming link ≡ Some s → credit_of t ≡ credit_of s
    → sum_by credit_of (slice_set incoming link t) ≡ sum_by credit_of incoming
same_credit incoming link s t is equal = omega (arith, sum_by_written credit_of incoming link s t is, equal)

carried_at_keeps : (tag : Option Tag) (number : ℕ) (state : DeliveryState) (s : IncomingState) → credit_of (carried_at tag number state s) ≡ credit_of s
carried_at_keeps None number state s = refl
carried_at_keeps (Some tag) number state s =
    elim (awaits number (entry_at s.messages tag)) as (λ b. credit_of (if b then record s { messages = set_value (bytes_eq tag) s.messages (progress.Ended state) } else s) ≡ credit_of s) [
      | true ↦ refl
      | false ↦ refl
    ]

returned_to_keeps : (origin : Origin) (state : DeliveryState) (incoming : List IncomingState)
    → sum_by credit_of (returned_to origin state incoming) ≡ sum_by credit_of incoming
returned_to_keeps origin state incoming =
    elim (slice_get incoming origin.link) as (λ g. slice_get incoming origin.link ≡ g
    → sum_by credit_of (option_map_or (λ s. slice_set incoming origin.link (carried_by origin state s)) g incoming) ≡ sum_by credit_of incoming) [
      | None ↦ λ is. refl
      | Some s ↦ λ is. same_credit incoming origin.link s (carried_by origin state s) is (carried_at_keeps origin.tag origin.number state s)
    ] refl

returned_if_keeps : (origin : Option Origin) (state : DeliveryState) (incoming : List IncomingState)
    → sum_by credit_of (returned_if origin state incoming) ≡ sum_by credit_of incoming
returned_if_keeps None state incoming = refl
returned_if_keeps (Some origin) state incoming = returned_to_keeps origin state incoming

-- credit is stated within what is free
pub granted_within : (link more : ℕ) (s : IncomingState) (b : BrokerState) → slice_get b.incoming link ≡ Some s → more ≤ free b → occupied b ≤ b.room
    → occupied (with_incoming link (granted more s) b) ≤ b.room
granted_within link more s b is small within =
    let claims : sum_by credit_of b.incoming ≤ sum_by claimed b.incoming = sum_by_less credit_of claimed b.incoming (λ t. omega arith) in
    omega (arith, sum_by_written credit_of b.incoming link s (granted more s) is, claims, small, within)

-- a delivery is settled, or its outcome is dropped
pub settled_there : (link : ℕ) (s t : IncomingState) (b : BrokerState) → slice_get b.incoming link ≡ Some s → credit_of t ≡ credit_of s
    → Keeps None b (with_incoming link t b)
settled_there link s t b is equal = record {
  messages = λ f. omega arith;
  credit = same_credit b.incoming link s t is equal;
}

-- ---- a message is taken in

-- one more message, and the same credit
pub record Gains (origin : Origin) (old new : BrokerState) : Type 0 where
  pub messages : (f : Origin → ℕ) → sum_of_messages f new ≡ sum_of_messages f old + f origin
  pub credit : sum_by credit_of new.incoming ≡ sum_by credit_of old.incoming

pub room_taken : (origin : Origin) (old new : BrokerState) → Gains origin old new → occupied new ≡ occupied old + 1
room_taken origin old new g = omega (arith, g.messages (λ o. 1), held_is old, held_is new, g.credit)

by_queueing : (link : ℕ) (origin : Origin) (Takes : ℕ → IncomingState → Message → IncomingState → Type 0) (old new : BrokerState)
    → ((s : IncomingState) (m : Message) (t : IncomingState) → Takes old.next_number s m t → (credit_of t ≡ credit_of s) × (m.origin ≡ origin))
    → Queues link Takes old new → Gains origin old new
by_queueing link origin Takes old new does q =
    let t = q.takes in
    let one = does t.from q.message t.to t.takes in
    record {
      messages = λ f. omega (
        arith,
        ap (λ b. sum_by (λ m. f m.origin) b.queue) q.broker,
        sum_by_push (λ m. f m.origin) old.queue q.message,
        ap f one.1,
        ap (λ b. sum_by (sum_under_way f) b.outgoing) q.broker,
      );
      credit = ap (λ l. sum_by credit_of l) t.link_is ∙ same_credit old.incoming link t.from t.to t.is one.0;
    }

pub taken_in : (link : ℕ) (tag : Tag) (old new : BrokerState) → TakesIn link tag old new
    → Gains (record { link = link; tag = Some tag; number = old.next_number }) old new
taken_in link tag old new q =
    by_queueing link (record { link = link; tag = Some tag; number = old.next_number }) (TakesOne link tag) old new
    (λ s m t one. (ap credit_of one.link_is, ap (λ x. x.origin) one.message_is)) q

pub taken_settled_in : (link : ℕ) (old new : BrokerState) → TakesSettledIn link old new
    → Gains (record { link = link; tag = None; number = old.next_number }) old new
taken_settled_in link old new q =
    by_queueing link (record { link = link; tag = None; number = old.next_number }) (TakesFirst link) old new
    (λ s m t one. (ap credit_of one.link_is, ap (λ x. x.origin) one.message_is)) q

-- ---- a message is sent on

not_refused : {E : Type 0} (b : Bool) (e : E) (rest : List (Bool × E)) → refusal ((b, e) ∷ rest) ≡ None → b ≡ false
not_refused true e rest is = absurd (none-some e (sym is))
not_refused false e rest is = refl

absent : {A : Type 0} (o : Option A) → is_some o ≡ false → o ≡ None
absent None is = refl
absent (Some a) is = absurd (true≢false is)

answered : (handle : Option OutputHandle) (old new : Sender Target) (m : Message) (settlement : Settlement) (frames : List LinkFrame)
    → IsSomeAnd handle (λ h. SendsPayload old h (sent_as m) m.payload settlement frames new)
    → settlement ≡ settlement_of (settled_by_mode old.snd_settle_mode (Some false)) (next_tag old)
answered None old new m settlement frames given = absurd given
answered (Some h) old new m settlement frames given = given.answered

by_mode : (f : Origin → ℕ) (settled : Bool) (tag : Tag) (origin : Origin) (under_way : Entries Origin) → entry_at under_way tag ≡ None
    → sum_by (λ e. f e.1) (under_way_with (settlement_of settled tag) origin under_way) + counted f (done_by (settlement_of settled tag) origin)
    ≡ sum_by (λ e. f e.1) under_way + f origin
by_mode f true tag origin under_way is = refl
by_mode f false tag origin under_way is = omega (arith, sum_put f bytes_eq under_way tag origin is)

entered : (f : Origin → ℕ) (o : OutgoingState) (m : Message) (frames : List LinkFrame) (ended : Option Origin) (p : OutgoingState) → SendsOn o m frames ended p
    → sum_under_way f p + counted f ended ≡ sum_under_way f o + f m.origin
entered f o m frames ended p s =
    let link = o.ledger.link in
    let settled = settled_by_mode link.snd_settle_mode (Some false) in
    let is = answered link.output_handle link p.ledger.link m s.settlement frames s.sent in
    let lacks = absent (entry_at o.under_way (next_tag link)) (not_refused (is_some (entry_at o.under_way (next_tag link))) (refused TagPending) (payload_tests link (sent_as m) m.payload) s.accepted) in
    omega (
      arith,
      ap (sum_under_way f) s.rest,
      ap (counted f) s.done_is,
      ap (λ x. sum_by (λ e. f e.1) (under_way_with x m.origin o.under_way)) is,
      ap (λ x. counted f (done_by x m.origin)) is,
      by_mode f settled (next_tag link) m.origin o.under_way lacks,
    )

sent_first : (link : ℕ) (old : BrokerState) (frames : List LinkFrame) (gone : Option Origin) (new : BrokerState)
    → SendsFirst link old frames gone new → Keeps gone old new
sent_first link old frames gone new s =
    let t = s.sends in
    record {
      messages = λ f. omega (
        arith,
        ap (λ q. sum_by (λ m. f m.origin) q) s.first,
        sum_by-cons (λ m. f m.origin) s.message new.queue,
        ap (λ l. sum_by (sum_under_way f) l) t.link_is,
        sum_by_written (sum_under_way f) old.outgoing link t.before t.after_it t.is,
        entered f t.before s.message frames gone t.after_it t.sends,
      );
      credit = ap (λ b. sum_by credit_of b.incoming) s.broker ∙ returned_if_keeps gone Accepted old.incoming;
    }

pub sent_on : (link : ℕ) (old : BrokerState) (result : Result Forwarded SendError) (new : BrokerState)
    → Forwards link old result new → Keeps (done_in result) old new
sent_on link old (Ok (forwarded.Sent frames)) new s = sent_first link old frames.items None new s
sent_on link old (Ok (forwarded.Done frames origin)) new s = sent_first link old frames.items (Some origin) new s
sent_on link old (Ok forwarded.CreditMissing) new s = same old new s.0
sent_on link old (Ok forwarded.NothingQueued) new s = same old new s.0
sent_on link old (Err error) new s = same old new s.0

-- ---- an outcome returns

left_by_sum : (f : Origin → ℕ) (link : ℕ) (tag : Tag) (outgoing : List OutgoingState)
    → sum_by (sum_under_way f) (left_by link tag outgoing) + counted f (origin_at link tag outgoing) ≡ sum_by (sum_under_way f) outgoing
left_by_sum f link tag outgoing =
    elim (slice_get outgoing link) as (λ g. slice_get outgoing link ≡ g
    → sum_by (sum_under_way f) (option_map_or (λ o. slice_set outgoing link (record o { under_way = without_entry o.under_way tag })) g outgoing)
    + counted f (option_and_then (λ o. entry_at o.under_way tag) g) ≡ sum_by (sum_under_way f) outgoing) [
      | None ↦ λ is. omega arith
      | Some o ↦ λ is. omega (
        arith,
        sum_by_written (sum_under_way f) outgoing link o (record o { under_way = without_entry o.under_way tag }) is,
        sum_taken f (bytes_eq tag) o.under_way,
      )
    ] refl

pub outcome_returns : (link : ℕ) (tag : Tag) (outcome : OutcomeSeen) (b : BrokerState)
    → Keeps (origin_at link tag b.outgoing) b (returned link tag outcome b)
outcome_returns link tag outcome b = record {
  messages = λ f. omega (arith, left_by_sum f link tag b.outgoing);
  credit = returned_if_keeps (origin_at link tag b.outgoing) (state_for outcome) b.incoming;
}

-- ---- outgoing links

pub attached_there : (link : ℕ) (o p : OutgoingState) (b : BrokerState) → slice_get b.outgoing link ≡ Some o → p.under_way ≡ o.under_way
    → Keeps None b (with_outgoing link p b)
attached_there link o p b is equal = record {
  messages = λ f. omega (arith, sum_by_written (sum_under_way f) b.outgoing link o p is, ap (λ es. sum_by (λ e. f e.1) es) equal);
  credit = refl;
}

by_outcome : (link : ℕ) (tag : Tag) (b new : BrokerState) (outcome : Option Ended) → new ≡ returned_of outcome link tag b
    → Keeps (origin_of outcome link tag b.outgoing) b new
by_outcome link tag b new None is = same b new is
by_outcome link tag b new (Some ended) is =
    subst (λ c. Keeps (origin_at link tag b.outgoing) b c) (sym is) (outcome_returns link tag ended.1 b)

pub disposed_of : (link : ℕ) (settled : Bool) (state : Option DeliveryState) (tag : Tag) (old : BrokerState) (echo : Bool) (origin : Option Origin)
    (new : BrokerState) → Disposes link settled state tag old echo origin new → Keeps origin old new
disposed_of link settled state tag old echo origin new d =
    let t = d.takes in
    let between : BrokerState = record old { outgoing = d.outgoing } in
    let first : Keeps None old between =
    subst (λ l. Keeps None old (record old { outgoing = l })) (sym t.link_is) (attached_there link t.before _ old t.is refl) in
    subst (λ o. Keeps o old new) (sym d.origin_is)
    (after_same (origin_of d.outcome link tag d.outgoing) old between new first (by_outcome link tag between new d.outcome d.broker))

-- what an exchange has left is taken
next_taken : (is_sent : Bool) (o : OutgoingState) (what : Step) (p : OutgoingState) → StepsBy is_sent o what p → p.under_way ≡ o.under_way
next_taken is_sent o step.Nothing p h = ap (λ x. x.under_way) h.1
next_taken is_sent o (step.Ended tag outcome) p (inl h) = ap (λ x. x.under_way) h.rest
next_taken is_sent o (step.Ended tag outcome) p (inr h) = ap (λ x. x.under_way) h.rest
next_taken is_sent o (step.Sent frames) p h = ap (λ x. x.under_way) h.rest
next_taken is_sent o (step.Aborted frame tag) p h = ap (λ x. x.under_way) h.rest
next_taken is_sent o step.PutBack p h = ap (λ x. x.under_way) h.rest

moved : (link : ℕ) (is_sent : Bool) (old : BrokerState) (outgoing : List OutgoingState) (what : Step)
    → MovesAt link (λ o p. StepsBy is_sent o what p) old.outgoing outgoing → Keeps None old (record old { outgoing = outgoing })
moved link is_sent old outgoing what m = subst (λ l. Keeps None old (record old { outgoing = l })) (sym m.link_is)
    (attached_there link m.before m.after_it old m.is (next_taken is_sent m.before what m.after_it m.does))

stepped : (link : ℕ) (is_sent : Bool) (old : BrokerState) (outgoing : List OutgoingState) (what : Step) → StepsAt link is_sent old.outgoing what outgoing
    → Keeps None old (record old { outgoing = outgoing })
stepped link is_sent old outgoing step.Nothing h = same old (record old { outgoing = outgoing }) (ap (λ l. record old { outgoing = l }) h.0)
stepped link is_sent old outgoing (step.Sent frames) h = moved link is_sent old outgoing (step.Sent frames) h
stepped link is_sent old outgoing (step.Aborted frame tag) h = moved link is_sent old outgoing (step.Aborted frame tag) h
stepped link is_sent old outgoing (step.Ended tag outcome) h = moved link is_sent old outgoing (step.Ended tag outcome) h
stepped link is_sent old outgoing step.PutBack h = moved link is_sent old outgoing step.PutBack h

by_step : (link : ℕ) (is_sent : Bool) (what : Step) (old new : BrokerState) (outgoing : List OutgoingState) → StepsAt link is_sent old.outgoing what outgoing
    → new ≡ record old { outgoing = outgoing } → Keeps None old new
by_step link is_sent what old new outgoing h is = subst (λ b. Keeps None old b) (sym is) (stepped link is_sent old outgoing what h)

by_returning : (link : ℕ) (is_sent : Bool) (what : Step) (tag : Tag) (outcome : OutcomeSeen) (origin : Option Origin) (old new : BrokerState)
    (outgoing : List OutgoingState) → StepsAt link is_sent old.outgoing what outgoing → origin ≡ origin_at link tag outgoing
    → new ≡ returned link tag outcome (record old { outgoing = outgoing }) → Keeps origin old new
by_returning link is_sent what tag outcome origin old new outgoing h origin_is is =
    let between : BrokerState = record old { outgoing = outgoing } in
    subst (λ b. Keeps origin old b) (sym is) (subst (λ o. Keeps o old (returned link tag outcome between)) (sym origin_is)
    (after_same (origin_at link tag outgoing) old between (returned link tag outcome between) (stepped link is_sent old outgoing what h)
    (outcome_returns link tag outcome between)))

pub resumed_there : (is_sent : Bool) (link : ℕ) (old : BrokerState) (result : Result Resumed SendError) (new : BrokerState)
    → Resumes is_sent link old result new → Keeps (ended_by_step result) old new
resumed_there is_sent link old (Ok (resumed.Sent frames)) new s = by_step link is_sent (step.Sent frames) old new s.outgoing s.steps s.broker
resumed_there is_sent link old (Ok (resumed.Aborted frame origin)) new (tag, s) =
    by_returning link is_sent (step.Aborted frame tag) tag (Ok None) origin old new s.outgoing s.steps s.origin_is s.broker
resumed_there is_sent link old (Ok (resumed.Ended origin)) new (tag, outcome, s) =
    by_returning link is_sent (step.Ended tag outcome) tag outcome origin old new s.outgoing s.steps s.origin_is s.broker
resumed_there is_sent link old (Ok resumed.PutBack) new s = by_step link is_sent step.PutBack old new s.outgoing s.steps s.broker
resumed_there is_sent link old (Ok resumed.Nothing) new s = same old new s.0
resumed_there is_sent link old (Err send.NoSuchLink) new s = same old new s.0
resumed_there is_sent link old (Err send.StillResuming) new s = absurd s
resumed_there is_sent link old (Err (send.Link error)) new s = same old new s.0
