-- The steps of an attach at both endpoints are those of a pair.
use Rattle.std.proofs.Common.{◌≡◌, ◌∙◌, sym, ap, subst, Bool, true, false, cond, List, [], ◌∷◌, refl, ℕ, suc, ◌/◌, ◌≤◌, ◌⊎◌, inl, inr, nat_le, nat_lt, ◌==◌, ◌||◌, not, length, take, arith, ◌^◌}
use Rattle.std.specs.Prelude.{Option, Some, None, unwrap_or, ◌&&◌}
use Rattle.std.specs.List.{AllByRecursion}
use Rattle.std.proofs.lemmas.Bool.Decides.{nat_tests}
use Rattle.amqp_link_types.specs.Entries.{Entries}
use Rattle.amqp_link_types.specs.Refusals.{refusal}
use Rattle.amqp_link_types.specs.Unsettled.{states_of}
use Rattle.amqp_link_types.specs.declared.delivery.UnsettledMessage.{UnsettledMessage}
use Rattle.amqp_link_types.specs.declared.types.attach.Attach.{Attach}
use Rattle.amqp_link_types.specs.declared.types.definitions.InputHandle.{InputHandle}
use Rattle.amqp_link_types.specs.declared.types.definitions.OutputHandle.{OutputHandle}
use Rattle.amqp_link_types.specs.declared.types.terminus.Target.{Target}
use Rattle.amqp_link_types.specs.declared.types.terminus.TargetArchetype.TheVariants as archetype
use Rattle.amqp_link_types.proofs.MapLemmas.{false_is_not_true}
use Rattle.amqp_link_state.specs.declared.state.LinkState.{LinkState}
use Rattle.amqp_link_state.specs.declared.state.LinkState.TheVariants as state
use Rattle.amqp_link_endpoint.specs.Attaching.{FitsFrame, States, with_entries}
use Rattle.amqp_link_endpoint.specs.LinkStates.{Call, next_state}
use Rattle.amqp_link_endpoint.specs.Shown.{attach_stated, count_stated, counted_attach}
use Rattle.amqp_link_exchange.specs.Exchanges.{deliveries_to_resume}
use Rattle.amqp_link_sender.specs.SenderAttaches.{sender_shown, exchange_in}
use Rattle.amqp_link_sender.specs.declared.sender_link.incoming.SenderAttachExchange.TheVariants as exchange
use Rattle.amqp_link_sender.specs.Senders.{Sender}
use Rattle.amqp_link_receiver.specs.ReceiverAttaches.{receiver_shown}
use Rattle.amqp_link_receiver.specs.Receivers.{Receiver}
use Rattle.amqp_link_worlds.specs.Attachable.{list_in, sender_at_limit, attach_asked, attach_answered, CanAsk, CanTakeAsked, CanAnswer, CanTakeAnswered}
use Rattle.amqp_link_worlds.specs.Invariants.{IsWorld, IsPlainSender, IsPlainReceiver, AreApart, AreHalfway, AreEnds, HasTaken, IsOnWay}
use Rattle.amqp_link_worlds.specs.Steps.{zero_output, new_sender, new_receiver, sender_asking, receiver_at_limit, receiver_half_attached, receiver_together, fits, attaches_fit, attach_tests, list_to_resume, after_attach, halfway_at, later, receiver_at, AttachStop, Asked, Taken, Answered, Attaches, StopsAt}
use Rattle.amqp_link_worlds.specs.Worlds.{World, Phase, Apart, Halfway, Together, is_together}
use Rattle.amqp_link_worlds.specs.declared.error.PairError.TheVariants as error
use Rattle.amqp_link_worlds.proofs.DeliveryLemmas.{none_of_three}
use Rattle.amqp_link_worlds.proofs.WorldLemmas.{none_hold, not_is_false, idle_more}

-- ---- plain endpoints, by what differs

abbrev made_sender : LinkState → Option OutputHandle → Option InputHandle → ℕ → ℕ → ℕ → ℕ → Entries UnsettledMessage → Sender Target
made_sender st output input initial count credit frame unsettled = let plain = new_sender 0 in record plain {
  local_state = st;
  output_handle = output;
  input_handle = input;
  flow_state = record plain.flow_state { initial_delivery_count = initial; delivery_count = count; link_credit = credit };
  max_frame_size = frame;
  unsettled = unsettled;
}

abbrev made_receiver : LinkState → Option OutputHandle → Option InputHandle → ℕ → ℕ → ℕ → ℕ → States → Bool → Receiver Target
made_receiver st output input initial count credit frame unsettled more = let plain = new_receiver 0 in record plain {
  local_state = st;
  output_handle = output;
  input_handle = input;
  flow_state = record plain.flow_state { initial_delivery_count = initial; delivery_count = count; link_credit = credit };
  max_frame_size = frame;
  unsettled = unsettled;
  more = more;
}

abbrev plain_sender : Sender Target → Sender Target
plain_sender s = made_sender s.local_state s.output_handle s.input_handle s.flow_state.initial_delivery_count s.flow_state.delivery_count s.flow_state.link_credit s.max_frame_size s.unsettled

abbrev plain_receiver : LinkState → Receiver Target → Receiver Target
plain_receiver st r = made_receiver st r.output_handle r.input_handle r.flow_state.initial_delivery_count r.flow_state.delivery_count r.flow_state.link_credit r.max_frame_size r.unsettled r.more

-- ---- the attaches fit

both : (a b : Bool) → (a && b) ≡ true → (a ≡ true) × (b ≡ true)
both true b h = (refl, h)
both false b h = absurd (false_is_not_true h)

within_by : (n limit : ℕ) → nat_le n limit ≡ true → n ≤ limit
within_by n limit h = grind (arith, nat_tests)

second_false : (a b : Bool) → (a || not b) ≡ false → b ≡ true
second_false false b h = not_is_false b h
second_false true b h = absurd (false_is_not_true (sym h))

-- an attach without test in its way
pub attaches_do_fit : (w : World) (limit : ℕ) → refusal (attach_tests w limit) ≡ None → attaches_fit w.ledger.link w.receiver limit ≡ true
attaches_do_fit w limit may = second_false _ (attaches_fit w.ledger.link w.receiver limit) (none_hold (attach_tests w limit) may).1.1.0

asked_fits : (limit : ℕ) (s : Sender Target) (r : Receiver Target) → unwrap_or s.output_handle zero_output ≡ zero_output → attaches_fit s r limit ≡ true → FitsFrame (attach_asked s) limit
asked_fits limit s r zero h = record {
  within = within_by _ limit (ap (λ handle. fits (with_entries (counted_attach (sender_shown archetype.Target s) s.flow_state.delivery_count handle) (states_of s.unsettled) 0) limit) (sym zero) ∙ (both _ _ h).0);
}

answered_fits : (limit : ℕ) (s : Sender Target) (r : Receiver Target) → unwrap_or r.output_handle zero_output ≡ zero_output → attaches_fit s r limit ≡ true → FitsFrame (attach_answered r s.flow_state.delivery_count) limit
answered_fits limit s r zero h = record {
  within = within_by _ limit (ap (λ handle. fits (with_entries (counted_attach (receiver_shown archetype.Target r) s.flow_state.delivery_count handle) r.unsettled 0) limit) (sym zero) ∙ (both _ _ h).1);
}

-- ---- the sender's attach is sent

abbrev count_sent : Sender Target → ℕ
count_sent s = count_stated (sender_shown archetype.Target s)

module _ (limit : ℕ) (s : Sender Target) (r : Receiver Target) (ends : AreApart s r) where
  -- it states the present count
  count_is_present : count_sent (sender_at_limit limit s) ≡ s.flow_state.delivery_count
  count_is_present = elim (ends.state) [
    | inl made ↦ ap (λ st. count_sent (record (sender_at_limit limit s) { local_state = st })) made ∙ ends.counted made
    | inr detached ↦ ap (λ st. count_sent (record (sender_at_limit limit s) { local_state = st })) detached
  ]

  asks : next_state Call.SendAttach false s.local_state ≡ Some state.AttachSent
  asks = elim (ends.state) [
    | inl made ↦ ap (next_state Call.SendAttach false) made
    | inr detached ↦ ap (next_state Call.SendAttach false) detached
  ]

  asked_is : with_entries (attach_stated (sender_shown archetype.Target (sender_at_limit limit s)) zero_output) (states_of s.unsettled) 0 ≡ attach_asked s
  asked_is = ap (λ count. with_entries (counted_attach (sender_shown archetype.Target s) count zero_output) (states_of s.unsettled) 0) count_is_present

  pub can_ask : attaches_fit s r limit ≡ true → CanAsk limit s
  can_ask fit = record {
    can = record {
      number = zero_output;
      handle_is = refl;
      next = state.AttachSent;
      step = asks;
      fits = subst (λ attach. FitsFrame attach limit) (sym asked_is) (asked_fits limit s r ends.sender_output fit);
    };
    stated = asked_is;
    step = asks;
    after = ap (λ count. record (sender_at_limit limit s) { local_state = state.AttachSent; flow_state = record s.flow_state { initial_delivery_count = count } }) count_is_present;
  }

-- ---- the receiver takes it

module _ (limit : ℕ) (output : Option OutputHandle) (input : Option InputHandle) (initial count credit frame : ℕ) (unsettled : States) (more : Bool)
    (st : LinkState) (soutput : Option OutputHandle) (sinput : Option InputHandle) (sinitial scount scredit sframe : ℕ) (map : Entries UnsettledMessage) where
  abbrev from_sender : Sender Target
  from_sender = made_sender st soutput sinput sinitial scount scredit sframe map

  abbrev to_receiver : LinkState → Receiver Target
  to_receiver at = made_receiver at output input initial count credit frame unsettled more

  takes_made : (at : LinkState) → (at ≡ state.Unattached) ⊎ (at ≡ state.Detached) → CanTakeAsked limit from_sender (to_receiver at)
  takes_made at which = elim (which) [
    | inl made ↦ subst (λ at. CanTakeAsked limit from_sender (to_receiver at)) (sym made) (record { allowed = refl; after = refl })
    | inr detached ↦ subst (λ at. CanTakeAsked limit from_sender (to_receiver at)) (sym detached) (record { allowed = refl; after = refl })
  ]

pub can_take_asked : (limit : ℕ) (s : Sender Target) (r : Receiver Target) → IsPlainSender s → IsPlainReceiver r → (r.local_state ≡ state.Unattached) ⊎ (r.local_state ≡ state.Detached) → CanTakeAsked limit s r
can_take_asked limit s r plain_s plain_r which =
    subst (λ s. CanTakeAsked limit s r) (sym plain_s)
    (subst (λ r. CanTakeAsked limit (plain_sender s) r) (sym plain_r)
    (takes_made limit r.output_handle r.input_handle r.flow_state.initial_delivery_count r.flow_state.delivery_count r.flow_state.link_credit r.max_frame_size r.unsettled r.more
    s.local_state s.output_handle s.input_handle s.flow_state.initial_delivery_count s.flow_state.delivery_count s.flow_state.link_credit s.max_frame_size s.unsettled
    r.local_state which))

-- ---- the receiver's is sent

pub can_answer : (limit : ℕ) (s : Sender Target) (r : Receiver Target) → unwrap_or r.output_handle zero_output ≡ zero_output → attaches_fit s r limit ≡ true → CanAnswer limit s.flow_state.delivery_count r
can_answer limit s r zero fit = record {
  can = record {
    number = zero_output;
    handle_is = refl;
    next = state.Attached;
    step = refl;
    fits = answered_fits limit s r zero fit;
  };
  stated = refl;
  after = refl;
}

-- ---- the sender takes it

over_one : (n : ℕ) → n / 2 ^ 0 ≡ n
over_one n = omega arith

take_whole : {A : Type 0} (xs : List A) → take (length xs) xs ≡ xs
take_whole [] = refl
take_whole (x ∷ xs) = ap (λ l. x ∷ l) (take_whole xs)

some_items : (n : ℕ) → (suc n == 0) ≡ false
some_items n = grind (arith, nat_tests)

-- no map and an empty one are the same list
entries_read : (attach : Attach) (entries : States) → unwrap_or (with_entries attach entries 0).unsettled [] ≡ entries
entries_read attach [] = refl
entries_read attach (e ∷ entries) =
    let whole : take (length (e ∷ entries) / 2 ^ 0) (e ∷ entries) ≡ e ∷ entries = ap (λ n. take n (e ∷ entries)) (over_one (length (e ∷ entries))) ∙ take_whole (e ∷ entries) in
    ap (λ b. unwrap_or (cond b None (Some (take (length (e ∷ entries) / 2 ^ 0) (e ∷ entries)))) []) (some_items (length entries)) ∙ whole

-- where neither has a delivery none is to be resumed
list_read : (own : Entries UnsettledMessage) (remote : States) → list_in (exchange_in state.Attached own remote) ≡ deliveries_to_resume own remote
list_read [] [] = refl
list_read [] (r ∷ remote) = ap (λ b. list_in (cond b exchange.Complete (exchange.Resume (deliveries_to_resume [] (r ∷ remote))))) (some_items (length remote))
list_read (e ∷ own) remote = ap (λ b. list_in (cond (b && length remote == 0) exchange.Complete (exchange.Resume (deliveries_to_resume (e ∷ own) remote)))) (some_items (length own))

module _ (limit stated : ℕ) (output : Option OutputHandle) (input : Option InputHandle) (initial count credit frame : ℕ) (unsettled : States) (more : Bool)
    (at st : LinkState) (soutput : Option OutputHandle) (sinput : Option InputHandle) (sinitial scount scredit sframe : ℕ) (map : Entries UnsettledMessage) where
  takes_answer_made : CanTakeAnswered limit stated (made_sender st soutput sinput sinitial scount scredit sframe map) (made_receiver at output input initial count credit frame unsettled more)
  takes_answer_made = record {
    allowed = refl;
    after = refl;
    remote = entries_read (counted_attach (receiver_shown archetype.Target (made_receiver at output input initial count credit frame unsettled more)) stated zero_output) unsettled;
    list = list_read map unsettled;
  }

pub can_take_answered : (limit count : ℕ) (s : Sender Target) (r : Receiver Target) → IsPlainSender s → IsPlainReceiver r → CanTakeAnswered limit count s r
can_take_answered limit count s r plain_s plain_r =
    subst (λ s. CanTakeAnswered limit count s r) (sym plain_s)
    (subst (λ r. CanTakeAnswered limit count (plain_sender s) r) (sym plain_r)
    (takes_answer_made limit count r.output_handle r.input_handle r.flow_state.initial_delivery_count r.flow_state.delivery_count r.flow_state.link_credit r.max_frame_size r.unsettled r.more
    r.local_state s.local_state s.output_handle s.input_handle s.flow_state.initial_delivery_count s.flow_state.delivery_count s.flow_state.link_credit s.max_frame_size s.unsettled))

-- ---- an attach goes on from where it stopped

-- the sender's was sent already
asking_stays_by : (limit : ℕ) (s : Sender Target) (r : Receiver Target) → AreHalfway limit s r → sender_asking limit s ≡ s
asking_stays_by limit s r k = λ i. record s {
  local_state = sym k.sender_state i;
  output_handle = sym k.sender_output i;
  flow_state = record s.flow_state { initial_delivery_count = sym k.counted i };
  max_frame_size = sym k.sender_frame i;
}

-- the receiver has taken it
taken_stays_by : (limit count : ℕ) (r : Receiver Target) → r.more ≡ false → HasTaken count r → r.local_state ≡ state.AttachReceived → r.output_handle ≡ Some (record { 0 = 0 }) → r.max_frame_size ≡ limit
    → receiver_half_attached limit count r ≡ r
taken_stays_by limit count r quiet k st output frame = λ i. record r {
  local_state = sym st i;
  output_handle = sym output i;
  input_handle = sym k.input i;
  flow_state = record r.flow_state { initial_delivery_count = sym k.initial i; delivery_count = sym k.present i };
  max_frame_size = sym frame i;
  more = sym quiet i;
}

-- and has sent its own
together_stays_by : (limit count : ℕ) (r : Receiver Target) → r.more ≡ false → HasTaken count r → r.local_state ≡ state.Attached → r.output_handle ≡ Some (record { 0 = 0 }) → r.max_frame_size ≡ limit
    → receiver_together limit count r ≡ r
together_stays_by limit count r quiet k st output frame = λ i. record r {
  local_state = sym st i;
  output_handle = sym output i;
  input_handle = sym k.input i;
  flow_state = record r.flow_state { initial_delivery_count = sym k.initial i; delivery_count = sym k.present i };
  max_frame_size = sym frame i;
  more = sym quiet i;
}

asked_stays_by : (limit : ℕ) (s : Sender Target) (r : Receiver Target) → AreHalfway limit s r → receiver_at_limit limit r ≡ r
asked_stays_by limit s r k = λ i. record r { output_handle = sym k.receiver_output i; max_frame_size = sym k.receiver_frame i }

-- ---- by the invariant

module _ (w : World) (limit : ℕ) (k : IsWorld w) where
  apart_ends : w.phase ≡ Apart → AreApart w.ledger.link w.receiver
  apart_ends is = subst (λ phase. AreEnds phase w.ledger.link w.receiver) is k.ends

  halfway_ends : w.phase ≡ Halfway limit → AreHalfway limit w.ledger.link w.receiver
  halfway_ends is = subst (λ phase. AreEnds phase w.ledger.link w.receiver) is k.ends

  pub world_can_ask : w.phase ≡ Apart → refusal (attach_tests w limit) ≡ None → CanAsk limit w.ledger.link
  world_can_ask is may = can_ask limit w.ledger.link w.receiver (apart_ends is) (attaches_do_fit w limit may)

  pub world_can_take_asked : (w.receiver.local_state ≡ state.Unattached) ⊎ (w.receiver.local_state ≡ state.Detached) → CanTakeAsked limit w.ledger.link w.receiver
  world_can_take_asked which = can_take_asked limit w.ledger.link w.receiver k.sender k.receiver which

  zero_handle : (phase : Phase) → is_together phase ≡ false → AreEnds phase w.ledger.link w.receiver → unwrap_or w.receiver.output_handle zero_output ≡ zero_output
  zero_handle Apart off e = e.receiver_output
  zero_handle (Halfway at) off e = ap (λ o. unwrap_or o zero_output) e.receiver_output
  zero_handle (Together at) off e = absurd (false_is_not_true (sym off))

  pub world_can_answer : refusal (attach_tests w limit) ≡ None → CanAnswer limit w.ledger.link.flow_state.delivery_count w.receiver
  world_can_answer may = can_answer limit w.ledger.link w.receiver (zero_handle w.phase (none_hold (attach_tests w limit) may).0 k.ends) (attaches_do_fit w limit may)

  pub world_can_take_answered : CanTakeAnswered limit w.ledger.link.flow_state.delivery_count w.ledger.link w.receiver
  world_can_take_answered = can_take_answered limit w.ledger.link.flow_state.delivery_count w.ledger.link w.receiver k.sender k.receiver

  -- what was done already stays
  module _ (is : w.phase ≡ Halfway limit) where
    pub asking_stays : sender_asking limit w.ledger.link ≡ w.ledger.link
    asking_stays = asking_stays_by limit w.ledger.link w.receiver (halfway_ends is)

    pub asked_stays : receiver_at_limit limit w.receiver ≡ w.receiver
    asked_stays = asked_stays_by limit w.ledger.link w.receiver (halfway_ends is)

    quiet : w.receiver.more ≡ false
    quiet = idle_more w k (ap is_together is)

    on_way : (st : LinkState) → w.receiver.local_state ≡ st → IsOnWay w.ledger.link.flow_state.delivery_count w.receiver st
    on_way st at = subst (IsOnWay w.ledger.link.flow_state.delivery_count w.receiver) at (halfway_ends is).receiver_state

    pub taken_stays : w.receiver.local_state ≡ state.AttachReceived → receiver_half_attached limit w.ledger.link.flow_state.delivery_count w.receiver ≡ w.receiver
    taken_stays at = taken_stays_by limit w.ledger.link.flow_state.delivery_count w.receiver quiet (on_way state.AttachReceived at) at (halfway_ends is).receiver_output (halfway_ends is).receiver_frame

    pub together_stays : w.receiver.local_state ≡ state.Attached → receiver_together limit w.ledger.link.flow_state.delivery_count w.receiver ≡ w.receiver
    together_stays at = together_stays_by limit w.ledger.link.flow_state.delivery_count w.receiver quiet (on_way state.Attached at) at (halfway_ends is).receiver_output (halfway_ends is).receiver_frame

-- ---- the steps, one after the other

-- an attach that goes on leaves what one from the start does
on_from : (stop : AttachStop) (limit : ℕ) (w : World) → after_attach limit (halfway_at stop limit w) ≡ after_attach limit w
on_from Asked limit w = refl
on_from Taken limit w = refl
on_from Answered limit w = refl

list_stays : (stop : AttachStop) (limit : ℕ) (w : World) → list_to_resume (halfway_at stop limit w) ≡ list_to_resume w
list_stays Asked limit w = refl
list_stays Taken limit w = refl
list_stays Answered limit w = refl

pub attaches_on : (stop : AttachStop) (old mid new : World) (limit count : ℕ) → StopsAt stop old limit mid → Attaches mid limit count new → Attaches old limit count new
attaches_on stop old mid new limit count s a = record {
  counted = a.counted ∙ ap (λ w. length (list_to_resume w)) s.world ∙ ap length (list_stays stop limit old);
  world = a.world ∙ ap (after_attach limit) s.world ∙ on_from stop limit old;
}

not_answered : Taken ≡ Answered → ⊥
not_answered h = cc

-- the later stop is where both have come
stop_on : (stop next : AttachStop) (limit : ℕ) (w : World) → ((halfway_at stop limit w).receiver.local_state ≡ state.Attached → next ≡ Answered) → halfway_at next limit (halfway_at stop limit w) ≡ halfway_at (later stop next) limit w
stop_on Asked Asked limit w onward = refl
stop_on Asked Taken limit w onward = refl
stop_on Asked Answered limit w onward = refl
stop_on Taken Asked limit w onward = refl
stop_on Taken Taken limit w onward = refl
stop_on Taken Answered limit w onward = refl
stop_on Answered Asked limit w onward = refl
stop_on Answered Taken limit w onward = absurd (not_answered (onward refl))
stop_on Answered Answered limit w onward = refl

pub stops_on : (stop next : AttachStop) (old mid new : World) (limit : ℕ) → StopsAt stop old limit mid → StopsAt next mid limit new → StopsAt (later stop next) old limit new
stops_on stop next old mid new limit s t = record {
  may = s.may;
  onward = λ sent. ap (λ stop. later stop next) (s.onward sent);
  world = t.world ∙ ap (halfway_at next limit) s.world ∙ stop_on stop next limit old (λ sent. t.onward (ap (λ (w : World). w.receiver.local_state) s.world ∙ sent));
}

-- at handle 0 the attaches fit as at the handles that are there
fits_at_zero : (limit : ℕ) (s : Sender Target) (r : Receiver Target) → unwrap_or s.output_handle zero_output ≡ zero_output → unwrap_or r.output_handle zero_output ≡ zero_output
    → (fits (attach_asked s) limit && fits (attach_answered r s.flow_state.delivery_count) limit) ≡ attaches_fit s r limit
fits_at_zero limit s r a b = λ i.
    fits (with_entries (counted_attach (sender_shown archetype.Target s) s.flow_state.delivery_count (sym a i)) (states_of s.unsettled) 0) limit
    && fits (with_entries (counted_attach (receiver_shown archetype.Target r) s.flow_state.delivery_count (sym b i)) r.unsettled 0) limit

-- they fit as they did
fits_stay : (stop : AttachStop) (limit count : ℕ) (s : Sender Target) (r : Receiver Target) → unwrap_or s.output_handle zero_output ≡ zero_output → unwrap_or r.output_handle zero_output ≡ zero_output
    → attaches_fit (sender_asking limit s) (receiver_at stop limit count r) limit ≡ attaches_fit s r limit
fits_stay Asked limit count s r a b = fits_at_zero limit s r a b
fits_stay Taken limit count s r a b = fits_at_zero limit s r a b
fits_stay Answered limit count s r a b = fits_at_zero limit s r a b

same_limit : (limit : ℕ) → not (limit == limit) ≡ false
same_limit limit = grind (arith, nat_tests)

module _ (stop : AttachStop) (old mid : World) (limit : ℕ) (k : IsWorld old) (s : StopsAt stop old limit mid) where
  tests_before : AllByRecursion (λ t. t.0 ≡ false) (attach_tests old limit)
  tests_before = none_hold (attach_tests old limit) s.may

  sender_zero : (phase : Phase) → is_together phase ≡ false → AreEnds phase old.ledger.link old.receiver → unwrap_or old.ledger.link.output_handle zero_output ≡ zero_output
  sender_zero Apart off e = e.sender_output
  sender_zero (Halfway at) off e = ap (λ o. unwrap_or o zero_output) e.sender_output
  sender_zero (Together at) off e = absurd (false_is_not_true (sym off))

  fits_halfway : attaches_fit (halfway_at stop limit old).ledger.link (halfway_at stop limit old).receiver limit ≡ attaches_fit old.ledger.link old.receiver limit
  fits_halfway = fits_stay stop limit old.ledger.link.flow_state.delivery_count old.ledger.link old.receiver (sender_zero old.phase tests_before.0 k.ends) (zero_handle old limit k old.phase tests_before.0 k.ends)

  -- the call may be made again at this limit
  pub may_go_on : refusal (attach_tests mid limit) ≡ None
  may_go_on =
      subst (λ (w : World). refusal (attach_tests w limit) ≡ None) (sym s.world)
      (none_of_three false (not (limit == limit)) (nat_lt limit 29 || not (attaches_fit (halfway_at stop limit old).ledger.link (halfway_at stop limit old).receiver limit)) error.AlreadyAttached error.LimitChanged error.LimitTooSmall
      refl (same_limit limit) (ap (λ b. nat_lt limit 29 || not b) fits_halfway ∙ tests_before.1.1.0))
