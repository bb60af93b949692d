-- A message is taken from an inbox as it is, and its outcome is kept in its place.
use Rattle.std.proofs.Common.{◌≡◌, ◌∙◌, ◌+◌, ◌-◌, ◌<◌, ◌≤◌, arith, ap, length, sym, subst, suc, refl, Bool, true, false, ℕ, List, [], ◌∷◌, Option, Some, None, Result, Ok, Err, ◌⊎◌, inl, inr}
use Rattle.std.specs.Prelude.{IsSomeAnd, drop, get_or, slice_get, slice_set, sum_by, unwrap_or, if◌then◌else◌}
use Rattle.std.specs.Prelude.{take as take_first}
use Rattle.std.specs.Map.{set_value}
use Rattle.std.specs.Str.{bytes_eq}
use Rattle.std.proofs.lemmas.Map.Steps.{set_value_same}
use Rattle.std.proofs.lemmas.List.Sums.{get_or-le-sum_by, sum_by_more}
use Rattle.std.proofs.lemmas.Option.{same_Some, slice_get_read}
use Prim.Native.Nat.{zero}
use Rattle.amqp_link.specs.Bodies.{whole_message}
use Rattle.amqp_link.specs.Completing.{IsDelivery}
use Rattle.amqp_link.specs.Deliveries.{Delivered}
use Rattle.amqp_link.specs.Entries.{Tag, Entries, entry_at}
use Rattle.amqp_link.specs.Held.{Held, held_bytes}
use Rattle.amqp_link.specs.Inboxes.{InboxState}
use Rattle.amqp_link.specs.Merging.{first}
use Rattle.amqp_link.specs.Taking.{AnswersTake, IsGivenBack, has_taken}
use Rattle.amqp_link.specs.declared.inbox.TakeError.{TakeError}
use Rattle.amqp_link.specs.declared.inbox.TakeError.TheVariants as take
use Rattle.amqp_link.specs.declared.inbox.Undecoded.{Undecoded}
use Rattle.amqp_link.specs.declared.resumption.Step.{Step}
use Rattle.amqp_link.specs.declared.resumption.Step.TheVariants as step
use Rattle.amqp_link.specs.declared.errors.DecodeError.{DecodeError}
use Rattle.amqp_link.specs.declared.types.DeliveryState.{DeliveryState}
use Rattle.amqp_link.specs.declared.types.Message.{Message as Decoded}
use Rattle.amqp_link.specs.declared.types.Target.{Target}
use Rattle.amqp_link.specs.declared.types.Whole.{Whole}
use Rattle.amqp_link_uses.specs.Brokers.{BrokerState, IncomingState, IsRefusedTake, NoneWaits, NothingIsLeft, OutgoingState, StepsAt, StepsBy, TakesFirst, TakesFirstAt, TakesSettledOne, awaits, carried_at, carried_by, claimed, free, held}
use Rattle.amqp_link_uses.specs.declared.broker.Message.{Message}
use Rattle.amqp_link_uses.specs.declared.broker.Origin.{Origin}
use Rattle.amqp_link_uses.specs.declared.broker.errors.TakeInError.TheVariants as take_in
use Rattle.amqp_link_uses.specs.declared.broker.incoming.Progress.{Progress}
use Rattle.amqp_link_uses.specs.declared.broker.incoming.Progress.TheVariants as progress

-- bytes as they are are read, whatever they are
never_undecoded : (held : Option Held) (u : Undecoded) → IsSomeAnd held (λ h. IsGivenBack whole_message h u) → ⊥
never_undecoded None u given = given
never_undecoded (Some h) u given = cc given.source

-- why a message is not taken, as its inbox says
pub refused_as : (A : Type 0) (why : Option TakeError) (held : Option Held) (r : TakeError) → AnswersTake {A = A} why (Err r)
    → ((u : Undecoded) → r ≡ take.Undecoded u → IsSomeAnd held (λ h. IsGivenBack whole_message h u))
    → IsRefusedTake (take_in.Inbox r) why
refused_as A why held take.UnknownTag a u = inr a
refused_as A why held take.NotComplete a u = inr a
refused_as A why held take.AlreadyTaken a u = inr a
refused_as A why held take.NotAttached a u = inr a
refused_as A why held take.OutOfMemory a u = inl refl
refused_as A why held (take.Undecoded x) a u = absurd (never_undecoded held x (u x refl))

pub not_taken : (A : Type 0) (held : Option Held) (r : TakeError)
    → ((u : Undecoded) → r ≡ take.Undecoded u → IsSomeAnd held (λ h. IsGivenBack whole_message h u)) → has_taken {A = A} (Err r) ≡ false
not_taken A held take.UnknownTag u = refl
not_taken A held take.NotComplete u = refl
not_taken A held take.AlreadyTaken u = refl
not_taken A held take.NotAttached u = refl
not_taken A held take.OutOfMemory u = refl
not_taken A held (take.Undecoded x) u = absurd (never_undecoded held x (u x refl))

-- the bytes of a message that is read as it is
abbrev payload_in : Result (Decoded Whole) DecodeError → List ℕ
payload_in (Ok m) = m.body.0
payload_in (Err e) = []

-- the first that its sender has settled is taken
pub takes_first : (link number : ℕ) (old new : InboxState Target) (messages : Entries Progress) (d : Delivered Whole) (m : Message)
    → IsSomeAnd (first old.settled) (λ held. IsDelivery old.link held.performative (whole_message (held_bytes held)) d)
    → new ≡ record old { settled = drop 1 old.settled }
    → m ≡ record {
      origin = record { link = link; tag = None; number = number };
      message_format = unwrap_or d.message_format 0;
      payload = d.message.body.0;
    }
    → TakesFirst link number (record { inbox = old; messages = messages }) m (record { inbox = new; messages = messages })
takes_first link number old new messages d m delivered after made =
    elim old.settled as (λ l. old.settled ≡ l → IsSomeAnd (first l) (λ held. IsDelivery old.link held.performative (whole_message (held_bytes held)) d)
    → TakesFirst link number (record { inbox = old; messages = messages }) m (record { inbox = new; messages = messages })) [
      | [] ↦ λ e given. absurd given
      | held ∷ rest ↦ λ e given. record {
        held = held;
        rest = rest;
        settled = e;
        message_is = made ∙ ap (λ f. record {
          origin = record { link = link; tag = None; number = number };
          message_format = unwrap_or f 0;
          payload = d.message.body.0;
        }) given.format ∙ ap (λ bytes. record {
          origin = record { link = link; tag = None; number = number };
          message_format = unwrap_or held.performative.message_format 0;
          payload = bytes;
        }) (sym (ap payload_in given.message));
        link_is = ap (λ i. record { inbox = i; messages = messages })
            (after ∙ ap (λ l. record old { settled = drop 1 l }) e);
      }
    ] refl delivered

-- the outcome of a message is kept in its place, if it still awaits one
module _ (origin : Origin) (tag : Tag) (state : DeliveryState) (old : IncomingState) (place : Progress) (now : Entries Progress)
    (is : origin.tag ≡ Some tag) (found : entry_at old.messages tag ≡ Some place) where
  by_awaiting : (b : Bool) → awaits origin.number (Some place) ≡ b
      → carried_by origin state old ≡ (if b then record old { messages = set_value (bytes_eq tag) old.messages (progress.Ended state) } else old)
  by_awaiting b is_so = ap (λ t. carried_at t origin.number state old) is
      ∙ ap (λ a. if a then record old { messages = set_value (bytes_eq tag) old.messages (progress.Ended state) } else old)
      (ap (λ p. awaits origin.number p) found ∙ is_so)

  pub kept_in_place : awaits origin.number (Some place) ≡ true → now ≡ set_value (bytes_eq tag) old.messages (progress.Ended state)
      → record old { messages = now } ≡ carried_by origin state old
  kept_in_place awaited written = ap (λ m. record old { messages = m }) written ∙ sym (by_awaiting true awaited)

  pub left_in_place : awaits origin.number (Some place) ≡ false → now ≡ set_value (bytes_eq tag) old.messages place
      → record old { messages = now } ≡ carried_by origin state old
  left_in_place not_awaited written =
      ap (λ m. record old { messages = m }) (written ∙ set_value_same (bytes_eq tag) old.messages place found) ∙ sym (by_awaiting false not_awaited)

-- ---- the room

-- what one link claims is within what all claim
one_claims : (incoming : List IncomingState) (link : ℕ) (s : IncomingState) → link < length incoming → s ≡ get_or incoming link s
    → claimed s ≤ sum_by claimed incoming
one_claims incoming link s within is =
    subst (λ x. claimed x ≤ sum_by claimed incoming) (sym is) (get_or-le-sum_by claimed incoming link s within)

-- credit that is free is within the room
pub credit_within : (b : BrokerState) (link more : ℕ) (s : IncomingState) → link < length b.incoming → s ≡ get_or b.incoming link s
    → more ≤ free b → (more ≡ 0) ⊎ (s.inbox.link.flow_state.link_credit + more ≤ b.room)
credit_within b link zero s within is small = inl refl
credit_within b link (suc n) s within is small =
    let claims : claimed s ≤ sum_by claimed b.incoming = one_claims b.incoming link s within is in
    inr (omega (arith, claims, small))

left_beside_more : (room held so_far one : ℕ) → room - (held + so_far) - one ≡ room - (held + (so_far + one))
left_beside_more room held so_far one = omega arith

-- what is left beside one link more, whatever is counted of a link
pub left_beside_next : (f : IncomingState → ℕ) (b : BrokerState) (i : ℕ) (x : IncomingState) → i < length b.incoming → x ≡ get_or b.incoming i x
    → b.room - (held b + sum_by f (take_first i b.incoming)) - f x ≡ b.room - (held b + sum_by f (take_first (i + 1) b.incoming))
left_beside_next f b i x within is = left_beside_more b.room (held b) (sum_by f (take_first i b.incoming)) (f x)
    ∙ ap (λ n. b.room - (held b + (sum_by f (take_first i b.incoming) + n))) (ap f is)
    ∙ ap (λ n. b.room - (held b + n)) (sym (sum_by_more f b.incoming i x within))

-- ---- one link of several

-- a link that there is
pub found_at : {X : Type 0} (xs : List X) (i : ℕ) (x : X) → i < length xs → x ≡ get_or xs i x → slice_get xs i ≡ Some x
found_at xs i x within is = slice_get_read xs (length xs) i x refl within is

-- an element that is written in its own place changes nothing
same_set : {X : Type 0} (xs : List X) (i : ℕ) (x : X) → slice_get xs i ≡ Some x → slice_set xs i x ≡ xs
same_set [] i x is = refl
same_set (y ∷ ys) zero x is = ap (λ z. z ∷ ys) (sym (same_Some y x is))
same_set (y ∷ ys) (suc i) x is = ap (λ l. y ∷ l) (same_set ys i x is)

-- the first settled message of a link is taken, or there is none
pub takes_first_at : (link number : ℕ) (old : List IncomingState) (from to : IncomingState) (taken : Option Message) → slice_get old link ≡ Some from
    → TakesSettledOne link number from taken to → TakesFirstAt link number old taken (slice_set old link to)
takes_first_at link number old from to None is h =
    (ap (λ s. slice_set old link s) h.1 ∙ same_set old link from is, subst (λ o. NoneWaits o) (sym is) h.0)
takes_first_at link number old from to (Some message) is h =
    record { from = from; to = to; is = is; takes = h; link_is = refl }

-- a link takes a step, or there is none to take
pub steps_at : (link : ℕ) (is_sent : Bool) (old : List OutgoingState) (before after_it : OutgoingState) (what : Step) → slice_get old link ≡ Some before
    → StepsBy is_sent before what after_it → StepsAt link is_sent old what (slice_set old link after_it)
steps_at link is_sent old before after_it step.Nothing is h =
    (ap (λ o. slice_set old link o) h.1 ∙ same_set old link before is, subst (λ o. NothingIsLeft o) (sym is) h.0)
steps_at link is_sent old before after_it (step.Sent frames) is h =
    record { before = before; after_it = after_it; is = is; does = h; link_is = refl }
steps_at link is_sent old before after_it (step.Aborted frame tag) is h =
    record { before = before; after_it = after_it; is = is; does = h; link_is = refl }
steps_at link is_sent old before after_it (step.Ended tag outcome) is h =
    record { before = before; after_it = after_it; is = is; does = h; link_is = refl }
steps_at link is_sent old before after_it step.PutBack is h =
    record { before = before; after_it = after_it; is = is; does = h; link_is = refl }
