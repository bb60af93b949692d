-- What is held of a delivery is a front of what was sent, and of a whole delivery all of it.
use Rattle.std.proofs.Common.{◌≡◌, ◌∙◌, sym, ap, subst, Bool, true, false, cond, List, [], ◌∷◌, refl, ℕ, Ok, Err, Result, inl, inr}
use Rattle.std.specs.Prelude.{Option, Some, None, IsSomeAnd, option_and_then, option_map}
use Rattle.std.specs.Option.{option_or, option_map_or}
use Rattle.amqp_link_payloads.specs.declared.error.DecodeError.{DecodeError}
use Rattle.amqp_link_payloads.specs.declared.message.Message.{Message}
use Rattle.amqp_link_types.specs.Entries.{Tag, entry_at}
use Rattle.amqp_link_types.specs.declared.delivery.UnsettledMessage.{UnsettledMessage}
use Rattle.amqp_link_types.specs.declared.frame.LinkFrame.{LinkFrame}
use Rattle.amqp_link_types.specs.declared.types.delivery_state.DeliveryState.{DeliveryState}
use Rattle.amqp_link_types.proofs.MapLemmas.{false_is_not_true, other_tag, entry_at-put}
use Rattle.amqp_link_core.specs.declared.resumption.ResumingDelivery.{ResumingDelivery}
use Rattle.amqp_link_ledger.specs.Fates.{fates_of, latest}
use Rattle.amqp_link_ledger.specs.declared.fate.Fate.{Fate}
use Rattle.amqp_link_ledger.specs.declared.fate.Fate.TheVariants.{Pending, HandedOut}
use Rattle.amqp_link_ledger.proofs.ListSteps.{some_is}
use Rattle.amqp_link_sender.specs.Senders.{new_entry}
use Rattle.amqp_link_worlds.specs.Invariants.{IsWorld, IsKeptAs}
use Rattle.amqp_link_worlds.specs.PairRuns.{is_send_of, Step, Moment, IsRun, payload_to_send, payload_sent, last_sent, last_payload, HoldsWhatWasSent}
use Rattle.amqp_link_worlds.specs.Resumptions.{entry_of}
use Rattle.amqp_link_worlds.specs.Steps.{Sends, has_flag}
use Rattle.amqp_link_worlds.specs.Worlds.{World, IsFront, IsGood, IsOpen, IsRegistered, Standing, held_at, bytes_in, is_out, is_together, registered_payload, standing, entry_in, rest_in}
use Rattle.amqp_link_worlds.specs.Wires.{frames_of}
use Rattle.amqp_link_worlds.specs.declared.error.PairError.{PairError}
use Rattle.amqp_link_worlds.specs.declared.event.AnswerOf.{AnswerOf}
use Rattle.amqp_link_worlds.specs.declared.event.AnswerOf.TheVariants as answer
use Rattle.amqp_link_worlds.specs.declared.event.Event.{Event}
use Rattle.amqp_link_worlds.specs.declared.event.Event.TheVariants.{Attach, Grant, Send, Arrive, Cut, ResumeNext, PutBackNext, HandOut, Settle, Withdraw}
use Rattle.amqp_link_worlds.specs.declared.progress.Progress.{Progress}
use Rattle.amqp_link_worlds.proofs.EntriesOf.{by_tag}
use Rattle.amqp_link_worlds.proofs.FateLemmas.{latest_is}
use Rattle.amqp_link_worlds.proofs.RunLemmas.{IsOpenIn, IsWorld-steps, IsWorld-run, step_keeps_payload, step_was_open}
use Rattle.amqp_link_worlds.proofs.WorldLemmas.{Good-from_world}

-- ---- a send registers its payload

entry_by_send : (old new : World) (payload tag : List ℕ) (count : ℕ) → Sends old payload tag count new → entry_in (standing new tag) ≡ Some (new_entry 0 payload)
entry_by_send old new payload tag count s =
    let listed : Option UnsettledMessage = option_and_then entry_of (entry_at old.resuming tag) in
    ap (λ (w : World). entry_in (standing w tag)) s.world ∙ ap (λ o. option_or o listed) (entry_at-put old.ledger.link.unsettled tag (new_entry 0 payload))

pub registered_by_send : (old new : World) (payload tag : List ℕ) (count : ℕ) → Sends old payload tag count new → IsRegistered new tag payload
registered_by_send old new payload tag count s =
    λ _. subst (λ o. IsSomeAnd o (λ entry. entry.payload ≡ payload)) (sym (entry_by_send old new payload tag count s)) refl

-- ---- of a delivery the receiver holds a front of what is registered

abbrev payload_in : Option UnsettledMessage → Option (List ℕ)
payload_in o = option_map (λ entry. entry.payload) o

front_of : (own : Option UnsettledMessage) (q : Option Progress) (out : Progress → Bool) (reported : Option (Option DeliveryState)) (frames : List LinkFrame) (rest : Option (List ℕ))
    → IsSomeAnd own (λ entry. IsSomeAnd q (λ p. IsGood entry.payload p (out p) reported frames rest))
    → IsSomeAnd (payload_in own) (IsFront (bytes_in (option_and_then (λ p. p.held) q)))
front_of None q out reported frames rest good = absurd good
front_of (Some entry) None out reported frames rest good = absurd good
front_of (Some entry) (Some p) out reported frames rest good = good.front

front_registered : (w : World) (tag : Tag) → IsWorld w → IsOpenIn w tag → IsSomeAnd (registered_payload w tag) (IsFront (bytes_in (held_at w tag)))
front_registered w tag k o =
    let s : Standing = standing w tag in
    front_of (entry_in s) s.progress (is_out (is_together w.phase) s.own) s.reported s.frames (rest_in s) ((Good-from_world w k).deliveries tag o)

-- ---- of a whole delivery it holds all of it

whole_as : (together : Bool) (tag : Tag) (own : Option UnsettledMessage) (listed : Option ResumingDelivery) (q : Option Progress)
    (reported : Option (Option DeliveryState)) (frames : List LinkFrame) (fates : List Fate) → IsKeptAs together tag own listed q reported frames fates
    → option_map_or (λ p. p.whole) q false ≡ true
    → IsOpen (latest fates) × (Some (bytes_in (option_and_then (λ p. p.held) q)) ≡ payload_in (option_or own (option_and_then entry_of listed)))
whole_as together tag own listed None reported frames fates kept whole = absurd (false_is_not_true whole)
whole_as together tag None None (Some p) reported frames fates kept whole = absurd (false_is_not_true (sym kept.unfinished ∙ whole))
whole_as together tag (Some entry) None (Some p) reported frames fates kept whole =
    (subst IsOpen (sym (latest_is Pending fates kept.1)) tt, ap Some (kept.0.good.complete whole))
whole_as together tag None (Some next) (Some p) reported frames fates kept whole =
    elim (kept) [
      | inl l ↦ (subst IsOpen (sym (latest_is HandedOut fates l.1)) tt, ap Some (l.0.under_way.good.complete whole) ∙ ap payload_in (sym l.0.entry_is))
      | inr a ↦ absurd (false_is_not_true (sym a.withdrawn.unfinished ∙ whole))
    ]
whole_as together tag (Some entry) (Some next) (Some p) reported frames fates kept whole = absurd kept

-- it is a delivery, and what is held of it is registered
whole_registered : (w : World) (tag : Tag) → IsWorld w → has_flag (λ p. p.whole) w tag ≡ true → IsOpenIn w tag × (Some (bytes_in (held_at w tag)) ≡ registered_payload w tag)
whole_registered w tag k whole =
    whole_as (is_together w.phase) tag (entry_at w.ledger.link.unsettled tag) (entry_at w.resuming tag) (entry_at w.deliveries tag)
    (entry_at w.receiver.unsettled tag) (frames_of tag w.wire) (fates_of tag w.ledger.records) (k.each tag) whole

payload_is : (own : Option UnsettledMessage) (bytes payload : List ℕ) → Some bytes ≡ payload_in own → IsSomeAnd own (λ entry. entry.payload ≡ payload) → bytes ≡ payload
payload_is None bytes payload h is = absurd is
payload_is (Some entry) bytes payload h is = some_is h ∙ is

pub whole_is_registered : (w : World) (tag payload : List ℕ) → IsWorld w → IsRegistered w tag payload → has_flag (λ p. p.whole) w tag ≡ true → bytes_in (held_at w tag) ≡ payload
whole_is_registered w tag payload k registered whole =
    let held = whole_registered w tag k whole in
    payload_is (entry_in (standing w tag)) (bytes_in (held_at w tag)) payload held.1 (registered held.0)

module _ {B : Type 0} (decoded : List ℕ → Result (Message B) DecodeError) where
  -- ---- a step that does not send the tag keeps what is registered

  pub step_keeps_registered : (tag payload : List ℕ) (old new : World) (e : Event) (r : Result (AnswerOf B) PairError) → IsWorld old → Step decoded old e r new
      → is_send_of tag r ≡ false → IsRegistered old tag payload → IsRegistered new tag payload
  step_keeps_registered tag payload old new e r k s not_sent registered =
      λ o. subst (λ o. IsSomeAnd o (λ entry. entry.payload ≡ payload)) (sym (step_keeps_payload decoded tag old new e r k s not_sent o))
      (registered (step_was_open decoded tag old new e r k s not_sent o))

  -- ---- over a run

  -- if it is a delivery, this is registered
  abbrev HasPayload : World → Tag → Option (List ℕ) → Type 0
  HasPayload w tag sent = IsOpenIn w tag → registered_payload w tag ≡ sent

  -- after a step that is what it sends, or what was registered before
  keeps_sent : (b : Bool) (tag : Tag) (old new : World) (e : Event) (r : Result (AnswerOf B) PairError) (sent : Option (List ℕ)) → IsWorld old → Step decoded old e r new
      → is_send_of tag r ≡ b → HasPayload old tag sent → HasPayload new tag (option_or (cond b (payload_to_send e) None) sent)
  keeps_sent false tag old new e r sent k s is h =
      λ o. ap payload_in (step_keeps_payload decoded tag old new e r k s is o) ∙ h (step_was_open decoded tag old new e r k s is o)
  keeps_sent true tag old new (Send payload) (Ok (answer.Sent sent count)) before k s is h =
      by_tag (λ t. is_send_of {B = B} t (Ok (answer.Sent sent count)) ≡ true → HasPayload new t (Some payload)) sent
      (λ _ _. ap payload_in (entry_by_send old new payload sent count s.1))
      (λ other n is. absurd (false_is_not_true (sym (other_tag other sent n) ∙ is)))
      tag is
  keeps_sent true tag old new e (Ok (answer.Attached a)) before k s is h = absurd (false_is_not_true is)
  keeps_sent true tag old new e (Ok (answer.Granted a)) before k s is h = absurd (false_is_not_true is)
  keeps_sent true tag old new e (Ok (answer.Arrived a b c d)) before k s is h = absurd (false_is_not_true is)
  keeps_sent true tag old new e (Ok answer.Cut) before k s is h = absurd (false_is_not_true is)
  keeps_sent true tag old new e (Ok (answer.Resumed a b c)) before k s is h = absurd (false_is_not_true is)
  keeps_sent true tag old new e (Ok (answer.PutBack a)) before k s is h = absurd (false_is_not_true is)
  keeps_sent true tag old new e (Ok (answer.HandedOut a)) before k s is h = absurd (false_is_not_true is)
  keeps_sent true tag old new e (Ok answer.Settled) before k s is h = absurd (false_is_not_true is)
  keeps_sent true tag old new e (Ok answer.Withdrawn) before k s is h = absurd (false_is_not_true is)
  keeps_sent true tag old new e (Ok (answer.Aborted a)) before k s is h = absurd (false_is_not_true is)
  keeps_sent true tag old new e (Err error) before k s is h = absurd (false_is_not_true is)
  keeps_sent true tag old new (Attach x) (Ok (answer.Sent sent count)) before k s is h = absurd s.1
  keeps_sent true tag old new (Grant x) (Ok (answer.Sent sent count)) before k s is h = absurd s.1
  keeps_sent true tag old new (Arrive x) (Ok (answer.Sent sent count)) before k s is h = absurd s.1
  keeps_sent true tag old new Cut (Ok (answer.Sent sent count)) before k s is h = absurd s.1
  keeps_sent true tag old new ResumeNext (Ok (answer.Sent sent count)) before k s is h = absurd s.1
  keeps_sent true tag old new PutBackNext (Ok (answer.Sent sent count)) before k s is h = absurd s.1
  keeps_sent true tag old new (HandOut x) (Ok (answer.Sent sent count)) before k s is h = absurd s.1
  keeps_sent true tag old new (Settle x) (Ok (answer.Sent sent count)) before k s is h = absurd s.1
  keeps_sent true tag old new (Withdraw x) (Ok (answer.Sent sent count)) before k s is h = absurd s.1

  abbrev sent_on : Tag → Option (List ℕ) → List (Moment decoded) → Option (List ℕ)
  sent_on tag sent [] = sent
  sent_on tag sent (m ∷ moments) = sent_on tag (option_or (payload_sent decoded tag m) sent) moments

  run_keeps : (tag : Tag) (old new : World) (moments : List (Moment decoded)) (sent : Option (List ℕ)) → IsWorld old → IsRun decoded old moments new
      → HasPayload old tag sent → HasPayload new tag (sent_on tag sent moments)
  run_keeps tag old new [] sent k r h = subst (λ w. HasPayload w tag sent) (sym r) h
  run_keeps tag old new (m ∷ moments) sent k r h =
      let kept : IsWorld m.before = subst IsWorld (sym r.0) k in
      let before : HasPayload m.before tag sent = subst (λ w. HasPayload w tag sent) (sym r.0) h in
      run_keeps tag m.after new moments (option_or (payload_sent decoded tag m) sent) (IsWorld-steps decoded m.before m.after m.event m.answer kept r.1) r.2
      (keeps_sent (is_send_of tag m.answer) tag m.before m.after m.event m.answer sent kept r.1 refl before)

  or_assoc : {A : Type 0} (x y z : Option A) → option_or x (option_or y z) ≡ option_or (option_or x y) z
  or_assoc None y z = refl
  or_assoc (Some a) y z = refl

  sent_on_is : (tag : Tag) (sent : Option (List ℕ)) (moments : List (Moment decoded)) → sent_on tag sent moments ≡ option_or (last_sent decoded tag moments) sent
  sent_on_is tag sent [] = refl
  sent_on_is tag sent (m ∷ moments) =
      sent_on_is tag (option_or (payload_sent decoded tag m) sent) moments ∙ or_assoc (last_sent decoded tag moments) (payload_sent decoded tag m) sent

  pub run_holds_what_was_sent : (old new : World) (moments : List (Moment decoded)) → IsWorld old → IsRun decoded old moments new → HoldsWhatWasSent decoded old moments new
  run_holds_what_was_sent old new moments k r =
      let kept : IsWorld new = IsWorld-run decoded old new moments k r in
      let registered : (tag : Tag) → IsOpenIn new tag → registered_payload new tag ≡ last_payload decoded old moments tag =
      λ tag o. run_keeps tag old new moments (registered_payload old tag) k r (λ _. refl) o ∙ sent_on_is tag (registered_payload old tag) moments in
      record {
        payload = registered;
        front = λ tag o. subst (λ p. IsSomeAnd p (IsFront (bytes_in (held_at new tag)))) (registered tag o) (front_registered new tag kept o);
        whole = λ tag whole. let held = whole_registered new tag kept whole in held.1 ∙ registered tag held.0;
      }
