-- Whether a delivery is out, after each event.
use Rattle.std.proofs.Common.{◌≡◌, ◌∙◌, sym, ap, Bool, true, false, ℕ, List, refl, inl, inr, not, Err, Result, ◌||◌}
use Rattle.std.specs.Prelude.{Option, Some, None, ◌&&◌}
use Rattle.std.specs.Option.{option_map_or}
use Rattle.amqp_link_payloads.specs.declared.error.DecodeError.{DecodeError}
use Rattle.amqp_link_payloads.specs.declared.message.Message.{Message}
use Rattle.amqp_link_types.specs.Entries.{Tag, entry_at, without_entry}
use Rattle.amqp_link_types.specs.Refusals.{refusal}
use Rattle.amqp_link_types.specs.declared.delivery.UnsettledMessage.{UnsettledMessage}
use Rattle.amqp_link_types.proofs.MapLemmas.{same_tag, other_tag, entry_at-put, entry_at-put_other}
use Rattle.amqp_link_sender.specs.Senders.{new_entry}
use Rattle.amqp_link_worlds.specs.Invariants.{IsWorld}
use Rattle.amqp_link_worlds.specs.PairRuns.{is_out_after, tests_of, Does, IsLeft, IsRefused, Step}
use Rattle.amqp_link_worlds.specs.declared.event.AnswerOf.{AnswerOf}
use Rattle.amqp_link_worlds.specs.declared.event.AnswerOf.TheVariants as answer
use Rattle.amqp_link_worlds.specs.declared.event.Event.{Event}
use Rattle.amqp_link_worlds.specs.declared.event.Event.TheVariants.{Attach, Grant, Send, Arrive, Cut, ResumeNext, PutBackNext, HandOut, Settle, Withdraw}
use Rattle.amqp_link_worlds.specs.Steps.{PutsBack, after_withdrawal, after_hand_out, initial_progress, received, attach_tests, send_tests, next_tests}
use Rattle.amqp_link_worlds.specs.Worlds.{World, is_out, is_out_at, is_together}
use Rattle.amqp_link_worlds.specs.declared.error.PairError.{PairError}
use Rattle.amqp_link_worlds.specs.declared.error.PairError.TheVariants.{Decode, OutOfMemory}
use Rattle.amqp_link_worlds.specs.declared.progress.Progress.{Progress}
use Rattle.amqp_link_worlds.proofs.DeliveryLemmas.{taken_out}
use Rattle.amqp_link_worlds.proofs.EntriesOf.{by_tag, removed_here, removed_there}
use Rattle.amqp_link_worlds.proofs.WorldLemmas.{none_hold, not_is_false, listed_free, closed_aborted, off_withdrawn}

-- by the phase, the sender's entry and the progress
abbrev out_by : Bool → Option UnsettledMessage → Option Progress → Bool
out_by together own q = option_map_or (is_out together own) q false

same_out : {a b : Bool} {own own' : Option UnsettledMessage} {q q' : Option Progress} → a ≡ b → own ≡ own' → q ≡ q' → out_by a own q ≡ out_by b own' q'
same_out p r s = λ i. out_by (p i) (r i) (s i)

none_out : (b : Bool) (q : Option Progress) → out_by b None q ≡ false
none_out b None = refl
none_out b (Some p) = refl

-- nothing is out of endpoints that are not attached
apart_out : (own : Option UnsettledMessage) (q : Option Progress) → out_by false own q ≡ false
apart_out own None = refl
apart_out None (Some p) = refl
apart_out (Some entry) (Some p) = refl

out_if_taken : (b : Bool) (own : Option UnsettledMessage) (p : Progress) → out_by b own (Some (taken_out p)) ≡ out_by b own (Some p)
out_if_taken b None p = refl
out_if_taken b (Some entry) p = refl

module _ (tag : Tag) (old new : World) where
  abbrev own_before : Option UnsettledMessage
  own_before = entry_at old.ledger.link.unsettled tag

  -- a delivery was handed out
  handed_out_stays : (out : Tag) (p : Progress) → entry_at old.deliveries out ≡ Some p → new ≡ after_hand_out old out p → is_out_at new tag ≡ is_out_at old tag
  handed_out_stays out p known is =
      by_tag (λ t. is_out_at new t ≡ is_out_at old t) out
      (ap (λ (w : World). is_out_at w out) is ∙ same_out refl refl (entry_at-put old.deliveries out (taken_out p)) ∙ out_if_taken (is_together old.phase) (entry_at old.ledger.link.unsettled out) p ∙ same_out refl refl (sym known))
      (λ other n. ap (λ (w : World). is_out_at w other) is ∙ same_out refl refl (entry_at-put_other old.deliveries out other (taken_out p) n))
      tag

module _ {B : Type 0} (decoded : List ℕ → Result (Message B) DecodeError) where
  abbrev OutFollows : Tag → World → Event → AnswerOf B → World → Type 0
  OutFollows tag old e answer new = is_out_at new tag ≡ is_out_after tag e answer (is_out_at old tag)

  put_back_follows : (tag next : Tag) (old new : World) → IsWorld old → refusal (next_tests old) ≡ None → PutsBack old next new → OutFollows tag old PutBackNext (answer.PutBack next) new
  put_back_follows tag next old new k may d =
      let on : is_together old.phase ≡ true = not_is_false (is_together old.phase) (none_hold (next_tests old) may).0 in
      by_tag (λ t. OutFollows t old PutBackNext (answer.PutBack next) new) next
      (ap (λ (w : World). is_out_at w next) d.world
      ∙ same_out on (entry_at-put old.ledger.link.unsettled next d.entry) (entry_at-put old.deliveries next (record d.before { put_back = true }))
      ∙ sym (none_out (is_together old.phase) (entry_at old.deliveries next))
      ∙ sym (same_out refl (listed_free old next d.next d.others k d.listed) refl))
      (λ other n. ap (λ (w : World). is_out_at w other) d.world
      ∙ same_out refl (entry_at-put_other old.ledger.link.unsettled next other d.entry n) (entry_at-put_other old.deliveries next other (record d.before { put_back = true }) n))
      tag

  pub out_follows : (tag : Tag) (old new : World) (e : Event) (answer : AnswerOf B) → IsWorld old → refusal (tests_of decoded old e) ≡ None → Does decoded old e answer new → OutFollows tag old e answer new
  out_follows tag old new (Attach limit) (answer.Attached count) k may d = ap (λ (w : World). is_out_at w tag) d.world ∙ none_out true (entry_at old.deliveries tag)
  out_follows tag old new (Grant n) (answer.Granted credit) k may d = ap (λ (w : World). is_out_at w tag) d.world
  out_follows tag old new (Send payload) (answer.Sent sent count) k may d =
      let on : is_together old.phase ≡ true = not_is_false (is_together old.phase) (none_hold (send_tests old payload) may).0 in
      by_tag (λ t. OutFollows t old (Send payload) (answer.Sent sent count) new) sent
      (ap (λ (w : World). is_out_at w sent) d.world
      ∙ same_out on (entry_at-put old.ledger.link.unsettled sent (new_entry 0 payload)) (entry_at-put old.deliveries sent initial_progress)
      ∙ sym (ap (λ b. b || is_out_at old sent) (same_tag sent)))
      (λ other n. ap (λ (w : World). is_out_at w other) d.world
      ∙ same_out refl (entry_at-put_other old.ledger.link.unsettled sent other (new_entry 0 payload) n) (entry_at-put_other old.deliveries sent other initial_progress n)
      ∙ sym (ap (λ b. b || is_out_at old other) (other_tag other sent n)))
      tag
  out_follows tag old new (Arrive id) (answer.Arrived at section offset whole) k may d =
      by_tag (λ t. OutFollows t old (Arrive id) (answer.Arrived at section offset whole) new) at
      (ap (λ (w : World). is_out_at w at) d.world
      ∙ same_out refl refl (entry_at-put old.deliveries at (received d.before id d.first.frame))
      ∙ arrived_stays (is_together old.phase) (entry_at old.ledger.link.unsettled at) d.before
      ∙ same_out refl refl (sym d.known))
      (λ other n. ap (λ (w : World). is_out_at w other) d.world ∙ same_out refl refl (entry_at-put_other old.deliveries at other (received d.before id d.first.frame) n))
      tag
    where
      arrived_stays : (b : Bool) (own : Option UnsettledMessage) (p : Progress) → out_by b own (Some (received p id d.first.frame)) ≡ out_by b own (Some p)
      arrived_stays b None p = refl
      arrived_stays b (Some entry) p = refl
  out_follows tag old new (Arrive id) (answer.Aborted at) k may d =
      by_tag (λ t. OutFollows t old (Arrive id) (answer.Aborted at) new) at
      (ap (λ (w : World). is_out_at w at) d.world
      ∙ same_out refl refl (removed_here old.deliveries at k.deliveries)
      ∙ sym (same_out refl (closed_aborted old new at k may d).0 refl ∙ none_out (is_together old.phase) (entry_at old.deliveries at)))
      (λ other n. ap (λ (w : World). is_out_at w other) d.world ∙ same_out refl refl (removed_there old.deliveries at other k.deliveries n))
      tag
  out_follows tag old new Cut answer.Cut k may d = ap (λ (w : World). is_out_at w tag) d.world ∙ apart_out (entry_at old.ledger.link.unsettled tag) (entry_at old.deliveries tag)
  out_follows tag old new ResumeNext (answer.Resumed next count resume) k may d =
      let on : is_together old.phase ≡ true = not_is_false (is_together old.phase) (none_hold (next_tests old) may).0 in
      by_tag (λ t. OutFollows t old ResumeNext (answer.Resumed next count resume) new) next
      (ap (λ (w : World). is_out_at w next) d.world
      ∙ same_out on (entry_at-put old.ledger.link.unsettled next d.entry) (entry_at-put old.deliveries next (record d.before { put_back = false }))
      ∙ sym (ap (λ b. b || is_out_at old next) (same_tag next)))
      (λ other n. ap (λ (w : World). is_out_at w other) d.world
      ∙ same_out refl (entry_at-put_other old.ledger.link.unsettled next other d.entry n) (entry_at-put_other old.deliveries next other (record d.before { put_back = false }) n)
      ∙ sym (ap (λ b. b || is_out_at old other) (other_tag other next n)))
      tag
  out_follows tag old new ResumeNext (answer.Aborted next) k may d = ap (λ (w : World). is_out_at w tag) d.world
  out_follows tag old new PutBackNext (answer.PutBack next) k may d = elim (d) [
    | inl entry ↦ put_back_follows tag next old new k may entry
    | inr abort ↦ ap (λ (w : World). is_out_at w tag) abort.world
  ]
  out_follows tag old new (HandOut out) (answer.HandedOut delivery) k may d = handed_out_stays tag old new out d.before d.known d.world
  out_follows tag old new (Settle settled) answer.Settled k may d =
      by_tag (λ t. OutFollows t old (Settle settled) answer.Settled new) settled
      (ap (λ (w : World). is_out_at w settled) d.world
      ∙ same_out refl (removed_here old.ledger.link.unsettled settled k.unsettled) (removed_here old.deliveries settled k.deliveries)
      ∙ sym (ap (λ b. not b && is_out_at old settled) (same_tag settled)))
      (λ other n. ap (λ (w : World). is_out_at w other) d.world
      ∙ same_out refl (removed_there old.ledger.link.unsettled settled other k.unsettled n) (removed_there old.deliveries settled other k.deliveries n)
      ∙ sym (ap (λ b. not b && is_out_at old other) (other_tag other settled n)))
      tag
  out_follows tag old new (Withdraw withdrawn) answer.Withdrawn k may d =
      let off : is_together old.phase ≡ false = off_withdrawn old new withdrawn k may d in
      ap (λ (w : World). is_out_at w tag) d.world
      ∙ same_out off refl refl
      ∙ apart_out (entry_at (without_entry old.ledger.link.unsettled withdrawn) tag) (entry_at (after_withdrawal old.deliveries withdrawn d.before) tag)
      ∙ sym (same_out off refl refl ∙ apart_out (entry_at old.ledger.link.unsettled tag) (entry_at old.deliveries tag))
  out_follows tag old new _ _ k may d = absurd d

  left_out : (tag : Tag) (old new : World) (e : Event) → IsLeft decoded old e new → is_out_at new tag ≡ is_out_at old tag
  left_out tag old new (Attach limit) l = elim (l) [
    | inl same ↦ ap (λ (w : World). is_out_at w tag) same
    | inr s ↦
        let off : is_together old.phase ≡ false = (none_hold (attach_tests old limit) s.1.may).0 in
        ap (λ (w : World). is_out_at w tag) s.1.world ∙ same_out (sym off) refl refl
  ]
  left_out tag old new (Grant n) l = absurd l
  left_out tag old new Cut l = absurd l
  left_out tag old new (Withdraw t) l = absurd l
  left_out tag old new (Send payload) l = ap (λ (w : World). is_out_at w tag) l
  left_out tag old new (Arrive id) l = ap (λ (w : World). is_out_at w tag) l.1
  left_out tag old new ResumeNext l = ap (λ (w : World). is_out_at w tag) l
  left_out tag old new PutBackNext l = ap (λ (w : World). is_out_at w tag) l
  left_out tag old new (HandOut t) l = ap (λ (w : World). is_out_at w tag) l
  left_out tag old new (Settle t) l = ap (λ (w : World). is_out_at w tag) l

  refused_out : (tag : Tag) (old new : World) (e : Event) (error : PairError) → IsRefused decoded old e error new → is_out_at new tag ≡ is_out_at old tag
  refused_out tag old new (HandOut out) Decode r = handed_out_stays tag old new out r.0 r.1 r.2
  refused_out tag old new (HandOut out) _ r = ap (λ (w : World). is_out_at w tag) r
  refused_out tag old new (Attach limit) error r = ap (λ (w : World). is_out_at w tag) r
  refused_out tag old new (Grant n) error r = ap (λ (w : World). is_out_at w tag) r
  refused_out tag old new (Send payload) error r = ap (λ (w : World). is_out_at w tag) r
  refused_out tag old new (Arrive id) error r = ap (λ (w : World). is_out_at w tag) r
  refused_out tag old new Cut error r = ap (λ (w : World). is_out_at w tag) r
  refused_out tag old new ResumeNext error r = ap (λ (w : World). is_out_at w tag) r
  refused_out tag old new PutBackNext error r = ap (λ (w : World). is_out_at w tag) r
  refused_out tag old new (Settle t) error r = ap (λ (w : World). is_out_at w tag) r
  refused_out tag old new (Withdraw t) error r = ap (λ (w : World). is_out_at w tag) r

  -- an event that is refused changes none
  pub out_stays : (tag : Tag) (old new : World) (e : Event) (error : PairError) → Step decoded old e (Err error) new → is_out_at new tag ≡ is_out_at old tag
  out_stays tag old new e OutOfMemory s = left_out tag old new e s.1
  out_stays tag old new e error s = refused_out tag old new e error s.1
