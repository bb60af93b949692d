-- Only a settlement resolves a registration.
use Rattle.std.proofs.Common.{◌≡◌, ◌∙◌, sym, ap, subst, Bool, true, false, cond, List, [], ◌∷◌, refl, ℕ, map, inl, inr, Ok, Err, Result, Option, Some, None, slice_get}
use Rattle.std.specs.Prelude.{bytes_eq, option_map}
use Rattle.std.proofs.lemmas.Option.{slice_get-map, slice_get_within}
use Rattle.amqp_link_payloads.specs.declared.error.DecodeError.{DecodeError}
use Rattle.amqp_link_payloads.specs.declared.message.Message.{Message}
use Rattle.amqp_link_types.specs.Entries.{Tag, Entries, entry_at}
use Rattle.amqp_link_types.specs.Refusals.{refusal}
use Rattle.amqp_link_types.specs.declared.types.delivery_state.DeliveryState.{DeliveryState}
use Rattle.amqp_link_types.specs.declared.types.delivery_state.DeliveryState.TheVariants.{Accepted}
use Rattle.amqp_link_types.specs.declared.types.errors.LinkStateError.{LinkStateError}
use Rattle.amqp_link_core.specs.declared.resumption.ResumingDelivery.{ResumingDelivery}
use Rattle.amqp_link_exchange.specs.Exchanges.{outcomes_returned}
use Rattle.amqp_link_ledger.specs.Fates.{Records, Enters, HandsOut, Resolves, Withdraws, after, fate_given, with_fates}
use Rattle.amqp_link_ledger.specs.declared.fate.Fate.{Fate}
use Rattle.amqp_link_ledger.specs.declared.fate.Fate.TheVariants.{Pending, HandedOut, Resolved, Withdrawn}
use Rattle.amqp_link_ledger.proofs.FateLemmas.{with_fates-none}
use Rattle.amqp_link_ledger.proofs.ListSteps.{some_is, by_test, tag_is, get_push_old, entry_at-map}
use Rattle.amqp_link_worlds.specs.Invariants.{IsWorld}
use Rattle.amqp_link_worlds.specs.PairRuns.{tests_of, Does, IsLeft, IsRefused, Step}
use Rattle.amqp_link_worlds.specs.declared.event.AnswerOf.{AnswerOf}
use Rattle.amqp_link_worlds.specs.declared.event.AnswerOf.TheVariants as answer
use Rattle.amqp_link_worlds.specs.declared.event.Event.{Event}
use Rattle.amqp_link_worlds.specs.declared.event.Event.TheVariants.{Attach, Grant, Send, Arrive, Cut, ResumeNext, PutBackNext, HandOut, Settle, Withdraw}
use Rattle.amqp_link_worlds.specs.Steps.{list_to_resume, attach_tests}
use Rattle.amqp_link_worlds.specs.Worlds.{World}
use Rattle.amqp_link_worlds.specs.declared.error.PairError.{PairError}
use Rattle.amqp_link_worlds.specs.declared.error.PairError.TheVariants.{Decode, OutOfMemory}
use Rattle.amqp_link_worlds.proofs.WorldLemmas.{none_hold, attach_returns_none}

abbrev Outcome : Type 0
Outcome = Result (Option DeliveryState) LinkStateError

not_pending : (outcome : Outcome) → Pending ≡ Resolved outcome → ⊥
not_pending outcome h = cc

not_handed_out : (outcome : Outcome) → HandedOut ≡ Resolved outcome → ⊥
not_handed_out outcome h = cc

not_the_withdrawn : (outcome : Outcome) → Withdrawn ≡ Resolved outcome → ⊥
not_the_withdrawn outcome h = cc

outcome_is : {a b : Outcome} → Resolved a ≡ Resolved b → a ≡ b
outcome_is h = cc

-- a registration that is pending before is resolved after
record ResolvesAt (n : ℕ) (tag : Tag) (outcome : Outcome) (old new : Records) : Type 0 where
  pending : slice_get old n ≡ Some (tag, Pending)
  over : slice_get new n ≡ Some (tag, Resolved outcome)

module _ (n : ℕ) (tag : Tag) (outcome : Outcome) where
  -- not where the registration stays
  by_nothing : (old new : Records) → slice_get new n ≡ slice_get old n → ResolvesAt n tag outcome old new → ⊥
  by_nothing old new same r = not_pending outcome (ap (λ (p : Tag × Fate). p.1) (some_is (sym r.pending ∙ sym same ∙ r.over)))

  -- not where an entry enters
  by_entering : (entering : Tag) (old : Records) → ResolvesAt n tag outcome old (after (Enters entering) old) → ⊥
  by_entering entering old r = by_nothing old (after (Enters entering) old) (get_push_old old n (entering, Pending) (slice_get_within old n (tag, Pending) r.pending)) r

  -- the fate that is given
  given_then : (given : Entries Fate) (old : Records) → ResolvesAt n tag outcome old (with_fates given old) → fate_given (entry_at given tag) Pending ≡ Resolved outcome
  given_then given old r =
      ap (λ (p : Tag × Fate). p.1) (some_is (
      sym (slice_get-map (λ (r : Tag × Fate). (r.0, fate_given (entry_at given r.0) r.1)) old n ∙ ap (option_map (λ (r : Tag × Fate). (r.0, fate_given (entry_at given r.0) r.1))) r.pending)
      ∙ r.over))

  -- not where a list is handed out
  by_handing_out : (list : Entries ResumingDelivery) (old : Records) → ResolvesAt n tag outcome old (after (HandsOut list) old) → ⊥
  by_handing_out list old r =
      by (entry_at list tag) (ap (λ o. fate_given o Pending) (sym (entry_at-map (λ _. HandedOut) list tag)) ∙ given_then (map (λ d. (d.0, HandedOut)) list) old r)
    where
      by : (o : Option ResumingDelivery) → fate_given (option_map (λ _. HandedOut) o) Pending ≡ Resolved outcome → ⊥
      by None h = not_pending outcome h
      by (Some next) h = not_handed_out outcome h

  -- not where a delivery is withdrawn
  by_withdrawing : (withdrawn : Tag) (old : Records) → ResolvesAt n tag outcome old (after (Withdraws withdrawn) old) → ⊥
  by_withdrawing withdrawn old r = by (bytes_eq tag withdrawn) (given_then ((withdrawn, Withdrawn) ∷ []) old r)
    where
      by : (b : Bool) → fate_given (cond b (Some Withdrawn) None) Pending ≡ Resolved outcome → ⊥
      by true h = not_the_withdrawn outcome h
      by false h = not_pending outcome h

  -- where a delivery is settled, it is the one, and accepted
  by_settling : (settled : Tag) (old : Records) → ResolvesAt n tag outcome old (after (Resolves ((settled, Ok (Some Accepted)) ∷ [])) old) → (tag ≡ settled) × (outcome ≡ Ok (Some Accepted))
  by_settling settled old r =
      let given : fate_given (cond (bytes_eq tag settled) (Some (Resolved (Ok (Some Accepted)))) None) Pending ≡ Resolved outcome = given_then ((settled, Resolved (Ok (Some Accepted))) ∷ []) old r in
      by_test (bytes_eq tag settled)
      (λ y. (tag_is tag settled y, sym (outcome_is (ap (λ b. fate_given (cond b (Some (Resolved (Ok (Some Accepted)))) None) Pending) (sym y) ∙ given))))
      (λ y. absurd (not_pending outcome (ap (λ b. fate_given (cond b (Some (Resolved (Ok (Some Accepted)))) None) Pending) (sym y) ∙ given)))

  -- by the world that a step leaves
  along : (old new w : World) → new ≡ w → ResolvesAt n tag outcome old.ledger.records new.ledger.records → ResolvesAt n tag outcome old.ledger.records w.ledger.records
  along old new w is r = subst (λ (x : World). ResolvesAt n tag outcome old.ledger.records x.ledger.records) is r

  stays : (old new w : World) → new ≡ w → w.ledger.records ≡ old.ledger.records → ResolvesAt n tag outcome old.ledger.records new.ledger.records → ⊥
  stays old new w is same r = by_nothing old.ledger.records w.ledger.records (ap (λ records. slice_get records n) same) (along old new w is r)

  module _ {B : Type 0} (decoded : List ℕ → Result (Message B) DecodeError) where
    abbrev IsSettlement : Event → Type 0
    IsSettlement e = (e ≡ Settle tag) × (outcome ≡ Ok (Some Accepted))

    done_resolves : (old new : World) (e : Event) (answer : AnswerOf B) → IsWorld old → refusal (tests_of decoded old e) ≡ None → Does decoded old e answer new
        → ResolvesAt n tag outcome old.ledger.records new.ledger.records → IsSettlement e
    done_resolves old new (Attach limit) (answer.Attached count) k may d r =
        let off = (none_hold (attach_tests old limit) may).0 in
        let before : after (Resolves (outcomes_returned old.ledger.link.unsettled old.receiver.unsettled)) old.ledger.records ≡ old.ledger.records =
        ap (λ outcomes. after (Resolves outcomes) old.ledger.records) (attach_returns_none old k off) ∙ with_fates-none old.ledger.records in
        absurd (by_handing_out (list_to_resume old) old.ledger.records
        (subst (λ records. ResolvesAt n tag outcome old.ledger.records (after (HandsOut (list_to_resume old)) records)) before (along old new _ d.world r)))
    done_resolves old new (Grant m) (answer.Granted credit) k may d r = absurd (stays old new _ d.world refl r)
    done_resolves old new (Send payload) (answer.Sent sent count) k may d r = absurd (by_entering sent old.ledger.records (along old new _ d.world r))
    done_resolves old new (Arrive id) (answer.Arrived at section offset whole) k may d r = absurd (stays old new _ d.world refl r)
    done_resolves old new (Arrive id) (answer.Aborted at) k may d r = absurd (stays old new _ d.world refl r)
    done_resolves old new Cut answer.Cut k may d r = absurd (stays old new _ d.world refl r)
    done_resolves old new ResumeNext (answer.Resumed next count resume) k may d r = absurd (by_entering next old.ledger.records (along old new _ d.world r))
    done_resolves old new ResumeNext (answer.Aborted next) k may d r = absurd (stays old new _ d.world refl r)
    done_resolves old new PutBackNext (answer.PutBack next) k may d r = elim (d) [
      | inl entry ↦ absurd (by_entering next old.ledger.records (along old new _ entry.world r))
      | inr abort ↦ absurd (stays old new _ abort.world refl r)
    ]
    done_resolves old new (HandOut out) (answer.HandedOut delivery) k may d r = absurd (stays old new _ d.world refl r)
    done_resolves old new (Settle settled) answer.Settled k may d r =
        let is = by_settling settled old.ledger.records (along old new _ d.world r) in
        (ap Settle (sym is.0), is.1)
    done_resolves old new (Withdraw withdrawn) answer.Withdrawn k may d r = absurd (by_withdrawing withdrawn old.ledger.records (along old new _ d.world r))
    done_resolves old new _ _ k may d r = absurd d

    left_resolves : (old new : World) (e : Event) → IsLeft decoded old e new → ResolvesAt n tag outcome old.ledger.records new.ledger.records → ⊥
    left_resolves old new (Attach limit) l r = elim (l) [ inl same ↦ stays old new old same refl r | inr s ↦ stays old new _ s.1.world refl r ]
    left_resolves old new (Grant m) l r = l
    left_resolves old new Cut l r = l
    left_resolves old new (Withdraw t) l r = l
    left_resolves old new (Send payload) l r = stays old new old l refl r
    left_resolves old new (Arrive id) l r = stays old new old l.1 refl r
    left_resolves old new ResumeNext l r = stays old new old l refl r
    left_resolves old new PutBackNext l r = stays old new old l refl r
    left_resolves old new (HandOut t) l r = stays old new old l refl r
    left_resolves old new (Settle t) l r = stays old new old l refl r

    refused_resolves : (old new : World) (e : Event) (error : PairError) → IsRefused decoded old e error new → ResolvesAt n tag outcome old.ledger.records new.ledger.records → ⊥
    refused_resolves old new (HandOut out) Decode l r = stays old new _ l.2 refl r
    refused_resolves old new (HandOut out) _ l r = stays old new old l refl r
    refused_resolves old new (Attach limit) error l r = stays old new old l refl r
    refused_resolves old new (Grant m) error l r = stays old new old l refl r
    refused_resolves old new (Send payload) error l r = stays old new old l refl r
    refused_resolves old new (Arrive id) error l r = stays old new old l refl r
    refused_resolves old new Cut error l r = stays old new old l refl r
    refused_resolves old new ResumeNext error l r = stays old new old l refl r
    refused_resolves old new PutBackNext error l r = stays old new old l refl r
    refused_resolves old new (Settle t) error l r = stays old new old l refl r
    refused_resolves old new (Withdraw t) error l r = stays old new old l refl r

    step_resolves : (old new : World) (e : Event) (r : Result (AnswerOf B) PairError) → IsWorld old → Step decoded old e r new → ResolvesAt n tag outcome old.ledger.records new.ledger.records → IsSettlement e
    step_resolves old new e (Ok answer) k s r = done_resolves old new e answer k s.0 s.1 r
    step_resolves old new e (Err OutOfMemory) k s r = absurd (left_resolves old new e s.1 r)
    step_resolves old new e (Err error) k s r = absurd (refused_resolves old new e error s.1 r)

pub resolved_by_settling : {B : Type 0} (decoded : List ℕ → Result (Message B) DecodeError) (old new : World) (e : Event) (r : Result (AnswerOf B) PairError) → IsWorld old → Step decoded old e r new
    → (n : ℕ) (tag : Tag) (outcome : Outcome) → slice_get old.ledger.records n ≡ Some (tag, Pending) → slice_get new.ledger.records n ≡ Some (tag, Resolved outcome)
    → (e ≡ Settle tag) × (outcome ≡ Ok (Some Accepted))
resolved_by_settling decoded old new e r k s n tag outcome pending over = step_resolves n tag outcome decoded old new e r k s (record { pending = pending; over = over })
