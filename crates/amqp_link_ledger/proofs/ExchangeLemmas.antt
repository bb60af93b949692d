-- What an attach makes of the registrations: the exchange hands out each delivery that has not ended, and an
-- attach anew ends all.
use Rattle.std.proofs.Common.{◌≡◌, ◌∙◌, sym, ap, ℕ, zero, suc, ◌<◌, Bool, true, false, cond, ◌==◌, ◌&&◌, List, [], ◌∷◌, ◌++◌, refl, length, Option, Some, None, is_some, Err, ◌⊎◌, inl, inr, if◌then◌else◌, slice_index_or, arith}
use Rattle.std.specs.Prelude.{bytes_eq, is_none, unwrap_or, All, MatchOption, IfNone}
use Rattle.std.specs.List.{filter_map}
use Rattle.std.proofs.lemmas.Bool.Decides.{nat_tests}
use Rattle.amqp_link_types.specs.Deliveries.{Ended}
use Rattle.amqp_link_types.specs.Entries.{Tag, Entries, entry_at}
use Rattle.amqp_link_endpoint.specs.AttachTests.{Tests, refused_if, first_refusal, left_by_first, left_after}
use Rattle.amqp_link_endpoint.proofs.TestLemmas.{left_after_is, refused_leaves}
use Rattle.amqp_link_types.specs.declared.delivery.UnsettledMessage.{UnsettledMessage}
use Rattle.amqp_link_types.specs.declared.types.attach.Attach.{Attach}
use Rattle.amqp_link_types.specs.declared.types.errors.LinkStateError.TheVariants as link_error
use Rattle.amqp_link_types.specs.declared.types.errors.SenderAttachError.{SenderAttachError}
use Rattle.amqp_link_types.specs.declared.types.errors.SenderAttachError.TheVariants as error
use Rattle.amqp_link_types.specs.declared.types.terminus.TargetArchetype.{TargetArchetype}
use Rattle.amqp_link_state.specs.declared.state.LinkState.{LinkState}
use Rattle.amqp_link_state.specs.declared.state.LinkState.TheVariants.{Unattached, AttachSent, IncompleteAttachSent, AttachReceived, IncompleteAttachReceived, Attached, IncompleteAttachExchanged, DetachSent, Detached, CloseSent, Closed}
use Rattle.amqp_link_endpoint.specs.AttachFields.{next_of, remote_entries}
use Rattle.amqp_link_endpoint.specs.Attaching.{States}
use Rattle.amqp_link_core.specs.Resuming.{resolution}
use Rattle.amqp_link_core.specs.declared.resumption.Resolution.{Resolution}
use Rattle.amqp_link_core.specs.declared.resumption.Resolution.TheVariants.{Resuming, Outcome}
use Rattle.amqp_link_exchange.specs.Exchanges.{resolutions, to_resume, to_return, unknown_aborted, deliveries_to_resume, outcomes_returned}
use Rattle.amqp_link_sender.specs.declared.sender_link.incoming.AttachPlan.{AttachPlan}
use Rattle.amqp_link_sender.specs.declared.sender_link.incoming.SenderAttachExchange.{SenderAttachExchange}
use Rattle.amqp_link_sender.specs.declared.sender_link.incoming.SenderAttachExchange.TheVariants as exchange
use Rattle.amqp_link_endpoint.specs.Shown.{all_illegal}
use Rattle.amqp_link_sender.specs.SenderAttaches.{is_nothing, resumption_in, exchange_in, disagree, sender_came, sender_targeted, sender_termini_refusal, sender_tests, sender_refusal, sender_left, is_sender_out_of_memory, IsAttachPlan}
use Rattle.amqp_link_sender.specs.Senders.{Sender}
use Rattle.amqp_link_ledger.specs.Exchanging.{deliveries_in, ledger_taken}
use Rattle.amqp_link_ledger.specs.Fates.{Records, HandsOut, Resolves, after, IsRecorded}
use Rattle.amqp_link_ledger.specs.Ledgers.{Ledger}
use Rattle.amqp_link_ledger.proofs.ListSteps.{false_true, entry_at-map, is_some-option_map}
use Rattle.amqp_link_ledger.proofs.RecordLemmas.{IsRecorded-exchanged, IsRecorded-resolves_all, resolves-none}

-- ---- the deliveries of an exchange

module _ (tag : Tag) where
  -- a delivery without an outcome is in the list
  in_list : (rs : Entries Resolution) → is_some (entry_at (filter_map to_return rs) tag) ≡ false → is_some (entry_at rs tag) ≡ true → is_some (entry_at (filter_map to_resume rs) tag) ≡ true
  in_list [] none there = there
  in_list ((t, Resuming next) ∷ rs) none there =
      elim (bytes_eq tag t) as (λ b. is_some (cond b (Some (Resuming next)) (entry_at rs tag)) ≡ true → is_some (cond b (Some next) (entry_at (filter_map to_resume rs) tag)) ≡ true) [
        | true ↦ λ h. refl
        | false ↦ λ h. in_list rs none h
      ] there
  in_list ((t, Outcome outcome) ∷ rs) none there =
      elim (bytes_eq tag t) as (λ b. is_some (cond b (Some outcome) (entry_at (filter_map to_return rs) tag)) ≡ false → is_some (cond b (Some (Outcome outcome)) (entry_at rs tag)) ≡ true → is_some (entry_at (filter_map to_resume rs) tag) ≡ true) [
        | true ↦ λ n h. absurd (false_true n refl)
        | false ↦ λ n h. in_list rs n h
      ] none there

  resolved_there : (own : Entries UnsettledMessage) (remote : States) → is_some (entry_at (resolutions own remote) tag) ≡ is_some (entry_at own tag)
  resolved_there [] remote = refl
  resolved_there (e ∷ own) remote =
      elim (bytes_eq tag e.0) as (λ b. is_some (cond b (Some (resolution e.0 e.1 (entry_at remote e.0))) (entry_at (resolutions own remote) tag)) ≡ is_some (cond b (Some e.1) (entry_at own tag))) [
        | true ↦ refl
        | false ↦ resolved_there own remote
      ]

  in_front : {X : Type 0} (a b : Entries X) → is_some (entry_at a tag) ≡ true → is_some (entry_at (a ++ b) tag) ≡ true
  in_front [] b h = absurd (false_true refl h)
  in_front (e ∷ a) b h =
      elim (bytes_eq tag e.0) as (λ c. is_some (cond c (Some e.1) (entry_at a tag)) ≡ true → is_some (cond c (Some e.1) (entry_at (a ++ b) tag)) ≡ true) [
        | true ↦ λ h. refl
        | false ↦ λ h. in_front a b h
      ] h

pub recorded-exchanged : (m : Entries UnsettledMessage) (records : Records) → IsRecorded m records → (remote : States)
    → IsRecorded {V = UnsettledMessage} [] (after (HandsOut (deliveries_to_resume m remote)) (after (Resolves (outcomes_returned m remote)) records))
recorded-exchanged m records h remote =
    IsRecorded-exchanged m records h UnsettledMessage (outcomes_returned m remote) (deliveries_to_resume m remote)
    (λ tag none there. in_front tag (filter_map to_resume (resolutions m remote)) (unknown_aborted m remote)
    (in_list tag (resolutions m remote) none (resolved_there tag m remote ∙ there)))

-- the list of an exchange is what it gives to the user
none_long : {X : Type 0} (xs : List X) → (length xs == 0) ≡ true → xs ≡ []
none_long [] h = refl
none_long (x ∷ xs) h = absurd (grind (arith, nat_tests))

both_true : (a b : Bool) → (a && b) ≡ true → (a ≡ true) × (b ≡ true)
both_true true true h = (refl, refl)
both_true true false h = absurd (false_true refl h)
both_true false b h = absurd (false_true refl h)

pub deliveries_in-exchange : (state : LinkState) (own : Entries UnsettledMessage) (remote : States) → deliveries_in (exchange_in state own remote) ≡ deliveries_to_resume own remote
deliveries_in-exchange state own remote = by (is_nothing own remote) state refl
  where
    nothing : is_nothing own remote ≡ true → deliveries_to_resume own remote ≡ []
    nothing h =
        let each = both_true (length own == 0) (length remote == 0) h in
        ap (λ o. deliveries_to_resume o remote) (none_long own each.0) ∙ ap (deliveries_to_resume []) (none_long remote each.1)

    by : (b : Bool) (state : LinkState) → is_nothing own remote ≡ b → deliveries_in (if b then exchange.Complete else resumption_in state (deliveries_to_resume own remote)) ≡ deliveries_to_resume own remote
    by true state h = sym (nothing h)
    by false Unattached h = refl
    by false AttachSent h = refl
    by false IncompleteAttachSent h = refl
    by false AttachReceived h = refl
    by false IncompleteAttachReceived h = refl
    by false Attached h = refl
    by false IncompleteAttachExchanged h = refl
    by false DetachSent h = refl
    by false Detached h = refl
    by false CloseSent h = refl
    by false Closed h = refl

-- ---- a link that attaches anew

all_are_illegal : (m : Entries UnsettledMessage) (k : ℕ) (d : Ended) → k < length (all_illegal m) → (slice_index_or (all_illegal m) k d).1 ≡ Err link_error.IllegalState
all_are_illegal [] k d h = absurd (omega arith)
all_are_illegal (e ∷ m) zero d h = refl
all_are_illegal (e ∷ m) (suc k) d h = all_are_illegal m k d (omega arith)

pub illegal_if : (b : Bool) (m : Entries UnsettledMessage) → All (λ e. e.1 ≡ Err link_error.IllegalState) (if b then all_illegal m else [])
illegal_if true m = all_are_illegal m
illegal_if false m = λ k d h. absurd (omega arith)

pub recorded-given_up : (b : Bool) (m : Entries UnsettledMessage) (records : Records) → IsRecorded m records
    → IsRecorded (if b then [] else m) (after (Resolves (if b then all_illegal m else [])) records)
recorded-given_up true m records h =
    IsRecorded-resolves_all m records h UnsettledMessage (all_illegal m)
    (λ tag there. ap is_some (entry_at-map _ m tag) ∙ is_some-option_map _ (entry_at m tag) ∙ there)
recorded-given_up false m records h = rw (resolves-none records) h

pub resolved_if : (b : Bool) (m : Entries UnsettledMessage) (records : Records)
    → after (Resolves (if b then all_illegal m else [])) records ≡ (if b then after (Resolves (all_illegal m)) records else records)
resolved_if true m records = refl
resolved_if false m records = resolves-none records

-- ---- an attach that is refused

-- the flag names the error of a call that is out of memory
is_memory : (e : SenderAttachError) → is_sender_out_of_memory e ≡ true → e ≡ error.OutOfMemory
is_memory (error.SessionStopped why) h = absurd (cc)
is_memory error.SessionNotMapped h = absurd (cc)
is_memory error.IllegalState h = absurd (cc)
is_memory error.NonAttachFrameReceived h = absurd (cc)
is_memory error.ExpectImmediateDetach h = absurd (cc)
is_memory (error.RemoteClosedWithError why) h = absurd (cc)
is_memory error.DuplicatedLinkName h = absurd (cc)
is_memory error.CoordinatorIsNotImplemented h = absurd (cc)
is_memory error.IncomingTargetIsNone h = absurd (cc)
is_memory error.SndSettleModeNotSupported h = absurd (cc)
is_memory error.SourceAddressIsSomeWhenDynamicIsTrue h = absurd (cc)
is_memory error.TargetAddressIsNoneWhenDynamicIsTrue h = absurd (cc)
is_memory error.DynamicNodePropertiesIsSomeWhenDynamicIsFalse h = absurd (cc)
is_memory error.AttachTooLarge h = absurd (cc)
is_memory error.OutOfMemory h = refl

module _ {T : Type 0} (admitted : TargetArchetype → Option T) (refused : T → T → Option SenderAttachError) (s : Sender T) (attach : Attach) where
  -- the tests past that for a transition
  abbrev further : Tests SenderAttachError (Sender T)
  further =
      (sender_termini_refusal admitted refused s attach.source attach.target, sender_came s attach)
      ∷ (refused_if (disagree s.snd_settle_mode attach.snd_settle_mode) error.SndSettleModeNotSupported, sender_targeted admitted s attach)
      ∷ []

  -- all tests, if this is the transition
  abbrev tests_at : Option LinkState → Tests SenderAttachError (Sender T)
  tests_at o = (refused_if (is_none o) error.IllegalState, s) ∷ further

  -- without a transition
  pub refused_without : (e : SenderAttachError) → (e ≡ error.OutOfMemory) ⊎ (sender_refusal admitted refused s attach ≡ Some e)
      → (e ≡ error.OutOfMemory → sender_refusal admitted refused s attach ≡ None) → next_of s.local_state attach ≡ None → e ≡ error.IllegalState
  refused_without e why memory none = by why
    where
      first : sender_refusal admitted refused s attach ≡ Some error.IllegalState
      first = ap (λ o. first_refusal (tests_at o)) none

      by : (e ≡ error.OutOfMemory) ⊎ (sender_refusal admitted refused s attach ≡ Some e) → e ≡ error.IllegalState
      by (inl is) = let no = memory is in absurd (cc (no, first))
      by (inr stop) = let is : Some e ≡ Some error.IllegalState = sym stop ∙ first in cc

  -- with one the state has moved
  pub refused_with : (e : SenderAttachError) → (e ≡ error.OutOfMemory) ⊎ (sender_refusal admitted refused s attach ≡ Some e) → (next : LinkState)
      → next_of s.local_state attach ≡ Some next → (e ≡ error.OutOfMemory) ⊎ ((sender_left admitted refused e s attach).local_state ≡ next)
  refused_with e (inl is) next some = inl is
  refused_with e (inr stop) next some = by (is_sender_out_of_memory e) refl
    where
      moved : unwrap_or (next_of s.local_state attach) s.local_state ≡ next
      moved = ap (λ o. unwrap_or o s.local_state) some

      left : (left_by_first s further).local_state ≡ next
      left = refused_leaves (λ (l : Sender T). l.local_state ≡ next) s further e (sym (ap (λ o. first_refusal (tests_at o)) some) ∙ stop) (moved, (moved, tt))

      by : (b : Bool) → is_sender_out_of_memory e ≡ b → (e ≡ error.OutOfMemory) ⊎ ((left_after b s (sender_tests admitted refused s attach)).local_state ≡ next)
      by true h = inl (is_memory e h)
      by false h = inr (ap (λ (l : Sender T). l.local_state) (ap (λ o. left_by_first s (tests_at o)) some) ∙ left)

  module _ (e : SenderAttachError) (why : (e ≡ error.OutOfMemory) ⊎ (sender_refusal admitted refused s attach ≡ Some e)) (memory : e ≡ error.OutOfMemory → sender_refusal admitted refused s attach ≡ None) where
    pub step_refused : (o : Option LinkState) → next_of s.local_state attach ≡ o
        → MatchOption o (e ≡ error.IllegalState) (λ next. (e ≡ error.OutOfMemory) ⊎ ((sender_left admitted refused e s attach).local_state ≡ next))
    step_refused None h = refused_without e why memory h
    step_refused (Some next) h = refused_with e why next h

    pub kept_refused : (records : Records) (o : Option LinkState) → next_of s.local_state attach ≡ o
        → IfNone o (let now : Ledger T = record { link = sender_left admitted refused e s attach; records = records } in now ≡ record { link = s; records = records })
    kept_refused records None h =
        let is = refused_without e why memory h in
        let first : left_by_first s (sender_tests admitted refused s attach) ≡ s = ap (λ o. left_by_first s (tests_at o)) h in
        let same : sender_left admitted refused e s attach ≡ s = ap (λ x. sender_left admitted refused x s attach) is ∙ first in
        cc
    kept_refused records (Some next) h = tt

  -- no refusal touches the unsettled deliveries
  pub unsettled-left : (e : SenderAttachError) → (sender_left admitted refused e s attach).unsettled ≡ s.unsettled
  unsettled-left e = left_after_is (λ (l : Sender T). l.unsettled ≡ s.unsettled) (is_sender_out_of_memory e) s (sender_tests admitted refused s attach) refl (refl, (refl, (refl, tt)))

-- ---- an attach that is taken as it was planned

module _ {T : Type 0} (admitted : TargetArchetype → Option T) (before now : Ledger T) (attach : Attach) (plan : AttachPlan T) (follows : SenderAttachExchange) (outcomes : List Ended) where
  -- what follows depends on the state in the plan, which is that of the ledger afterwards
  pub taken_by_plan : IsAttachPlan admitted before.link attach plan → now ≡ ledger_taken admitted before attach
      → follows ≡ exchange_in plan.next before.link.unsettled (remote_entries attach) → outcomes ≡ outcomes_returned before.link.unsettled (remote_entries attach)
      → (now ≡ ledger_taken admitted before attach) × ((follows ≡ exchange_in now.link.local_state before.link.unsettled (remote_entries attach))
      × (outcomes ≡ outcomes_returned before.link.unsettled (remote_entries attach)))
  taken_by_plan planned taken exchanged ended = (taken, (exchanged ∙ ap (λ state. exchange_in state before.link.unsettled (remote_entries attach)) (sym state), ended))
    where
      state : now.link.local_state ≡ plan.next
      state = ap (λ (l : Ledger T). l.link.local_state) taken ∙ ap (λ o. unwrap_or o before.link.local_state) planned.next
