-- The outcomes that a call returns are those of pending registrations, each once.
use Rattle.std.proofs.Common.{◌≡◌, ◌≢◌, ◌∙◌, sym, ap, subst, Bool, true, false, List, [], ◌∷◌, refl, map, Option, Some, None, is_some, Ok, Err, if◌then◌else◌}
use Rattle.std.specs.Prelude.{bytes_eq, option_map, IsSome}
use Rattle.std.specs.List.{AllByRecursion, IsDistinct, cons_option}
use Rattle.std.specs.Map.{keys_of}
use Rattle.std.specs.Option.{option_to_list}
use Rattle.std.proofs.lemmas.Cmp.{nat_list_eq_equiv}
use Rattle.std.proofs.lemmas.List.Elements.{All-from_recursion, recursion_from_All, All-weaker}
use Rattle.std.proofs.lemmas.Map.Keys.{IsDistinct-cons}
use Rattle.std.proofs.lemmas.Map.Made.{keys_of-map_values}
use Rattle.std.proofs.lemmas.Map.Views.{All-keys_from_lookup}
use Rattle.amqp_link_types.specs.declared.delivery.UnsettledMessage.{UnsettledMessage}
use Rattle.amqp_link_types.specs.declared.types.definitions.Error.{Error}
use Rattle.amqp_link_types.specs.declared.types.delivery_state.DeliveryState.{DeliveryState}
use Rattle.amqp_link_types.specs.declared.types.errors.LinkStateError.TheVariants as error
use Rattle.amqp_link_types.specs.Deliveries.{Ended}
use Rattle.amqp_link_types.specs.Entries.{Tag, Entries, entry_at, IsMap}
use Rattle.amqp_link_types.proofs.EntriesLemmas.{IsMap-none}
use Rattle.amqp_link_endpoint.specs.Attaching.{States}
use Rattle.amqp_link_core.specs.Resuming.{resolution}
use Rattle.amqp_link_core.specs.declared.resumption.Resolution.TheVariants.{Resuming, Outcome}
use Rattle.amqp_link_dispositions.specs.Ending.{settled_of, ended_of, ended_by, does_end, all_closed, closed_for}
use Rattle.amqp_link_dispositions.proofs.EndingLemmas.{each_once, each_kept}
use Rattle.amqp_link_exchange.specs.Exchanges.{to_return, outcomes_returned}
use Rattle.amqp_link_sender.specs.Senders.{Sender, settles}
use Rattle.amqp_link_endpoint.specs.Shown.{all_illegal}
use Rattle.amqp_link_sender.specs.SenderDisposes.{ended_at}
use Rattle.amqp_link_ledger.specs.Disposing.{OutcomeSeen}
use Rattle.amqp_link_ledger.specs.Fates.{Records, pending_count, IsRecorded, AreOfPending}

-- ---- the outcomes of an exchange

module _ (remote : States) where
  -- what holds of each tag of the map holds of each that has ended
  All-returned : (P : Tag → Type 0) (own : Entries UnsettledMessage) → AllByRecursion P (keys_of own) → AllByRecursion P (keys_of (outcomes_returned own remote))
  All-returned P [] all = tt
  All-returned P (e ∷ own) all =
      elim (resolution e.0 e.1 (entry_at remote e.0)) as (λ r. AllByRecursion P (keys_of (cons_option (to_return (e.0, r)) (outcomes_returned own remote)))) [
        | Resuming next ↦ All-returned P own all.1
        | Outcome outcome ↦ (all.0, All-returned P own all.1)
      ]

  IsDistinct-returned : (own : Entries UnsettledMessage) → IsMap own → IsDistinct bytes_eq (keys_of (outcomes_returned own remote))
  unfolding IsDistinct
  IsDistinct-returned [] is = tt
  IsDistinct-returned (e ∷ own) is =
      elim (resolution e.0 e.1 (entry_at remote e.0)) as (λ r. IsDistinct bytes_eq (keys_of (cons_option (to_return (e.0, r)) (outcomes_returned own remote)))) [
        | Resuming next ↦ IsDistinct-returned own is.1
        | Outcome outcome ↦ (All-returned (λ k. bytes_eq e.0 k ≡ false) own is.0, IsDistinct-returned own is.1)
      ]

-- ---- a pending registration for each

module _ (own : Entries UnsettledMessage) (records : Records) (h : IsRecorded own records) where
  abbrev HasPending : Tag → Type 0
  HasPending tag = pending_count tag records ≡ 1

  -- a tag of the map has one
  found_pending : (tag : Tag) → IsSome (entry_at own tag) → HasPending tag
  found_pending tag found = h.pending tag ∙ ap (λ b. if b then 1 else 0) found

  not_absent : (o : Option UnsettledMessage) → o ≢ None → IsSome o
  not_absent None there = absurd (there refl)
  not_absent (Some message) there = refl

  keys_pending : AllByRecursion HasPending (keys_of own)
  keys_pending = recursion_from_All HasPending (keys_of own) (All-keys_from_lookup nat_list_eq_equiv HasPending own found_pending)

  -- by the tags of the outcomes
  by_tags : (outcomes : List Ended) → IsDistinct bytes_eq (keys_of outcomes) → AllByRecursion HasPending (keys_of outcomes) → AreOfPending outcomes records
  by_tags outcomes once all = record {
    each_once = once;
    pending = All-from_recursion (λ (o : Ended). HasPending o.0) outcomes (each outcomes all);
  }
    where
      each : (os : List Ended) → AllByRecursion HasPending (keys_of os) → AllByRecursion (λ o. HasPending o.0) os
      each [] all = tt
      each (o ∷ os) all = (all.0, each os all.1)

  none_pending : AreOfPending [] records
  none_pending = by_tags [] (IsMap-none OutcomeSeen) tt

  -- each delivery of the map ends
  all_pending : (outcome : UnsettledMessage → OutcomeSeen) → AreOfPending (map (λ e. (e.0, outcome e.1)) own) records
  all_pending outcome =
      let same = sym (keys_of-map_values outcome own) in
      by_tags (map (λ e. (e.0, outcome e.1)) own) (subst (IsDistinct bytes_eq) same h.distinct) (subst (AllByRecursion HasPending) same keys_pending)

  settled_pending : (settled : Bool) (tags : List Tag) → AreOfPending (ended_of settled tags own) records
  settled_pending false tags = none_pending
  settled_pending true tags = record {
    each_once = each_once own tags;
    pending = All-weaker (λ (o : Ended). entry_at own o.0 ≢ None) (λ (o : Ended). HasPending o.0) (λ o there. found_pending o.0 (not_absent (entry_at own o.0) there))
        (settled_of own tags) (All-from_recursion (λ (o : Ended). entry_at own o.0 ≢ None) (settled_of own tags) (each_kept own tags));
  }

  pub AreOfPending-disposition : (settled : Bool) (state : Option DeliveryState) (tag : Tag) → AreOfPending (option_to_list (ended_by settled state tag own)) records
  AreOfPending-disposition settled state tag = by (does_end settled state) (entry_at own tag) refl
    where
      by : (b : Bool) (o : Option UnsettledMessage) → entry_at own tag ≡ o → AreOfPending (option_to_list (if b then option_map (λ message. (tag, Ok state)) o else None)) records
      by false o e = none_pending
      by true None e = none_pending
      by true (Some message) e = by_tags ((tag, Ok state) ∷ []) (IsDistinct-cons bytes_eq tag [] tt (IsMap-none OutcomeSeen)) (found_pending tag (ap is_some e), tt)

  pub AreOfPending-closed : (why : Option Error) → AreOfPending (all_closed why own) records
  AreOfPending-closed why = all_pending (λ _. Err (closed_for why))

  pub AreOfPending-illegal : AreOfPending (all_illegal own) records
  AreOfPending-illegal = all_pending (λ _. Err error.IllegalState)

  pub AreOfPending-returned : (remote : States) → AreOfPending (outcomes_returned own remote) records
  AreOfPending-returned remote = by_tags (outcomes_returned own remote) (IsDistinct-returned remote own h.distinct) (All-returned remote HasPending own keys_pending)

pub AreOfPending-disposed : {T : Type 0} (s : Sender T) (records : Records) → IsRecorded s.unsettled records → (settled : Bool) (tags : List Tag) → AreOfPending (ended_at s settled tags) records
AreOfPending-disposed s records h settled tags = by (settles s.snd_settle_mode)
  where
    by : (b : Bool) → AreOfPending (if b then [] else ended_of settled tags s.unsettled) records
    by true = none_pending s.unsettled records h
    by false = settled_pending s.unsettled records h settled tags
