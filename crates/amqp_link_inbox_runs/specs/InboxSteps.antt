-- What each call of an inbox changes of what is kept and stated, by its answer (OASIS AMQP 1.0 core, 2.6.12, 2.6.13 and 2.7.5).
use Rattle.std.specs.Prelude.{◌≡◌, ◌∷◌, ℕ, Bool, List, [], Option, Some, None, Result, Ok, Err, IfOk, MatchOption, MatchResult, IsSomeAnd, drop, if◌then◌else◌}
use Rattle.std.specs.List.{filter}
use Rattle.amqp_link_payloads.specs.declared.error.DecodeError.{DecodeError}
use Rattle.amqp_link_payloads.specs.declared.message.Message.{Message}
use Rattle.amqp_link_types.specs.Entries.{Tag, Entries, changed_at, entry_at, without_entries}
use Rattle.amqp_link_types.specs.Deliveries.{Delivered, Info}
use Rattle.amqp_link_types.specs.declared.types.delivery_state.DeliveryState.{DeliveryState}
use Rattle.amqp_link_core.specs.Held.{Held, held_bytes}
use Rattle.amqp_link_core.specs.Merging.{first}
use Rattle.amqp_link_dispositions.specs.Keeping.{after_dispositions, after_one, is_settled_one, map_after_sender_disposition, tags_of}
use Rattle.amqp_link_dispositions.specs.Listed.{kept_in_order}
use Rattle.amqp_link_receiver.specs.Completing.{IsDelivery}
use Rattle.amqp_link_inbox.specs.InboxAttaches.{forgotten_by, forgotten_tags, kept_after, leaves_all, without_ids}
use Rattle.amqp_link_inbox.specs.Disposing.{after_settling, info_to_dispose, infos_to_dispose, outcome_refusal, settled_at}
use Rattle.amqp_link_inbox.specs.Inboxes.{Arrives, InboxState, store_of}
use Rattle.amqp_link_inbox.specs.Storing.{Store, stage_at}
use Rattle.amqp_link_inbox.specs.Taking.{AnswersTake, IsGivenBack, complete_of, has_taken, settled_refusal, take_refusal, with_taken}
use Rattle.amqp_link_inbox.specs.declared.error.TakeError.{TakeError}
use Rattle.amqp_link_inbox.specs.declared.error.TakeError.TheVariants as error
use Rattle.amqp_link_inbox.specs.declared.error.Undecoded.{Undecoded}
use Rattle.amqp_link_inbox.specs.declared.kept.Kept.{Kept}
use Rattle.amqp_link_inbox_runs.specs.declared.call.AnswerOf.{AnswerOf}
use Rattle.amqp_link_inbox_runs.specs.declared.call.AnswerOf.TheVariants as answer
use Rattle.amqp_link_inbox_runs.specs.declared.call.Call.{Call}
use Rattle.amqp_link_inbox_runs.specs.declared.call.Call.TheVariants as call

-- a body of type B is decoded so
abbrev pub Decoder : Type 0 → Type 0
Decoder B = List ℕ → Result (Message B) DecodeError

module _ {T : Type 0} where
  -- afterwards these deliveries are kept, these wait, and these entries are stated
  pub record Has (kept : Store) (stated : Entries (Option DeliveryState)) (new : InboxState T) : Type 0 where
    pub store : store_of new ≡ kept
    pub unsettled : new.link.unsettled ≡ stated

  -- nothing of that changes
  abbrev pub KeepsAll : InboxState T → InboxState T → Type 0
  KeepsAll old new = Has (store_of old) old.link.unsettled new

  -- these deliveries are kept, and the same wait
  abbrev pub keeping : Entries Kept → InboxState T → Store
  keeping entries old = record { entries = entries; settled = old.settled }

  -- of these deliveries nothing is kept or stated, and no other has an id
  abbrev pub Forgets : List Tag → InboxState T → InboxState T → Type 0
  Forgets tags old new = Has (keeping (without_ids (without_entries old.deliveries tags)) old) (without_entries old.link.unsettled tags) new

  -- a delivery is disposed of, which settles it or states this state
  abbrev pub Disposes : Bool → DeliveryState → Tag → InboxState T → InboxState T → Type 0
  Disposes settled state tag old new = Has (keeping (after_settling settled tag old.deliveries) old) (after_one settled state tag old.link.unsettled) new

  -- several are
  abbrev pub DisposesAll : (Info → Bool) → DeliveryState → List Info → InboxState T → InboxState T → Type 0
  DisposesAll is_settled state infos old new = Has (keeping (without_entries old.deliveries (tags_of (filter is_settled infos))) old)
      (after_dispositions is_settled state (kept_in_order old.link.unsettled infos) old.link.unsettled) new

  module _ {B : Type 0} (decoded : Decoder B) where
    -- what is handed out is decoded from these bytes, if they are held
    abbrev pub IsDecodedFrom : InboxState T → Option Held → Delivered B → Type 0
    IsDecodedFrom old held delivery = IsSomeAnd held (λ held. IsDelivery old.link held.performative (decoded (held_bytes held)) delivery)

    -- a delivery is taken
    pub record Takes (tag : Tag) (r : Result (Delivered B) TakeError) (old new : InboxState T) : Type 0 where
      pub refused : AnswersTake (take_refusal (stage_at old.deliveries tag) old.link.output_handle) r
      pub delivered : IfOk r (IsDecodedFrom old (complete_of (entry_at old.deliveries tag)))
      pub undecoded : (undecoded : Undecoded) → r ≡ Err (error.Undecoded undecoded)
          → IsSomeAnd (complete_of (entry_at old.deliveries tag)) (λ held. IsGivenBack decoded held undecoded)
      pub after : Has (keeping (if has_taken r then with_taken tag old.deliveries else old.deliveries) old) old.link.unsettled new

    -- the first of those that wait is
    pub record TakesFirst (r : Result (Option (Delivered B)) TakeError) (old new : InboxState T) : Type 0 where
      pub refused : AnswersTake (settled_refusal old.settled old.link.output_handle) r
      pub delivered : IfOk r (λ taken. MatchOption taken (old.settled ≡ []) (IsDecodedFrom old (first old.settled)))
      pub undecoded : (undecoded : Undecoded) → r ≡ Err (error.Undecoded undecoded)
          → IsSomeAnd (first old.settled) (λ held. IsGivenBack decoded held undecoded)
      pub after : Has (record { entries = old.deliveries; settled = if has_taken r then drop 1 old.settled else old.settled }) old.link.unsettled new

    -- What a call changes, by its answer. One that is refused changes nothing, but that an attach may end the ids of all.
    abbrev pub Step : InboxState T → Call → AnswerOf B → InboxState T → Type 0
    Step old (call.SendAttach anew) (answer.AttachSent r) new =
        MatchResult r (λ _. Has (keeping (kept_after anew old.deliveries) old) (if anew then [] else old.link.unsettled) new) (λ _. KeepsAll old new)
    Step old (call.OnIncomingAttach attach) (answer.Attached r) new =
        MatchResult r (λ _. Forgets (forgotten_tags (forgotten_by attach old.deliveries)) old new)
        (λ error. Has (keeping (if leaves_all error then old.deliveries else without_ids old.deliveries) old) old.link.unsettled new)
    Step old (call.OnIncomingTransfer t bytes) (answer.Arrived r) new = MatchResult r (λ came. Arrives old t bytes came new) (λ _. KeepsAll old new)
    Step old (call.Take tag) (answer.Taken r) new = Takes tag r old new
    Step old call.TakeSettled (answer.SettledTaken r) new = TakesFirst r old new
    Step old (call.Dispose tag settled state batchable) (answer.Disposed r) new =
        MatchResult r (λ _. (info : Info) × (info_to_dispose old.link.local_state (entry_at old.deliveries tag) tag ≡ Ok info)
        × Disposes (is_settled_one settled old.link.rcv_settle_mode info) state tag old new) (λ _. KeepsAll old new)
    Step old (call.DisposeAll tags settled state batchable) (answer.AllDisposed r) new =
        MatchResult r (λ _. (infos : List Info) × (infos_to_dispose old.link.local_state old.deliveries tags.items ≡ Ok infos)
        × DisposesAll (is_settled_one settled old.link.rcv_settle_mode) state infos old new) (λ _. KeepsAll old new)
    Step old (call.KeepOutcome tag state) (answer.OutcomeKept r) new =
        MatchResult r (λ _. (outcome_refusal (entry_at old.deliveries tag) ≡ None)
        × Has (store_of old) (changed_at (λ _. Some state) (tag ∷ []) old.link.unsettled) new) (λ _. KeepsAll old new)
    Step old (call.OnIncomingDisposition settled state tag) (answer.DispositionTaken r) new =
        MatchResult r (λ _. Has (if settled then settled_at tag (store_of old) else store_of old)
        (map_after_sender_disposition settled state tag old.link.unsettled) new) (λ _. KeepsAll old new)
    Step old (call.SetOutputHandle handle) answer.Done new = KeepsAll old new
    Step old (call.SendFlow credit drain echo properties) (answer.FlowSent r) new = KeepsAll old new
    Step old (call.OnIncomingFlow flow) (answer.FlowTaken r) new = KeepsAll old new
    Step old (call.SendDetach closed error) (answer.DetachSent r) new = KeepsAll old new
    Step old (call.OnDetachReply detach) (answer.DetachReplied r) new = KeepsAll old new
    Step old (call.ApplyRemoteDetachOutcome detach) (answer.DetachTaken r) new = KeepsAll old new
    Step old call.OnSessionLost answer.Done new = KeepsAll old new
    Step old _ _ new = ⊥
