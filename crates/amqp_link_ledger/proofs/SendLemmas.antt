-- Sends of a ledger: a delivery that was sent is registered exactly where it awaits its outcome.
use Rattle.std.proofs.Common.{◌≡◌, ◌∙◌, sym, ap, subst, ℕ, Bool, true, false, not, ◌==◌, ◌&&◌, List, [], ◌∷◌, refl, Option, Some, None, is_some, Result, Ok, Err, Vec, Global, if◌then◌else◌}
use Rattle.std.specs.Prelude.{is_none, IsSomeAnd, MatchOption, unwrap_or}
use Rattle.std.specs.Option.{option_map_or}
use Rattle.amqp_link_types.specs.Entries.{Tag, Entries, entry_at, with_entry}
use Rattle.amqp_link_types.specs.Refusals.{refusal}
use Rattle.amqp_link_types.specs.declared.delivery.Settlement.{Settlement}
use Rattle.amqp_link_types.specs.declared.delivery.UnsettledMessage.{UnsettledMessage}
use Rattle.amqp_link_types.specs.declared.frame.LinkFrame.{LinkFrame}
use Rattle.amqp_link_types.specs.declared.frame.LinkFrame.TheVariants as frame
use Rattle.amqp_link_types.specs.declared.types.definitions.OutputHandle.{OutputHandle}
use Rattle.amqp_link_types.specs.declared.types.errors.LinkStateError.{LinkStateError}
use Rattle.amqp_link_types.specs.declared.types.errors.LinkStateError.TheVariants as error
use Rattle.amqp_link_types.specs.declared.types.transfer.Transfer.{Transfer}
use Rattle.amqp_link_state.specs.declared.state.LinkState.{LinkState}
use Rattle.amqp_link_endpoint.specs.LinkStates.{Call, next_state}
use Rattle.amqp_link_split.specs.Room.{has_room}
use Rattle.amqp_link_sender.specs.declared.sender_link.Sending.{Sending}
use Rattle.amqp_link_sender.specs.declared.sender_link.Sending.TheVariants as sending
use Rattle.amqp_link_sender.specs.declared.sender_link.Waiting.{Waiting}
use Rattle.amqp_link_sender.specs.declared.sender_link.Waiting.TheVariants as waiting
use Rattle.amqp_link_sender.specs.Senders.{Sender, Delivery, refused, missing_credit, new_transfer, new_entry, settled_by_mode, settled_on_send, is_pending, settlement_of, tagged_payload_tests, tagged_transfer_tests, SendsTagged, SendsTransfer}
use Rattle.amqp_link_sender.specs.Waits.{waiting_error, after_waiting, handle_released}
use Rattle.amqp_link_ledger.specs.Fates.{Records, IsRecorded}
use Rattle.amqp_link_ledger.specs.Sends.{after_settlement}
use Rattle.amqp_link_ledger.proofs.ListSteps.{false_true}
use Rattle.amqp_link_ledger.proofs.LedgerLemmas.{none_from}
use Rattle.amqp_link_ledger.proofs.RecordLemmas.{IsRecorded-enters}

-- ---- tests that do not hold

fourth_fails : {E : Type 0} (a b c d : Bool) (p q r s : E) (rest : List (Bool × E)) → refusal ((a, p) ∷ (b, q) ∷ (c, r) ∷ (d, s) ∷ rest) ≡ None → d ≡ false
fourth_fails true b c d p q r s rest h = absurd (cc)
fourth_fails false true c d p q r s rest h = absurd (cc)
fourth_fails false false true d p q r s rest h = absurd (cc)
fourth_fails false false false true p q r s rest h = absurd (cc)
fourth_fails false false false false p q r s rest h = refl

third_fails : {E : Type 0} (a b c : Bool) (p q r : E) (rest : List (Bool × E)) → refusal ((a, p) ∷ (b, q) ∷ (c, r) ∷ rest) ≡ None → c ≡ false
third_fails true b c p q r rest h = absurd (cc)
third_fails false true c p q r rest h = absurd (cc)
third_fails false false true p q r rest h = absurd (cc)
third_fails false false false p q r rest h = refl

if_unsettled : (b c : Bool) → (not b && c) ≡ false → b ≡ false → c ≡ false
if_unsettled true c h is = absurd (false_true is refl)
if_unsettled false c h is = h

-- a send that was made
abbrev pub done : Sending → Result Sending LinkStateError
done sending = Ok sending

is_no_error : (x : Sending) (e : LinkStateError) → done x ≡ Err e → ⊥
is_no_error x e h = cc

-- ---- the records by the settlement of a delivery

recorded_from : (tag : Tag) (b : Bool) (settlement : Settlement) (m left : Entries UnsettledMessage) (records : Records) (entry : UnsettledMessage) → settlement ≡ settlement_of b tag
    → left ≡ (if b then m else with_entry m tag entry) → IsRecorded m records → (b ≡ false → is_some (entry_at m tag) ≡ false) → IsRecorded left (after_settlement settlement records)
recorded_from tag true settlement m left records entry is put h free =
    subst (λ l. IsRecorded l (after_settlement settlement records)) (sym put) (subst (λ t. IsRecorded m (after_settlement t records)) (sym is) h)
recorded_from tag false settlement m left records entry is put h free =
    subst (λ l. IsRecorded l (after_settlement settlement records)) (sym put)
    (subst (λ t. IsRecorded (with_entry m tag entry) (after_settlement t records)) (sym is) (IsRecorded-enters m records tag entry h (none_from (entry_at m tag) (free refl))))

module _ {T : Type 0} (s : Sender T) where
  -- ---- a payload

  module _ (tag : Tag) (d : Delivery) (payload : List ℕ) (settlement : Settlement) (frames : Vec LinkFrame Global) (new : Sender T) where
    Sent : Option OutputHandle → Type 0
    Sent o = IsSomeAnd o (λ handle. SendsTagged s handle tag d payload settlement frames.items new)

    settlement_is : (o : Option OutputHandle) → Sent o → settlement ≡ settlement_of (settled_by_mode s.snd_settle_mode d.settled) tag
    unfolding Sent
    settlement_is None h = absurd h
    settlement_is (Some handle) h = h.answered

    put_is : (o : Option OutputHandle) → Sent o
        → new.unsettled ≡ (if settled_by_mode s.snd_settle_mode d.settled then s.unsettled else with_entry s.unsettled tag (new_entry d.message_format payload))
    unfolding Sent
    put_is None h = absurd h
    put_is (Some handle) h = ap (λ (x : Sender T). x.unsettled) h.world

    -- nothing waits, and no test holds
    no_test : (w : Waiting) → MatchOption (waiting_error s.local_state w) (refusal (tagged_payload_tests s tag d payload) ≡ None) (λ e. done (sending.Sent settlement frames) ≡ Err e)
        → refusal (tagged_payload_tests s tag d payload) ≡ None
    no_test waiting.Nothing h = h
    no_test (waiting.Frame f) h = absurd (is_no_error (sending.Sent settlement frames) _ h)
    no_test (waiting.Stopped reason) h = absurd (is_no_error (sending.Sent settlement frames) _ h)

    pub recorded-payload : IsSomeAnd s.output_handle (λ handle. SendsTagged s handle tag d payload settlement frames.items new)
        → (w : Waiting) → MatchOption (waiting_error s.local_state w) (refusal (tagged_payload_tests s tag d payload) ≡ None) (λ e. done (sending.Sent settlement frames) ≡ Err e)
        → (records : Records) → IsRecorded s.unsettled records → IsRecorded new.unsettled (after_settlement settlement records)
    unfolding Sent
    recorded-payload sent w answer records recorded =
        recorded_from tag (settled_by_mode s.snd_settle_mode d.settled) settlement s.unsettled new.unsettled records (new_entry d.message_format payload)
        (settlement_is s.output_handle sent) (put_is s.output_handle sent) recorded
        (if_unsettled (settled_by_mode s.snd_settle_mode d.settled) (is_pending s tag)
        (fourth_fails (is_none s.output_handle) (is_none s.input_handle) (s.flow_state.link_credit == 0) (not (settled_by_mode s.snd_settle_mode d.settled) && is_pending s tag)
        (refused error.IllegalState) (refused error.IllegalState) missing_credit (refused error.TagPending)
        ((not (has_room (new_transfer s (unwrap_or s.output_handle (record { 0 = 0 })) tag d) s.max_frame_size payload), refused error.NoRoom) ∷ []) (no_test w answer)))

  -- what waits leaves the unsettled deliveries
  released-unsettled : (o : Option LinkState) → (handle_released o s).unsettled ≡ s.unsettled
  released-unsettled None = refl
  released-unsettled (Some next) = refl

  pub unsettled-waiting : (w : Waiting) → (after_waiting s w).unsettled ≡ s.unsettled
  unsettled-waiting waiting.Nothing = refl
  unsettled-waiting (waiting.Frame (frame.Detach detach)) = released-unsettled (next_state Call.RemoteDetach detach.closed s.local_state)
  unsettled-waiting (waiting.Frame _) = refl
  unsettled-waiting (waiting.Stopped reason) = refl

  -- ---- a transfer that names its delivery

  module _ (t : Transfer) (payload : List ℕ) (format : ℕ) (settlement : Settlement) (frames : List LinkFrame) (new : Sender T) (none : refusal (tagged_transfer_tests s t payload) ≡ None) where
    free_named : (tag : Tag) → t.delivery_tag ≡ Some tag → settled_on_send s t ≡ false → is_pending s tag ≡ false
    free_named tag names is =
        sym (ap (λ o. option_map_or (is_pending s) o false) names)
        ∙ if_unsettled (settled_on_send s t) (option_map_or (is_pending s) t.delivery_tag false)
        (third_fails (is_none t.delivery_tag) (is_none s.input_handle) (not (settled_on_send s t) && option_map_or (is_pending s) t.delivery_tag false)
        error.IllegalState error.IllegalState error.TagPending ((not (has_room t s.max_frame_size payload), error.NoRoom) ∷ []) none) is

    pub recorded-transfer : IsSomeAnd t.delivery_tag (λ tag. SendsTransfer s format t tag payload settlement frames new) → (records : Records) → IsRecorded s.unsettled records → IsRecorded new.unsettled (after_settlement settlement records)
    recorded-transfer sent records recorded = by t.delivery_tag refl sent
      where
        by : (o : Option Tag) → t.delivery_tag ≡ o → IsSomeAnd o (λ tag. SendsTransfer s format t tag payload settlement frames new) → IsRecorded new.unsettled (after_settlement settlement records)
        by None names h = absurd h
        by (Some tag) names h =
            recorded_from tag (settled_on_send s t) settlement s.unsettled new.unsettled records (new_entry format payload) h.answered (ap (λ (x : Sender T). x.unsettled) h.world) recorded (free_named tag names)
