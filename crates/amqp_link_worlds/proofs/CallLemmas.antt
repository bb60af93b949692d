-- By what a pair keeps its endpoints refuse a call only if they are out of memory.
use Rattle.std.proofs.Common.{◌≡◌, ◌∙◌, sym, ap, subst, Bool, true, false, cond, List, [], ◌∷◌, ◌++◌, refl, ℕ, ◌<◌, ◌≤◌, not, arith, ◌==◌, drop, length, min, nat_le, ◌+◌, inl, inr, ◌⊎◌}
use Rattle.std.specs.Prelude.{Option, Some, None, is_some, is_none, IsSome, IfSome, ◌&&◌, unwrap_or, option_and_then}
use Rattle.std.proofs.lemmas.Bool.Decides.{nat_tests}
use Rattle.amqp_link_types.specs.Entries.{Tag, Entries, entry_at}
use Rattle.amqp_link_types.specs.Refusals.{refusal}
use Rattle.amqp_link_core.specs.Held.{Held, held_bytes}
use Rattle.amqp_link_core.specs.Merging.{Came, Merged, opening, first, present, settled_by, state_by}
use Rattle.amqp_link_endpoint.specs.LinkStates.{state_without_session}
use Rattle.amqp_link_payloads.specs.Position.{position}
use Rattle.amqp_link_receiver.specs.Receivers.{Receiver}
use Rattle.amqp_link_receiver.specs.Completing.{may_receive, transfer_refusal, entered, spent, reported, unsettled_tag, is_illegal_mode}
use Rattle.amqp_link_sender.specs.Senders.{Sender, next_tag, new_transfer, resuming_transfer, delivery_of, settled_by_mode, unsettled_transfer_tests, abort_transfer}
use Rattle.amqp_link_types.specs.declared.types.terminus.Target.{Target}
use Rattle.amqp_link_types.specs.declared.types.transfer.Transfer.{Transfer}
use Rattle.amqp_link_types.specs.declared.types.definitions.ReceiverSettleMode.{ReceiverSettleMode}
use Rattle.amqp_link_types.specs.declared.types.definitions.ReceiverSettleMode.TheVariants as rcv
use Rattle.amqp_link_types.specs.declared.types.definitions.SenderSettleMode.TheVariants as mode
use Rattle.amqp_link_types.specs.declared.types.delivery_state.DeliveryState.{DeliveryState}
use Rattle.amqp_link_types.specs.declared.types.errors.LinkStateError.TheVariants as error
use Rattle.amqp_link_types.specs.declared.types.errors.ReceiverTransferError.TheVariants as transfer_error
use Rattle.amqp_link_types.specs.declared.delivery.UnsettledMessage.{UnsettledMessage}
use Rattle.amqp_link_types.specs.declared.frame.LinkFrame.{LinkFrame}
use Rattle.amqp_link_core.specs.declared.resumption.ResumingDelivery.{ResumingDelivery}
use Rattle.amqp_link_core.specs.declared.resumption.ResumingDelivery.TheVariants.{Abort}
use Rattle.amqp_link_types.specs.Size.{transfer_len, before, list_of, content}
use Rattle.amqp_link_values.specs.Length.{text_len}
use Rattle.amqp_link_split.specs.Room.{worst}
use Rattle.amqp_link_types.proofs.MapLemmas.{false_is_not_true, put-same}
use Rattle.amqp_link_worlds.specs.Callable.{CanSend, IsFree, CanGrant, CanCut, CanResume, CanAbort, CanComplete, CanSettle}
use Rattle.amqp_link_ledger.specs.Fates.{fates_of}
use Rattle.amqp_link_ledger.specs.declared.fate.Fate.{Fate}
use Rattle.amqp_link_ledger.proofs.ListSteps.{some_is_none}
use Rattle.amqp_link_worlds.specs.Resumptions.{entry_of, resumes}
use Rattle.amqp_link_worlds.specs.Steps.{delivery_transfer, zero_output, send_tests, settle_tests}
use Rattle.amqp_link_worlds.specs.Worlds.{World, Phase, Apart, Halfway, Together, is_together, held_at, receiver_entry, received_at, bytes_in}
use Rattle.amqp_link_worlds.specs.declared.progress.Progress.{Progress}
use Rattle.amqp_link_worlds.specs.Wires.{frames_of}
use Rattle.amqp_link_worlds.specs.Receiving.{AreNamed}
use Rattle.amqp_link_worlds.specs.Invariants.{IsWorld, IsKeptAs, IsHeld, IsNamed, AreEnds, AreTogether}
use Rattle.amqp_link_worlds.proofs.DeliveryLemmas.{has_room-delivery, none_of_three}
use Rattle.amqp_link_worlds.proofs.WorldLemmas.{aborting, listed_entry, tag_is_free, known_parts, none_hold, not_is_false, listed_progress, listed_stands, settled_stands, nothing_listed, nothing_in, nothing_there}

-- an attached pair's ends
pub ends_together : (phase : Phase) (s : Sender Target) (r : Receiver Target) → is_together phase ≡ true → AreEnds phase s r → (limit : ℕ) × AreTogether limit s r
ends_together Apart s r on k = absurd (false_is_not_true on)
ends_together (Halfway limit) s r on k = absurd (false_is_not_true on)
ends_together (Together limit) s r on k = (limit, k)

-- ---- a send

some_credit : (n : ℕ) → (n == 0) ≡ false → 0 < n
some_credit n h = grind (arith, nat_tests)

pub can_send : (w : World) (payload : List ℕ) → IsWorld w → refusal (send_tests w payload) ≡ None → CanSend w.ledger.link
can_send w payload k may =
    let tests = none_hold (send_tests w payload) may in
    let e = ends_together w.phase w.ledger.link w.receiver (not_is_false (is_together w.phase) tests.0) k.ends in
    let ends = e.1 in
    record {
      output = ends.sender_output;
      input = ends.sender_input;
      mode = ap (λ (s : Sender Target). s.snd_settle_mode) k.sender;
      credit = some_credit w.ledger.link.flow_state.link_credit tests.1.1.1.0;
      free = (tag_is_free w payload may).0;
      room = subst (λ n. 29 ≤ n) (sym ends.frame) ends.enough;
    }

-- ---- the transfers of a pair's sends

-- that of a new delivery
pub new_transfer_is : (s : Sender Target) (tag : Tag) → s.snd_settle_mode ≡ mode.Mixed → new_transfer s zero_output tag (delivery_of 0 (Some false) None false) ≡ delivery_transfer tag false
new_transfer_is s tag is = ap (λ m. record (delivery_transfer tag false) { settled = Some (settled_by_mode m (Some false)) }) is

-- and that of one that is resumed
pub resuming_transfer_is : (s : Sender Target) (tag : Tag) → resuming_transfer s zero_output tag (delivery_of 0 (Some false) None false) ≡ delivery_transfer tag true
resuming_transfer_is s tag = refl

-- ---- a delivery is resumed

reported_as_held : (h : Option Held) (reported : Option (Option DeliveryState)) → reported ≡ receiver_entry h → is_some reported ≡ is_some h
reported_as_held None reported is = ap is_some is
reported_as_held (Some held) reported is = ap is_some is

none_resumed : (s : Sender Target) (tag : Tag) (r : Bool) (bytes : List ℕ) → s.input_handle ≡ Some (record { 0 = 0 }) → entry_at s.unsettled tag ≡ None → length tag ≡ 4 → 29 ≤ s.max_frame_size
    → refusal (unsettled_transfer_tests s (delivery_transfer tag r) tag bytes) ≡ None
none_resumed s tag r bytes input free four room =
    none_of_three _ _ _ error.IllegalState error.TagPending error.NoRoom (ap is_none input) (ap is_some free) (ap not (has_room-delivery tag r s.max_frame_size bytes four room))

pub can_resume : (w : World) (tag : Tag) (next : ResumingDelivery) (others : Entries ResumingDelivery) (entry : UnsettledMessage) → IsWorld w → is_together w.phase ≡ true → w.resuming ≡ (tag, next) ∷ others
    → entry_of next ≡ Some entry → CanResume w tag next
can_resume w tag next others entry k on listed kept =
    let q = listed_progress w tag next others k listed in
    let stand = listed_stands w tag next others k listed q.0 q.1 in
    let l = (listed_entry w tag next others k listed entry kept q.0 q.1).0 in
    let e = ends_together w.phase w.ledger.link w.receiver on k.ends in
    let ends = e.1 in
    let p : Progress = q.0 in
    let rest = drop (length (bytes_in p.held)) l.entry.payload in
    record {
      entry = l.entry;
      rest = rest;
      before = q.0;
      kept = l.entry_is;
      format = l.under_way.own.format;
      sends = l.rest;
      known = q.1;
      free = stand.0;
      allowed = none_resumed w.ledger.link tag (resumes next) rest ends.sender_input stand.0 l.under_way.own.tag_is (subst (λ n. 29 ≤ n) (sym ends.frame) ends.enough);
      flag = l.flag ∙ sym (reported_as_held p.held (entry_at w.receiver.unsettled tag) l.under_way.good.report);
    }

-- ---- the list to resume has entries and aborts alone

pub entry_or_abort : (w : World) (tag : Tag) (next : ResumingDelivery) (others : Entries ResumingDelivery) → IsWorld w → w.resuming ≡ (tag, next) ∷ others
    → ((entry : UnsettledMessage) × (entry_of next ≡ Some entry)) ⊎ (next ≡ Abort 0 None)
entry_or_abort w tag next others k listed =
    let q = listed_progress w tag next others k listed in
    elim ((listed_stands w tag next others k listed q.0 q.1).1) [
      | inl l ↦ inl (l.0.entry, l.0.entry_is)
      | inr a ↦ inr a.is
    ]

-- ---- an abort is sent

worst_aborted : ℕ → ℕ
worst_aborted n = list_of (content (Some 1 ∷ Some 5 ∷ Some (text_len n) ∷ Some 1 ∷ Some 1 ∷ Some 1 ∷ None ∷ None ∷ Some 1 ∷ Some 1 ∷ None ∷ []))

pub worst-abort : (tag : Tag) → length tag ≡ 4 → worst (abort_transfer zero_output tag 0) ≡ 25
unfolding transfer_len before list_of worst_aborted
worst-abort tag four =
    let step : worst (abort_transfer zero_output tag 0) ≡ worst_aborted (length tag) = refl in
    step ∙ ap worst_aborted four

room_for : (w frame : ℕ) → w ≡ 25 → 29 ≤ frame → nat_le (4 + w + min 1 0) frame ≡ true
room_for w frame e h = grind (arith, nat_tests)

pub can_abort : (w : World) (tag : Tag) (others : Entries ResumingDelivery) → IsWorld w → is_together w.phase ≡ true → w.resuming ≡ (tag, Abort 0 None) ∷ others → CanAbort w tag
can_abort w tag others k on listed =
    let e = ends_together w.phase w.ledger.link w.receiver on k.ends in
    let ends = e.1 in
    let a = aborting w tag others k listed in
    record {
      output = ends.sender_output;
      input = ends.sender_input;
      free = a.0;
      room = room_for (worst (abort_transfer zero_output tag 0)) w.ledger.link.max_frame_size (worst-abort tag a.1.2.tag_is) (subst (λ n. 29 ≤ n) (sym ends.frame) ends.enough);
      report = a.1.2.report ∙ ap receiver_entry (ap (option_and_then (λ (p : Progress). p.held)) (sym a.1.1));
    }

-- ---- a delivery is handed out

mode_of_named : (tag : Tag) (t : Transfer) → IsNamed tag t → t.rcv_settle_mode ≡ None
mode_of_named tag t is = ap (λ t. t.rcv_settle_mode) is

settled_of_named : (tag : Tag) (t : Transfer) → IsNamed tag t → t.settled ≡ Some false
settled_of_named tag t is = ap (λ t. t.settled) is

tag_of_named : (tag : Tag) (t : Transfer) → IsNamed tag t → t.delivery_tag ≡ Some tag
tag_of_named tag t is = ap (λ t. t.delivery_tag) is

numbered_is : (o : Option ℕ) → IsSome o → is_none o ≡ false
numbered_is None h = absurd (false_is_not_true h)
numbered_is (Some n) h = refl

legal : (m : ReceiverSettleMode) → is_illegal_mode m None ≡ false
legal rcv.First = refl
legal rcv.Second = refl

not_refused : (r : Receiver Target) (tag : Tag) (held : Held) → IsHeld tag held → transfer_refusal r held.performative ≡ None
not_refused r tag held k =
    none_of_three _ _ _ transfer_error.DeliveryIdIsNone transfer_error.DeliveryTagIsNone transfer_error.IllegalRcvSettleModeInTransfer
    (numbered_is held.performative.delivery_id k.has_id)
    (ap is_none (tag_of_named tag held.performative k.named))
    (ap (λ o. not (unwrap_or o false) && is_illegal_mode r.rcv_settle_mode held.performative.rcv_settle_mode) (settled_of_named tag held.performative k.named)
    ∙ ap (is_illegal_mode r.rcv_settle_mode) (mode_of_named tag held.performative k.named) ∙ legal r.rcv_settle_mode)

-- the report of what is held is there already
entered_same : (r : Receiver Target) (tag : Tag) (held : Held) → IsNamed tag held.performative → entry_at r.unsettled tag ≡ receiver_entry (Some held)
    → entered held.performative (position (held_bytes held)).0 (position (held_bytes held)).1 r ≡ spent r
entered_same r tag held named there =
    let at = position (held_bytes held) in
    let unsettled : unsettled_tag held.performative ≡ Some tag =
    ap (λ o. cond (unwrap_or o false) None held.performative.delivery_tag) (settled_of_named tag held.performative named) ∙ tag_of_named tag held.performative named in
    ap (λ o. spent (reported o at.0 at.1 r)) unsettled
    ∙ ap (λ m. spent (record r { unsettled = m })) (put-same r.unsettled tag (Some (received_at at)) there)

-- what is held of a tag has its report
held_kept : (b : Bool) (tag : Tag) (own : Option UnsettledMessage) (listed : Option ResumingDelivery) (q : Option Progress) (reported : Option (Option DeliveryState)) (frames : List LinkFrame) (fates : List Fate) (held : Held)
    → option_and_then (λ (p : Progress). p.held) q ≡ Some held → IsKeptAs b tag own listed q reported frames fates → IsHeld tag held × (reported ≡ receiver_entry (Some held))
held_kept b tag None None None reported frames fates held is k = absurd (some_is_none (sym is))
held_kept b tag None None (Some p) reported frames fates held is k = (subst (λ o. IfSome o (IsHeld tag)) is k.held, k.report ∙ ap receiver_entry is)
held_kept b tag (Some entry) None None reported frames fates held is k = absurd k
held_kept b tag (Some entry) None (Some p) reported frames fates held is k = (subst (λ o. IfSome o (IsHeld tag)) is k.0.held, k.0.good.report ∙ ap receiver_entry is)
held_kept b tag None (Some next) None reported frames fates held is k = absurd k
held_kept b tag None (Some next) (Some p) reported frames fates held is k = elim (k) [
  | inl l ↦ (subst (λ o. IfSome o (IsHeld tag)) is l.0.under_way.held, l.0.under_way.good.report ∙ ap receiver_entry is)
  | inr a ↦ (subst (λ o. IfSome o (IsHeld tag)) is a.withdrawn.held, a.withdrawn.report ∙ ap receiver_entry is)
]
held_kept b tag (Some entry) (Some next) q reported frames fates held is k = absurd k

module _ (w : World) (tag : Tag) (held : Held) (k : IsWorld w) (is : held_at w tag ≡ Some held) where
  held_there : IsHeld tag held × (entry_at w.receiver.unsettled tag ≡ receiver_entry (Some held))
  held_there = held_kept (is_together w.phase) tag (entry_at w.ledger.link.unsettled tag) (entry_at w.resuming tag) (entry_at w.deliveries tag) (entry_at w.receiver.unsettled tag) (frames_of tag w.wire) (fates_of tag w.ledger.records) held is (k.each tag)

  -- the receiver reports it
  pub held_is_reported : entry_at w.receiver.unsettled tag ≡ receiver_entry (Some held)
  held_is_reported = held_there.1

  -- and it has an id
  pub held_has_id : IsSome held.performative.delivery_id
  held_has_id = let h = held_there.0 in h.has_id

pub can_complete : (w : World) (tag : Tag) (held : Held) → IsWorld w → is_together w.phase ≡ true → held_at w tag ≡ Some held → CanComplete w.receiver held
can_complete w tag held k on is =
    let e = ends_together w.phase w.ledger.link w.receiver on k.ends in
    let ends = e.1 in
    let h = held_there w tag held k is in
    record {
      attached = ap may_receive ends.receiver_state;
      handle = ends.receiver_output;
      allowed = not_refused w.receiver tag held h.0;
      same = entered_same w.receiver tag held h.0.named h.1;
    }

-- ---- a delivery is resumed: the fields of all its transfers

state_of_named : (tag : Tag) (t : Transfer) → IsNamed tag t → t.state ≡ None
state_of_named tag t is = ap (λ t. t.state) is

format_of_named : (tag : Tag) (t : Transfer) → IsNamed tag t → t.message_format ≡ Some 0
format_of_named tag t is = ap (λ t. t.message_format) is

-- what is held is merged of its own transfers
pub merged_itself : (tag : Tag) (t : Transfer) → IsNamed tag t → Merged (opening t ∷ []) t
merged_itself tag t is = record {
  id = refl;
  format = format_of_named tag t is ∙ ap (λ o. first (present (o ∷ []))) (sym (format_of_named tag t is));
  settled = settled_of_named tag t is ∙ ap (λ o. settled_by (present (o ∷ []))) (sym (settled_of_named tag t is));
  state = state_of_named tag t is ∙ ap (λ o. state_by (present (o ∷ []))) (sym (state_of_named tag t is));
  others = refl;
}

-- and a transfer that resumes it gives it its id
pub taken_up : (tag : Tag) (old t new : Transfer) → IsNamed tag old → IsNamed tag t → Merged (opening old ∷ opening t ∷ []) new → new ≡ record old { delivery_id = t.delivery_id }
taken_up tag old t new named is m =
    let format : new.message_format ≡ old.message_format =
    m.format ∙ ap (λ o. first (present (o ∷ t.message_format ∷ []))) (format_of_named tag old named) ∙ ap (λ o. first (present (Some 0 ∷ o ∷ []))) (format_of_named tag t is) ∙ sym (format_of_named tag old named) in
    let settled : new.settled ≡ old.settled =
    m.settled ∙ ap (λ o. settled_by (present (o ∷ t.settled ∷ []))) (settled_of_named tag old named) ∙ ap (λ o. settled_by (present (Some false ∷ o ∷ []))) (settled_of_named tag t is) ∙ sym (settled_of_named tag old named) in
    let state : new.state ≡ old.state =
    m.state ∙ ap (λ o. state_by (present (o ∷ t.state ∷ []))) (state_of_named tag old named) ∙ ap (λ o. state_by (present (None ∷ o ∷ []))) (state_of_named tag t is) ∙ sym (state_of_named tag old named) in
    m.others ∙ (λ i. record old { delivery_id = m.id i; message_format = format i; settled = settled i; state = state i })

-- ---- a delivery is settled

held_is_known : (q : Option Progress) → is_some (option_and_then (λ (p : Progress). p.held) q) ≡ true → IsSome q
held_is_known None held = absurd (false_is_not_true held)
held_is_known (Some p) held = refl

pub can_settle : (w : World) (tag : Tag) → IsWorld w → refusal (settle_tests w tag) ≡ None → CanSettle w tag
can_settle w tag k may =
    let tests = none_hold (settle_tests w tag) may in
    let known = known_parts w tag tests.1.0 in
    let held : is_some (held_at w tag) ≡ true = known.0 in
    let found = settled_stands (is_together w.phase) tag (entry_at w.ledger.link.unsettled tag) (entry_at w.resuming tag) (entry_at w.deliveries tag) (entry_at w.receiver.unsettled tag) (frames_of tag w.wire) (fates_of tag w.ledger.records)
    (nothing_listed w.resuming tag (nothing_in w.resuming tests.1.1.1.0)) held known.1 (k.each tag) in
    record { own = found.0; report = found.1; known = held_is_known (entry_at w.deliveries tag) held }

-- ---- a grant and a cut

pub can_grant : (w : World) → IsWorld w → is_together w.phase ≡ true → CanGrant w.ledger.link w.receiver
can_grant w k on =
    let e = ends_together w.phase w.ledger.link w.receiver on k.ends in
    record {
      sender_output = e.1.sender_output;
      receiver_output = e.1.receiver_output;
      sender_drain = ap (λ (s : Sender Target). s.flow_state.drain) k.sender;
      receiver_drain = ap (λ (r : Receiver Target). r.flow_state.drain) k.receiver;
    }

pub can_cut : (w : World) → IsWorld w → is_together w.phase ≡ true → CanCut w.ledger.link w.receiver
can_cut w k on =
    let e = ends_together w.phase w.ledger.link w.receiver on k.ends in
    record { sender = ap state_without_session e.1.sender_state; receiver = ap state_without_session e.1.receiver_state }

-- ---- the tag of a send

pub next_is_free : (w : World) (payload : List ℕ) → IsWorld w → refusal (send_tests w payload) ≡ None → IsFree w (next_tag w.ledger.link)
next_is_free w payload k may =
    let tag = next_tag w.ledger.link in
    let tests = none_hold (send_tests w payload) may in
    let nothing = nothing_there w tag k (tag_is_free w payload may).0 (nothing_listed w.resuming tag (nothing_in w.resuming tests.1.0)) (tag_is_free w payload may).1 in
    record { delivery = nothing.0; report = nothing.1; quiet = nothing.2 }

-- ---- a delivery is resumed

-- whatever came before, the fields of a delivery that is resumed are those that it had, with the id of the transfer
pub fields_resumed : (old t new : Transfer) (id : ℕ) → AreNamed old t → ((came : List Came) → Merged came old → Merged (came ++ opening (record t { delivery_id = Some id }) ∷ []) new) → new ≡ record old { delivery_id = Some id }
fields_resumed old t new id n merged =
    taken_up n.tag old (record t { delivery_id = Some id }) new n.old_named (ap (λ (t : Transfer). record t { delivery_id = Some id }) n.named) (merged (opening old ∷ []) (merged_itself n.tag old n.old_named))
