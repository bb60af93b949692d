-- Values of the definitions that were worked out by hand.
use Rattle.std.proofs.Common.{◌≡◌, sym, refl, true, false, List, [], ◌∷◌, ◌++◌, Some, None, Ok, Result, ℕ}
use Rattle.amqp_link_payloads.specs.Header.{header_len}
use Rattle.amqp_link_payloads.specs.declared.error.DecodeError.{DecodeError}
use Rattle.amqp_link_payloads.specs.declared.message.Message.{Message}
use Rattle.amqp_link_payloads.specs.Position.{starts}
use Rattle.amqp_link_types.specs.Entries.{Tag}
use Rattle.amqp_link_types.specs.Refusals.{refusal}
use Rattle.amqp_link_types.specs.Size.{attach_len, transfer_len, before, list_of}
use Rattle.amqp_link_split.specs.Room.{worst}
use Rattle.amqp_link_types.specs.declared.delivery.UnsettledMessage.{UnsettledMessage}
use Rattle.amqp_link_types.specs.declared.frame.LinkFrame.{LinkFrame}
use Rattle.amqp_link_types.specs.declared.frame.LinkFrame.TheVariants.{FirstTransfer, TransferContinuation}
use Rattle.amqp_link_types.specs.declared.types.delivery_state.DeliveryState.TheVariants.{Accepted, Received}
use Rattle.amqp_link_types.specs.declared.types.terminus.Target.{Target}
use Rattle.amqp_link_types.proofs.MapLemmas.{false_is_not_true}
use Rattle.amqp_link_core.specs.declared.resumption.ResumingDelivery.TheVariants.{Resend, Resume, Abort}
use Rattle.amqp_link_sender.specs.Senders.{Sender, new_entry, abort_transfer, abort_frame}
use Rattle.amqp_link_receiver.specs.Receivers.{Receiver}
use Rattle.amqp_link_ledger.specs.Fates.{HandsOut, Resolves, after}
use Rattle.amqp_link_ledger.specs.declared.fate.Fate.TheVariants.{Pending, HandedOut, Resolved, Withdrawn}
use Rattle.amqp_link_worlds.specs.PairRuns.{Moment, last_payload, last_sent}
use Rattle.amqp_link_worlds.specs.declared.event.AnswerOf.TheVariants as answer
use Rattle.amqp_link_worlds.specs.declared.event.Event.TheVariants as event
use Rattle.amqp_link_worlds.specs.Resumptions.{entry_of, rest_of, resumes}
use Rattle.amqp_link_worlds.specs.Steps.{delivery_transfer, initial_progress, received, new_sender, new_receiver, new_world, attaches_fit, is_halfway_at_other, attach_tests, grant_tests, send_tests, arrive_tests, cut_tests, next_tests, settle_tests, withdraw_tests, after_attach, items_to_resume, list_to_resume, Attaches, WithdrawsDelivery, SendsAbort, AbortArrives, zero_output}
use Rattle.amqp_link_worlds.specs.Wires.{OnWire, under, frames_of, payload_of_all, IsInTurn}
use Rattle.amqp_link_worlds.specs.Worlds.{World, Apart, Halfway, Together, IsGood, is_out, bytes_in, receiver_entry, registered_payload, held_at}
use Rattle.amqp_link_worlds.specs.declared.error.PairError.TheVariants as error
use Rattle.amqp_link_worlds.specs.declared.progress.Progress.{Progress}

-- ---- a delivery of three bytes, in two transfers, and resumed after the first

abbrev tag : Tag
tag = 0 ∷ 0 ∷ 0 ∷ 7 ∷ []

abbrev other : Tag
other = 0 ∷ 0 ∷ 0 ∷ 8 ∷ []

abbrev first : LinkFrame
first =
    let t = delivery_transfer tag false in
    FirstTransfer (record { input_handle = record { 0 = 0 }; performative = record t { more = true }; payload = 1 ∷ 2 ∷ [] })

abbrev last : LinkFrame
last =
    let t = delivery_transfer tag false in
    TransferContinuation (record {
      input_handle = record { 0 = 0 };
      performative = record t { delivery_tag = None; message_format = None; settled = None };
      payload = 3 ∷ [];
    })

abbrev again : LinkFrame
again = FirstTransfer (record { input_handle = record { 0 = 0 }; performative = delivery_transfer tag true; payload = 3 ∷ [] })

-- both under way, with a frame of another delivery between
abbrev wire : List OnWire
wire = under tag (first ∷ []) ++ under other (first ∷ []) ++ under tag (last ∷ [])

-- the other delivery begins in the midst of the first, which a link never sends; one after the other they come in turn
in_turn : IsInTurn false (under other (again ∷ []) ++ under tag (first ∷ last ∷ []))
in_turn = (refl, (refl, (refl, refl)))

out_of_turn : IsInTurn false wire → ⊥
out_of_turn turn = false_is_not_true (sym turn.1.0)

own_frames : frames_of tag wire ≡ first ∷ last ∷ []
own_frames = refl

own_bytes : payload_of_all (frames_of tag wire) ≡ 1 ∷ 2 ∷ 3 ∷ []
own_bytes = refl

abbrev after_one : Progress
after_one = received initial_progress 5 first

held_then : (bytes_in after_one.held ≡ 1 ∷ 2 ∷ []) × (after_one.whole ≡ false)
held_then = (refl, refl)

-- its last transfer keeps the id
held_after_last : received after_one 6 last ≡ record {
  held = Some (record {
    performative = let t = delivery_transfer tag false in record t { more = true; delivery_id = Some 5 };
    pieces = (1 ∷ 2 ∷ []) ∷ (3 ∷ []) ∷ [];
  });
  whole = true;
  put_back = false;
  taken = false;
  withdrawn = false;
}
held_after_last = refl

-- a resumption gives it another one
held_after_again : received after_one 6 again ≡ record {
  held = Some (record {
    performative = let t = delivery_transfer tag false in record t { more = true; delivery_id = Some 6 };
    pieces = (1 ∷ 2 ∷ []) ∷ (3 ∷ []) ∷ [];
  });
  whole = true;
  put_back = false;
  taken = false;
  withdrawn = false;
}
held_after_again = refl

reported_then : receiver_entry after_one.held ≡ Some (Some (Received 0 2))
unfolding starts header_len
reported_then = refl

-- one transfer has arrived, and the other is under way
good_while_out : IsGood (1 ∷ 2 ∷ 3 ∷ []) after_one true (receiver_entry after_one.held) (last ∷ []) None
good_while_out = record {
  front = (3 ∷ [], refl);
  report = refl;
  all = λ _. refl;
  ends = λ _. refl;
  quiet = λ off. absurd (false_is_not_true (sym off));
  complete = λ whole. absurd (false_is_not_true whole);
  rest_is = tt;
}

-- the wire was lost, and the last byte is to be sent
good_while_listed : IsGood (1 ∷ 2 ∷ 3 ∷ []) after_one false (receiver_entry after_one.held) [] (Some (3 ∷ []))
good_while_listed = record {
  front = (3 ∷ [], refl);
  report = refl;
  all = λ out. absurd (false_is_not_true out);
  ends = λ out. absurd (false_is_not_true out);
  quiet = λ _. refl;
  complete = λ whole. absurd (false_is_not_true whole);
  rest_is = refl;
}

-- ---- whether it is out

abbrev entry : List ℕ → UnsettledMessage
entry payload = new_entry 0 payload

out_values : (is_out true (Some (entry [])) initial_progress ≡ true) × (is_out true (Some (entry [])) (record initial_progress { put_back = true }) ≡ false)
    × (is_out false (Some (entry [])) initial_progress ≡ false) × (is_out true None initial_progress ≡ false)
out_values = (refl, refl, refl, refl)

-- ---- deliveries of a list to resume

resumption_values : (entry_of (Resend (entry (9 ∷ []))) ≡ Some (entry (9 ∷ []))) × (rest_of (Resend (entry (9 ∷ []))) ≡ Some (9 ∷ [])) × (resumes (Resend (entry (9 ∷ []))) ≡ false)
    × (rest_of (Resume (entry (8 ∷ 9 ∷ [])) (9 ∷ [])) ≡ Some (9 ∷ [])) × (resumes (Resume (entry (8 ∷ 9 ∷ [])) (9 ∷ [])) ≡ true) × (entry_of (Abort 0 None) ≡ None)
resumption_values = (refl, refl, refl, refl, refl, refl)

-- ---- outcomes are resolved before the list is handed out

fates_then : after (HandsOut ((tag, Resend (entry [])) ∷ [])) (after (Resolves ((other, Ok (Some Accepted)) ∷ [])) ((tag, Pending) ∷ (other, Pending) ∷ []))
    ≡ (tag, HandedOut) ∷ (other, Resolved (Ok (Some Accepted))) ∷ []
fates_then = refl

-- ---- whether the attaches fit: one delivery of eight bytes with a tag of four, at count 1

abbrev eight : List ℕ
eight = 0 ∷ 83 ∷ 112 ∷ 192 ∷ 0 ∷ 83 ∷ 119 ∷ 65 ∷ []

abbrev s : Sender Target
s = let plain = new_sender 0 in record plain { flow_state = record plain.flow_state { delivery_count = 1 }; unsettled = (0 ∷ 0 ∷ 0 ∷ 0 ∷ [], entry eight) ∷ [] }

-- the receiver reports it at this position
abbrev r : ℕ → ℕ → Receiver Target
r section offset = let plain = new_receiver 0 in record plain { unsettled = (0 ∷ 0 ∷ 0 ∷ 0 ∷ [], Some (Received section offset)) ∷ [] }

fit_in_section_0 : (attaches_fit s (r 0 5) 45 ≡ false) × (attaches_fit s (r 0 5) 46 ≡ true)
unfolding attach_len before list_of
fit_in_section_0 = (refl, refl)

fit_in_section_1 : (attaches_fit s (r 1 19) 46 ≡ false) × (attaches_fit s (r 1 19) 47 ≡ true)
unfolding attach_len before list_of
fit_in_section_1 = (refl, refl)

fit_unreported : (attaches_fit s (new_receiver 0) 37 ≡ false) × (attaches_fit s (new_receiver 0) 38 ≡ true)
unfolding attach_len before list_of
fit_unreported = (refl, refl)

-- ---- refusals

abbrev in_phase_together : World
in_phase_together = let w = new_world 0 in record w { phase = Together 30 }

apart_refusals : (refusal (grant_tests (new_world 0)) ≡ Some error.NotAttached) × (refusal (send_tests (new_world 0) []) ≡ Some error.NotAttached)
    × (refusal (arrive_tests (new_world 0)) ≡ Some error.NotAttached) × (refusal (attach_tests (new_world 0) 28) ≡ Some error.LimitTooSmall)
apart_refusals = (refl, refl, refl, refl)

together_refusals : (refusal (attach_tests in_phase_together 30) ≡ Some error.AlreadyAttached) × (refusal (send_tests in_phase_together []) ≡ Some error.CreditMissing)
    × (refusal (arrive_tests in_phase_together) ≡ Some error.WireEmpty) × (refusal (next_tests in_phase_together) ≡ Some error.NothingToResume)
    × (refusal (settle_tests in_phase_together tag) ≡ Some error.UnknownTag) × (refusal (cut_tests in_phase_together) ≡ None)
together_refusals = (refl, refl, refl, refl, refl, refl)

listed_refusals : (refusal (send_tests (record in_phase_together { resuming = (tag, Resend (entry [])) ∷ [] }) []) ≡ Some error.ResumeFirst)
    × (refusal (cut_tests (record in_phase_together { resuming = (tag, Resend (entry [])) ∷ [] })) ≡ Some error.StillHandedOut)
listed_refusals = (refl, refl)

halfway_values : (is_halfway_at_other 40 (Halfway 30) ≡ true) × (is_halfway_at_other 30 (Halfway 30) ≡ false) × (is_halfway_at_other 40 Apart ≡ false)
halfway_values = (refl, refl, refl)

-- ---- what is registered with a tag, and what its last send gave

-- a delivery with this payload in the sender's map
abbrev pending : List ℕ → World
pending payload =
    let w = new_world 0 in let ledger = w.ledger in let link = ledger.link in
    record w { ledger = record ledger { link = record link { unsettled = (tag, entry payload) ∷ [] } } }

-- one in the list to resume, of which the last byte is to be sent
abbrev handed_out : World
handed_out = let w = new_world 0 in record w { resuming = (tag, Resume (entry (8 ∷ 9 ∷ [])) (9 ∷ [])) ∷ [] }

registered_values : (registered_payload (pending (1 ∷ 2 ∷ [])) tag ≡ Some (1 ∷ 2 ∷ [])) × (registered_payload handed_out tag ≡ Some (8 ∷ 9 ∷ []))
    × (registered_payload handed_out other ≡ None)
registered_values = (refl, refl, refl)

module _ {B : Type 0} (decoded : List ℕ → Result (Message B) DecodeError) where
  abbrev sends : List ℕ → Moment decoded
  sends payload = record { before = new_world 0; event = event.Send payload; answer = Ok (answer.Sent tag 1); after = new_world 0 }

  abbrev cuts : Moment decoded
  cuts = record { before = new_world 0; event = event.Cut; answer = Ok answer.Cut; after = new_world 0 }

  sent_before_a_cut : last_sent decoded tag (sends (1 ∷ 2 ∷ []) ∷ cuts ∷ []) ≡ Some (1 ∷ 2 ∷ [])
  sent_before_a_cut = refl

  sent_again : last_sent decoded tag (sends (1 ∷ 2 ∷ []) ∷ cuts ∷ sends (3 ∷ []) ∷ []) ≡ Some (3 ∷ [])
  sent_again = refl

  -- sent before these steps, or in them
  last_values : (last_payload decoded (pending (1 ∷ 2 ∷ [])) (cuts ∷ []) tag ≡ Some (1 ∷ 2 ∷ []))
      × (last_payload decoded (pending (1 ∷ 2 ∷ [])) (cuts ∷ sends (3 ∷ []) ∷ []) tag ≡ Some (3 ∷ [])) × (last_payload decoded (pending (1 ∷ 2 ∷ [])) [] other ≡ None)
  last_values = (refl, refl, refl)

-- ---- a delivery of twelve bytes is withdrawn after five have arrived, and aborted

abbrev zero_tag : Tag
zero_tag = 0 ∷ 0 ∷ 0 ∷ 0 ∷ []

abbrev twelve : UnsettledMessage
twelve = entry (1 ∷ 2 ∷ 3 ∷ 4 ∷ 5 ∷ 6 ∷ 7 ∷ 8 ∷ 9 ∷ 10 ∷ 11 ∷ 12 ∷ [])

abbrev five_arrived : Progress
five_arrived =
    let t = delivery_transfer zero_tag false in
    received initial_progress 7 (FirstTransfer (record { input_handle = record { 0 = 0 }; performative = record t { more = true }; payload = 1 ∷ 2 ∷ 3 ∷ 4 ∷ 5 ∷ [] }))

abbrev s_pending : Sender Target
s_pending = let plain = new_sender 0 in record plain { flow_state = record plain.flow_state { delivery_count = 1 }; unsettled = (zero_tag, twelve) ∷ [] }

-- after the cut
abbrev cut_off : World
cut_off =
    let w = new_world 0 in
    record w {
      ledger = record { link = s_pending; records = (zero_tag, Pending) ∷ [] };
      receiver = r 0 5;
      deliveries = (zero_tag, five_arrived) ∷ [];
    }

abort_fits : worst (abort_transfer zero_output zero_tag 0) ≡ 25
unfolding transfer_len before list_of
abort_fits = refl

may_withdraw : (refusal (withdraw_tests cut_off zero_tag) ≡ None) × (refusal (withdraw_tests cut_off other) ≡ Some error.UnknownTag)
    × (refusal (withdraw_tests (record cut_off { phase = Halfway 46 }) zero_tag) ≡ Some error.AlreadyAttached)
    × (refusal (withdraw_tests (record cut_off { deliveries = (zero_tag, record five_arrived { whole = true }) ∷ [] }) zero_tag) ≡ Some error.AlreadyWhole)
may_withdraw = (refl, refl, refl, refl)

-- after the withdrawal
abbrev given_up : World
given_up = record cut_off {
  ledger = record { link = record s_pending { unsettled = [] }; records = (zero_tag, Withdrawn) ∷ [] };
  deliveries = (zero_tag, record five_arrived { withdrawn = true }) ∷ [];
}

withdraws : WithdrawsDelivery cut_off zero_tag given_up
withdraws = record { before = five_arrived; known = refl; world = refl }

withdrawn_once : refusal (withdraw_tests given_up zero_tag) ≡ Some error.UnknownTag
withdrawn_once = refl

-- the receiver reports what it holds, so its attach takes 42 bytes
fits_at_46 : (refusal (attach_tests given_up 45) ≡ Some error.LimitTooSmall) × (refusal (attach_tests given_up 46) ≡ None)
unfolding attach_len before list_of
fits_at_46 = (refl, refl)

one_abort : list_to_resume given_up ≡ (zero_tag, Abort 0 None) ∷ []
one_abort = refl

-- the same item by item; and of the delivery before it was withdrawn, of which five bytes are held, or none
items_listed : (items_to_resume given_up ≡ (zero_tag, Abort 0 None) ∷ [])
    × (items_to_resume cut_off ≡ (zero_tag, Resume twelve (6 ∷ 7 ∷ 8 ∷ 9 ∷ 10 ∷ 11 ∷ 12 ∷ [])) ∷ [])
    × (items_to_resume (record cut_off { deliveries = [] }) ≡ (zero_tag, Resend twelve) ∷ [])
items_listed = (refl, refl, refl)

attaches : Attaches given_up 46 1 (after_attach 46 given_up)
attaches = record { counted = refl; world = refl }

-- nothing was handed out
still_withdrawn : (let w = after_attach 46 given_up in w.ledger.records) ≡ (zero_tag, Withdrawn) ∷ []
still_withdrawn = refl

-- the abort counts as handed out
while_listed : (refusal (send_tests (after_attach 46 given_up) []) ≡ Some error.ResumeFirst) × (refusal (cut_tests (after_attach 46 given_up)) ≡ Some error.StillHandedOut)
    × (refusal (settle_tests (after_attach 46 given_up) zero_tag) ≡ Some error.UnknownTag)
while_listed = (refl, refl, refl)

-- the abort is sent
abbrev abort_sent : World
abort_sent = let w = after_attach 46 given_up in record w { resuming = []; wire = under zero_tag (abort_frame zero_output (record { 0 = 0 }) zero_tag 0 ∷ []) }

sends_abort : SendsAbort (after_attach 46 given_up) zero_tag abort_sent
sends_abort = record { others = []; handle = record { 0 = 0 }; listed = refl; handle_is = refl; world = refl }

-- what is held is there until it arrives
shown_before : bytes_in (held_at abort_sent zero_tag) ≡ 1 ∷ 2 ∷ 3 ∷ 4 ∷ 5 ∷ []
shown_before = refl

abort_arrives : AbortArrives abort_sent zero_tag (record abort_sent { receiver = record abort_sent.receiver { unsettled = [] }; deliveries = []; wire = [] })
abort_arrives = record {
  first = record { tag = zero_tag; frame = abort_frame zero_output (record { 0 = 0 }) zero_tag 0 };
  rest = [];
  taken = refl;
  aborts = refl;
  tagged = refl;
  world = refl;
}

-- put back, or cut off, it is in the next list again
dropped_again : (refusal (next_tests (after_attach 46 given_up)) ≡ None) × (let w = after_attach 46 given_up in list_to_resume (record w { resuming = [] }) ≡ (zero_tag, Abort 0 None) ∷ [])
    × (list_to_resume abort_sent ≡ (zero_tag, Abort 0 None) ∷ [])
dropped_again = (refl, refl, refl)

-- a tag of which something is held is not sent again
held_tag_is_not_sent : (let w = in_phase_together in let l = w.ledger in let f = l.link.flow_state in
    refusal (send_tests (record w {
      ledger = record l { link = record l.link { flow_state = record f { link_credit = 1 } } };
      deliveries = (zero_tag, record five_arrived { withdrawn = true }) ∷ [];
    }) [])) ≡ Some error.TagPending
held_tag_is_not_sent = refl
