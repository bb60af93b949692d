-- Each call keeps what a pair keeps.
use Rattle.std.proofs.Common.{◌≡◌, ◌≢◌, ◌∙◌, sym, ap, subst, Bool, true, false, cond, List, [], ◌∷◌, ◌++◌, refl, ℕ, ◌<◌, ◌≤◌, ◌^◌, map, length, drop, not, inl, inr, Ok, nat_lt, nat_le, arith, ◌⊎◌}
use Rattle.std.specs.Prelude.{Option, Some, None, filter, bytes_eq, IsSomeAnd, IsSome, option_map, option_and_then, is_some, is_none, ◌&&◌, ◌||◌, if◌then◌else◌}
use Rattle.std.specs.Option.{option_or, option_map_or}
use Rattle.std.proofs.lemmas.Bool.{or_parts}
use Rattle.amqp_link_types.specs.Frames.{performative_of}
use Rattle.std.specs.List.{AllByRecursion, count_by}
use Rattle.std.proofs.lemmas.Bool.Decides.{nat_tests}
use Rattle.std.proofs.lemmas.List.{append-nil, map-append}
use Rattle.std.proofs.lemmas.List.Elements.{filter-append}
use Rattle.amqp_link_types.specs.Entries.{Tag, Entries, entry_at, with_entry, without_entry, IsMap}
use Rattle.amqp_link_types.specs.Refusals.{refusal}
use Rattle.amqp_link_core.specs.Held.{Held}
use Rattle.amqp_link_core.specs.Resuming.{resolution}
use Rattle.amqp_link_receiver.specs.Receivers.{Receiver}
use Rattle.amqp_link_sender.specs.Senders.{Sender, next_tag, new_entry, abort_frame}
use Rattle.amqp_link_state.specs.Counts.{after_consuming}
use Rattle.amqp_link_state.specs.declared.state.LinkState.{LinkState}
use Rattle.amqp_link_state.specs.declared.state.LinkState.TheVariants as state
use Rattle.amqp_link_types.specs.declared.types.terminus.Target.{Target}
use Rattle.amqp_link_types.specs.declared.types.delivery_state.DeliveryState.{DeliveryState}
use Rattle.amqp_link_types.specs.declared.types.delivery_state.DeliveryState.TheVariants.{Accepted}
use Rattle.amqp_link_types.specs.declared.delivery.UnsettledMessage.{UnsettledMessage}
use Rattle.amqp_link_types.specs.declared.frame.LinkFrame.{LinkFrame}
use Rattle.amqp_link_core.specs.declared.resumption.ResumingDelivery.{ResumingDelivery}
use Rattle.amqp_link_core.specs.declared.resumption.Resolution.{Resolution}
use Rattle.amqp_link_core.specs.declared.resumption.Resolution.TheVariants.{Resuming}
use Rattle.amqp_link_types.proofs.MapLemmas.{same_tag, other_tag, false_is_not_true, entry_at-put, entry_at-put_other, IsMap-removed}
use Rattle.amqp_link_types.proofs.EntriesLemmas.{IsMap-none}
use Rattle.amqp_link_ledger.specs.Fates.{IsRecorded, HandsOut, Resolves, after, fates_of, latest, is_pending_fate, fate_given, Withdraws}
use Rattle.amqp_link_ledger.specs.declared.fate.Fate.{Fate}
use Rattle.amqp_link_ledger.specs.declared.fate.Fate.TheVariants.{Pending, HandedOut, Resolved, Withdrawn}
use Rattle.amqp_link_ledger.proofs.ListSteps.{some_is, some_is_none, entry_at-first}
use Rattle.amqp_link_ledger.proofs.CountLemmas.{fates_registered, fates_registered_other, fates_given, none_given}
use Rattle.amqp_link_ledger.proofs.FateLemmas.{with_fates-none}
use Rattle.amqp_link_exchange.specs.Exchanges.{outcomes_returned, unknown_aborted}
use Rattle.amqp_link_worlds.specs.Resumptions.{entry_of, next_of, rest_of, resumes}
use Rattle.amqp_link_types.specs.Frames.{performative_of}
use Rattle.amqp_link_worlds.specs.Wires.{OnWire, under, frames_of, IsInTurn, does_begin}
use Rattle.amqp_link_worlds.specs.Worlds.{World, Phase, Apart, Halfway, Together, is_together, Standing, standing, entry_in, Good, IsOpen, bytes_in, held_at, received_at, receiver_entry, AreAborts}
use Rattle.amqp_link_worlds.specs.declared.error.PairError.{PairError}
use Rattle.amqp_link_worlds.specs.declared.progress.Progress.{Progress}
use Rattle.amqp_link_worlds.specs.Steps.{Attaches, StopsAt, AttachStop, Asked, Taken, Answered, receiver_at, Grants, with_credit, Sends, Arrives, Cuts, Resumes, PutsBack, after_hand_out, Settles, received, initial_progress, after_registration, after_one_credit, items_to_resume, list_to_resume, ledger_together, sender_together, sender_asking, receiver_together, receiver_half_attached, receiver_at_limit, new_world, attach_tests, send_tests, arrive_tests, cut_tests, next_tests, settle_tests, is_empty, attaches_fit, has_flag, is_unknown, is_apart, withdraw_tests, AbortArrives, SendsAbort, DropsAbort, WithdrawsDelivery, after_withdrawal, zero_output}
use Rattle.amqp_link_worlds.specs.Receiving.{CanReceive}
use Rattle.amqp_link_worlds.specs.Invariants.{IsWorld, IsTagKept, IsKeptAs, IsUnderWay, IsListed, IsLatest, AreOver, HaveMoved, IsPlainReceiver, AreEnds, AreTogether, AreHalfway, IsOnWay, IsWithdrawn, IsAborting, AreApart}
use Rattle.amqp_link_worlds.proofs.EntriesOf.{map_same, by_tag, IsMap-put, entry_at-behind, first_alone, others_are_map, each_pair, removed_here, removed_there}
use Rattle.amqp_link_worlds.proofs.FateLemmas.{latest_is, have_moved, latest_entered, latest_moved, latest_over, none_pending, one_pending, all-kept}
use Rattle.amqp_link_worlds.proofs.DeliveryLemmas.{aborted_tag, kept_received, kept_receives, kept_cut, kept_taken, taken_out, good_kept, no_items, are_sent, AreSent, turn_sent, way_sent, way_resumed, way_put_back, aborts_first, kept_aborted, aborting_kept, withdrawn_waits, withdrawn_sent, way_withdrawn, given_up_kept, closed_when_withdrawn}
use Rattle.amqp_link_worlds.proofs.ExchangeLemmas.{IsResuming, answer_is, entry_goes_on, rest_goes_on, flag_goes_on, next_in, answer_to, list_is, outcomes_are, listed_at, IsMap-listed, given_at, next_for}
use Rattle.amqp_link_core.specs.declared.resumption.ResumingDelivery.TheVariants.{Abort}

-- ---- how a delivery stands

abbrev pub mk : Option UnsettledMessage → Option ResumingDelivery → Option Progress → Option (Option DeliveryState) → List LinkFrame → List Fate → Standing
mk own listed progress reported frames fates =
    record { own = own; listed = listed; progress = progress; reported = reported; frames = frames; fates = fates }

stands : {a a' : Option UnsettledMessage} {b b' : Option ResumingDelivery} {c c' : Option Progress} {d d' : Option (Option DeliveryState)} {e e' : List LinkFrame} {f f' : List Fate}
    → a ≡ a' → b ≡ b' → c ≡ c' → d ≡ d' → e ≡ e' → f ≡ f' → mk a b c d e f ≡ mk a' b' c' d' e' f'
stands p q r s t u = λ i. mk (p i) (q i) (r i) (s i) (t i) (u i)

-- ---- the frames of a tag

pub frames_first : (s : OnWire) (wire : List OnWire) → frames_of s.tag (s ∷ wire) ≡ s.frame ∷ frames_of s.tag wire
frames_first s wire = ap (λ b. map (λ (t : OnWire). t.frame) (cond b (s ∷ filter (λ t. bytes_eq s.tag t.tag) wire) (filter (λ t. bytes_eq s.tag t.tag) wire))) (same_tag s.tag)

pub frames_other : (other : Tag) (s : OnWire) (wire : List OnWire) → other ≢ s.tag → frames_of other (s ∷ wire) ≡ frames_of other wire
frames_other other s wire n = ap (λ b. map (λ (t : OnWire). t.frame) (cond b (s ∷ filter (λ t. bytes_eq other t.tag) wire) (filter (λ t. bytes_eq other t.tag) wire))) (other_tag other s.tag n)

frames-append : (tag : Tag) (xs ys : List OnWire) → frames_of tag (xs ++ ys) ≡ frames_of tag xs ++ frames_of tag ys
frames-append tag xs ys = ap (map (λ (s : OnWire). s.frame)) (filter-append (λ s. bytes_eq tag s.tag) xs ys) ∙ map-append (λ (s : OnWire). s.frame) (filter (λ s. bytes_eq tag s.tag) xs) (filter (λ s. bytes_eq tag s.tag) ys)

frames_under : (tag : Tag) (frames : List LinkFrame) → frames_of tag (under tag frames) ≡ frames
frames_under tag [] = refl
frames_under tag (f ∷ frames) = frames_first (record { tag = tag; frame = f }) (under tag frames) ∙ ap (λ l. f ∷ l) (frames_under tag frames)

frames_under_other : (other tag : Tag) (frames : List LinkFrame) → other ≢ tag → frames_of other (under tag frames) ≡ []
frames_under_other other tag [] n = refl
frames_under_other other tag (f ∷ frames) n = frames_other other (record { tag = tag; frame = f }) (under tag frames) n ∙ frames_under_other other tag frames n

pub frames_sent : (tag : Tag) (wire : List OnWire) (frames : List LinkFrame) → frames_of tag wire ≡ [] → frames_of tag (wire ++ under tag frames) ≡ frames
frames_sent tag wire frames quiet = frames-append tag wire (under tag frames) ∙ ap (λ l. l ++ frames_of tag (under tag frames)) quiet ∙ frames_under tag frames

pub frames_sent_other : (other tag : Tag) (wire : List OnWire) (frames : List LinkFrame) → other ≢ tag → frames_of other (wire ++ under tag frames) ≡ frames_of other wire
frames_sent_other other tag wire frames n =
    frames-append other wire (under tag frames) ∙ ap (λ l. frames_of other wire ++ l) (frames_under_other other tag frames n) ∙ append-nil (frames_of other wire)

-- ---- tests that do not hold

-- of a call that is not refused no test holds
pub none_hold : (tests : List (Bool × PairError)) → refusal tests ≡ None → AllByRecursion (λ t. t.0 ≡ false) tests
none_hold [] h = tt
none_hold ((true, e) ∷ tests) h = absurd (some_is_none h)
none_hold ((false, e) ∷ tests) h = (refl, none_hold tests h)

pub not_is_false : (b : Bool) → not b ≡ false → b ≡ true
not_is_false true h = refl
not_is_false false h = absurd (false_is_not_true (sym h))

pub nothing_in : {A : Type 0} (xs : List A) → not (is_empty xs) ≡ false → xs ≡ []
nothing_in [] h = refl
nothing_in (x ∷ xs) h = absurd (false_is_not_true (sym h))

pub none_there : {A : Type 0} (o : Option A) → is_some o ≡ false → o ≡ None
none_there None h = refl
none_there (Some x) h = absurd (false_is_not_true (sym h))

some_there : {A : Type 0} (o : Option A) → is_none o ≡ true → o ≡ None
some_there None h = refl
some_there (Some x) h = absurd (false_is_not_true h)

-- ---- what is kept is good

pub Good-from_world : (w : World) → IsWorld w → Good w
Good-from_world w k = record {
  deliveries = λ tag is.
      good_kept (is_together w.phase) tag (entry_at w.ledger.link.unsettled tag) (entry_at w.resuming tag) (entry_at w.deliveries tag)
      (entry_at w.receiver.unsettled tag) (frames_of tag w.wire) (fates_of tag w.ledger.records) (k.each tag) is;
  withdrawn = λ tag is.
      given_up_kept (is_together w.phase) tag (entry_at w.ledger.link.unsettled tag) (entry_at w.resuming tag) (entry_at w.deliveries tag)
      (entry_at w.receiver.unsettled tag) (frames_of tag w.wire) (fates_of tag w.ledger.records) (k.each tag) is;
}

-- no registration of what is to be resumed or aborted is pending
listed_fates : {tag : Tag} (next : ResumingDelivery) (p : Progress) (reported : Option (Option DeliveryState)) (frames : List LinkFrame) (fates : List Fate)
    → (IsListed tag next p reported frames × IsLatest HandedOut fates) ⊎ IsAborting tag next p reported frames fates → HaveMoved fates
listed_fates next p reported frames fates k = elim (k) [
  | inl l ↦ have_moved HandedOut fates l.1 refl
  | inr a ↦ have_moved Withdrawn fates a.withdrawn.last refl
]

pending_kept : (b : Bool) (tag : Tag) (own : Option UnsettledMessage) (listed : Option ResumingDelivery) (q : Option Progress) (reported : Option (Option DeliveryState)) (frames : List LinkFrame) (fates : List Fate)
    → IsKeptAs b tag own listed q reported frames fates → count_by is_pending_fate fates ≡ (if is_some own then 1 else 0)
pending_kept b tag None None None reported frames fates k = none_pending fates k.2.before
pending_kept b tag None None (Some p) reported frames fates k = none_pending fates (have_moved Withdrawn fates k.last refl)
pending_kept b tag (Some entry) None None reported frames fates k = absurd k
pending_kept b tag (Some entry) None (Some p) reported frames fates k = ap (count_by is_pending_fate) k.1.fates_are ∙ one_pending k.1.earlier k.1.before
pending_kept b tag None (Some next) None reported frames fates k = absurd k
pending_kept b tag None (Some next) (Some p) reported frames fates k = none_pending fates (listed_fates next p reported frames fates k)
pending_kept b tag (Some entry) (Some next) q reported frames fates k = absurd k

-- the tags of the pending registrations are those of the sender's map, each once
pub IsRecorded-from_world : (w : World) → IsWorld w → IsRecorded w.ledger.link.unsettled w.ledger.records
IsRecorded-from_world w k = record {
  distinct = k.unsettled;
  pending = λ tag. pending_kept (is_together w.phase) tag (entry_at w.ledger.link.unsettled tag) (entry_at w.resuming tag) (entry_at w.deliveries tag)
      (entry_at w.receiver.unsettled tag) (frames_of tag w.wire) (fates_of tag w.ledger.records) (k.each tag);
}

-- ---- a new pair

pub IsWorld-new : (count : ℕ) → IsWorld (new_world count)
IsWorld-new count = record {
  ends = record { alike = refl; state = inl refl; counted = λ _. refl; sender_output = refl; receiver_output = refl };
  sender = refl;
  receiver = refl;
  unsettled = IsMap-none UnsettledMessage;
  reports = IsMap-none (Option DeliveryState);
  deliveries = IsMap-none Progress;
  resuming = IsMap-none ResumingDelivery;
  apart = λ _. refl;
  idle = λ _. refl;
  turn = refl;
  each = λ tag. (refl, refl, record { before = tt; last = λ none. none });
}

-- ---- the wire comes in turn

idle_turn : (wire : List OnWire) → wire ≡ [] → IsInTurn false wire
idle_turn wire none = subst (IsInTurn false) (sym none) refl

-- of a pair without transfers under way the receiver waits for no more
pub idle_more : (w : World) → IsWorld w → is_together w.phase ≡ false → w.receiver.more ≡ false
idle_more w k off = subst (IsInTurn w.receiver.more) (k.idle off) k.turn

-- the next transfer begins a delivery exactly if the one before it had no more
pub IsWorld-turn : (w : World) (s : OnWire) (rest : List OnWire) → IsWorld w → w.wire ≡ s ∷ rest → does_begin s.frame ≡ not w.receiver.more
IsWorld-turn w s rest k taken = let turn : IsInTurn w.receiver.more (s ∷ rest) = subst (IsInTurn w.receiver.more) taken k.turn in turn.0

-- ---- a cut

detached : state.Detached ≡ state.Unattached → ⊥
detached h = cc

pub nothing_listed : (l : Entries ResumingDelivery) (tag : Tag) → l ≡ [] → entry_at l tag ≡ None
nothing_listed l tag is = ap (λ (l : Entries ResumingDelivery). entry_at l tag) is

pub IsWorld-cuts : (old new : World) → IsWorld old → refusal (cut_tests old) ≡ None → Cuts old new → IsWorld new
IsWorld-cuts old new k may c =
    let none : old.resuming ≡ [] = nothing_in old.resuming (none_hold (cut_tests old) may).1.0 in
    subst IsWorld (sym c.world) (record {
      ends = record { alike = refl; state = inr refl; counted = λ is. absurd (detached is); sender_output = refl; receiver_output = refl };
      sender = ap (λ (s : Sender Target). record s { local_state = state.Detached; output_handle = None; input_handle = None }) k.sender;
      receiver = ap (λ (r : Receiver Target). record r { local_state = state.Detached; output_handle = None; input_handle = None; more = false }) k.receiver;
      unsettled = k.unsettled;
      reports = k.reports;
      deliveries = k.deliveries;
      resuming = k.resuming;
      apart = λ _. none;
      idle = λ _. refl;
      turn = refl;
      each = λ tag.
          let own = entry_at old.ledger.link.unsettled tag in
          let q = entry_at old.deliveries tag in
          let reported = entry_at old.receiver.unsettled tag in
          let fates = fates_of tag old.ledger.records in
          let unlisted = nothing_listed old.resuming tag none in
          let before : IsKeptAs (is_together old.phase) tag own None q reported (frames_of tag old.wire) fates =
          subst (λ l. IsKeptAs (is_together old.phase) tag own l q reported (frames_of tag old.wire) fates) unlisted (k.each tag) in
          let after : IsKeptAs false tag own None q reported [] fates = kept_cut (is_together old.phase) tag own q reported (frames_of tag old.wire) fates before in
          subst (IsTagKept false tag) (stands refl (sym unlisted) refl refl refl refl) after;
    })

-- ---- a grant

-- a receiver's end whose counts and handles stay is where it was
receiver_on_way : (count : ℕ) (r q : Receiver Target) (st : LinkState) → q.flow_state.initial_delivery_count ≡ r.flow_state.initial_delivery_count → q.flow_state.delivery_count ≡ r.flow_state.delivery_count
    → q.input_handle ≡ r.input_handle → IsOnWay count r st → IsOnWay count q st
receiver_on_way count r q state.Unattached a b c h = tt
receiver_on_way count r q state.Detached a b c h = tt
receiver_on_way count r q state.AttachReceived a b c h = record { initial = a ∙ h.initial; present = b ∙ h.present; input = c ∙ h.input }
receiver_on_way count r q state.Attached a b c h = record { initial = a ∙ h.initial; present = b ∙ h.present; input = c ∙ h.input }
receiver_on_way count r q state.AttachSent a b c h = absurd h
receiver_on_way count r q state.IncompleteAttachSent a b c h = absurd h
receiver_on_way count r q state.IncompleteAttachReceived a b c h = absurd h
receiver_on_way count r q state.IncompleteAttachExchanged a b c h = absurd h
receiver_on_way count r q state.DetachSent a b c h = absurd h
receiver_on_way count r q state.CloseSent a b c h = absurd h
receiver_on_way count r q state.Closed a b c h = absurd h

ends_grant : (phase : Phase) (s : Sender Target) (r : Receiver Target) (a n : ℕ) → AreEnds phase s r
    → AreEnds phase (record s { flow_state = with_credit s.flow_state a }) (record r { flow_state = with_credit r.flow_state n })
ends_grant Apart s r a n e = record { alike = e.alike; state = e.state; counted = e.counted; sender_output = e.sender_output; receiver_output = e.receiver_output }
ends_grant (Halfway limit) s r a n e = record {
  sender_state = e.sender_state;
  sender_output = e.sender_output;
  receiver_output = e.receiver_output;
  counted = e.counted;
  sender_frame = e.sender_frame;
  receiver_frame = e.receiver_frame;
  receiver_state = receiver_on_way s.flow_state.delivery_count r (record r { flow_state = with_credit r.flow_state n }) r.local_state refl refl refl e.receiver_state;
}
ends_grant (Together limit) s r a n e = record {
  enough = e.enough;
  sender_state = e.sender_state;
  receiver_state = e.receiver_state;
  sender_output = e.sender_output;
  sender_input = e.sender_input;
  receiver_output = e.receiver_output;
  frame = e.frame;
}

pub IsWorld-grants : (old new : World) (n answer : ℕ) → IsWorld old → Grants old n answer new → IsWorld new
IsWorld-grants old new n answer k g =
    subst IsWorld (sym g.world) (record {
      ends = ends_grant old.phase old.ledger.link old.receiver answer n k.ends;
      sender = ap (λ (s : Sender Target). record s { flow_state = with_credit s.flow_state answer }) k.sender;
      receiver = ap (λ (r : Receiver Target). record r { flow_state = with_credit r.flow_state n }) k.receiver;
      unsettled = k.unsettled;
      reports = k.reports;
      deliveries = k.deliveries;
      resuming = k.resuming;
      apart = k.apart;
      idle = k.idle;
      turn = k.turn;
      each = k.each;
    })

-- ---- a send

sent_ends : (limit : ℕ) (s t : Sender Target) (r q : Receiver Target) → t.local_state ≡ s.local_state → t.output_handle ≡ s.output_handle → t.input_handle ≡ s.input_handle → t.max_frame_size ≡ s.max_frame_size
    → q.local_state ≡ r.local_state → q.output_handle ≡ r.output_handle → AreTogether limit s r → AreTogether limit t q
sent_ends limit s t r q a b c d e f k = record {
  enough = k.enough;
  sender_state = a ∙ k.sender_state;
  receiver_state = e ∙ k.receiver_state;
  sender_output = b ∙ k.sender_output;
  sender_input = c ∙ k.sender_input;
  receiver_output = f ∙ k.receiver_output;
  frame = d ∙ k.frame;
}

-- the ends of an attached pair, where only counts and maps change
ends_stay : (phase : Phase) (s t : Sender Target) (r q : Receiver Target) → is_together phase ≡ true → t.local_state ≡ s.local_state → t.output_handle ≡ s.output_handle → t.input_handle ≡ s.input_handle → t.max_frame_size ≡ s.max_frame_size
    → q.local_state ≡ r.local_state → q.output_handle ≡ r.output_handle → AreEnds phase s r → AreEnds phase t q
ends_stay Apart s t r q is a b c d e f k = absurd (false_is_not_true is)
ends_stay (Halfway limit) s t r q is a b c d e f k = absurd (false_is_not_true is)
ends_stay (Together limit) s t r q is a b c d e f k = sent_ends limit s t r q a b c d e f k

pub input_of : (phase : Phase) (s : Sender Target) (r : Receiver Target) → is_together phase ≡ true → AreEnds phase s r → s.input_handle ≡ Some (record { 0 = 0 })
input_of Apart s r is k = absurd (false_is_not_true is)
input_of (Halfway limit) s r is k = absurd (false_is_not_true is)
input_of (Together limit) s r is k = k.sender_input

nothing_kept : (b : Bool) (tag : Tag) (own : Option UnsettledMessage) (listed : Option ResumingDelivery) (q : Option Progress) (reported : Option (Option DeliveryState)) (frames : List LinkFrame) (fates : List Fate)
    → own ≡ None → listed ≡ None → option_and_then (λ (p : Progress). p.held) q ≡ None → IsKeptAs b tag own listed q reported frames fates
    → (q ≡ None) × (reported ≡ None) × (frames ≡ []) × AreOver fates
nothing_kept b tag own listed q reported frames fates e f h k =
    empty q h (subst (λ o. IsKeptAs b tag o None q reported frames fates) e (subst (λ l. IsKeptAs b tag own l q reported frames fates) f k))
  where
    empty : (q : Option Progress) → option_and_then (λ (p : Progress). p.held) q ≡ None → IsKeptAs b tag None None q reported frames fates
        → (q ≡ None) × (reported ≡ None) × (frames ≡ []) × AreOver fates
    empty None h k = (refl, k.0, k.1, k.2)
    empty (Some p) h k = absurd (false_is_not_true (sym (ap is_some h) ∙ k.holds))

-- of a tag that is neither registered nor to be resumed, and of which nothing is held, nothing is there
pub nothing_there : (w : World) (tag : Tag) → IsWorld w → entry_at w.ledger.link.unsettled tag ≡ None → entry_at w.resuming tag ≡ None → held_at w tag ≡ None
    → (entry_at w.deliveries tag ≡ None) × (entry_at w.receiver.unsettled tag ≡ None) × (frames_of tag w.wire ≡ []) × AreOver (fates_of tag w.ledger.records)
nothing_there w tag k own listed unheld =
    nothing_kept (is_together w.phase) tag (entry_at w.ledger.link.unsettled tag) (entry_at w.resuming tag) (entry_at w.deliveries tag) (entry_at w.receiver.unsettled tag) (frames_of tag w.wire) (fates_of tag w.ledger.records)
    own listed unheld (k.each tag)

-- something is kept of a tag exactly if it is registered, or if something of it is held
taken_kept : (b : Bool) (tag : Tag) (own : Option UnsettledMessage) (q : Option Progress) (reported : Option (Option DeliveryState)) (frames : List LinkFrame) (fates : List Fate)
    → IsKeptAs b tag own None q reported frames fates → is_some q ≡ (is_some own || is_some (option_and_then (λ (p : Progress). p.held) q))
taken_kept b tag None None reported frames fates k = refl
taken_kept b tag None (Some p) reported frames fates k = sym k.holds
taken_kept b tag (Some entry) None reported frames fates k = absurd k
taken_kept b tag (Some entry) (Some p) reported frames fates k = refl

pub tag_is_taken : (w : World) (tag : Tag) → IsWorld w → entry_at w.resuming tag ≡ None → is_some (entry_at w.deliveries tag) ≡ (is_some (entry_at w.ledger.link.unsettled tag) || is_some (held_at w tag))
tag_is_taken w tag k unlisted =
    taken_kept (is_together w.phase) tag (entry_at w.ledger.link.unsettled tag) (entry_at w.deliveries tag) (entry_at w.receiver.unsettled tag) (frames_of tag w.wire) (fates_of tag w.ledger.records)
    (subst (IsTagKept (is_together w.phase) tag) (stands refl unlisted refl refl refl refl) (k.each tag))

-- what a withdrawal leaves of what is held
pub held_withdrawn : (deliveries : Entries Progress) (tag : Tag) (p : Progress) (h : Option Held) → p.held ≡ h → IsMap deliveries
    → option_and_then (λ (p : Progress). p.held) (entry_at (if is_some h then with_entry deliveries tag (record p { withdrawn = true }) else without_entry deliveries tag) tag) ≡ h
held_withdrawn deliveries tag p None same is = ap (option_and_then (λ (p : Progress). p.held)) (removed_here deliveries tag is)
held_withdrawn deliveries tag p (Some held) same is = ap (option_and_then (λ (p : Progress). p.held)) (entry_at-put deliveries tag (record p { withdrawn = true })) ∙ same

-- what a send tests of its tag
pub tag_is_free : (w : World) (payload : List ℕ) → refusal (send_tests w payload) ≡ None
    → (entry_at w.ledger.link.unsettled (next_tag w.ledger.link) ≡ None) × (held_at w (next_tag w.ledger.link) ≡ None)
tag_is_free w payload may =
    let tag = next_tag w.ledger.link in
    let tests = none_hold (send_tests w payload) may in
    let both = or_parts (is_some (entry_at w.ledger.link.unsettled tag)) (is_some (held_at w tag)) tests.1.1.1.1.0 in
    (none_there (entry_at w.ledger.link.unsettled tag) both.0, none_there (held_at w tag) both.1)

length-next_tag : (s : Sender Target) → length (next_tag s) ≡ 4
length-next_tag s = grind arith

below_by : (n : ℕ) → nat_le (2 ^ 32) n ≡ false → n < 2 ^ 32
below_by n h = grind (arith, nat_tests)

module _ (old new : World) (payload tag : Tag) (count : ℕ) (k : IsWorld old) (may : refusal (send_tests old payload) ≡ None) (a : Sends old payload tag count new) where
  sent : World
  sent = record old {
    ledger = after_registration (after_one_credit old.ledger) tag (new_entry 0 payload);
    deliveries = with_entry old.deliveries tag initial_progress;
    wire = old.wire ++ under tag a.frames;
  }

  sending_tests : AllByRecursion (λ t. t.0 ≡ false) (send_tests old payload)
  sending_tests = none_hold (send_tests old payload) may

  together_sent : is_together old.phase ≡ true
  together_sent = not_is_false (is_together old.phase) sending_tests.0

  none_to_resume : old.resuming ≡ []
  none_to_resume = nothing_in old.resuming sending_tests.1.0

  frames_sent_are : AreSent tag payload None false a.frames
  frames_sent_are = are_sent old.ledger.link (record { 0 = 0 }) tag false payload None false a.frames (input_of old.phase old.ledger.link old.receiver together_sent k.ends) a.framed

  here_sent : IsTagKept (is_together old.phase) tag (standing sent tag)
  unfolding sent
  here_sent =
      let free : entry_at old.ledger.link.unsettled tag ≡ None = ap (entry_at old.ledger.link.unsettled) a.tagged ∙ (tag_is_free old payload may).0 in
      let unheld : held_at old tag ≡ None = ap (held_at old) a.tagged ∙ (tag_is_free old payload may).1 in
      let unlisted : entry_at old.resuming tag ≡ None = nothing_listed old.resuming tag none_to_resume in
      let before = nothing_there old tag k free unlisted unheld in
      let short : length payload < 2 ^ 32 = below_by (length payload) sending_tests.1.1.0 in
      let four : length tag ≡ 4 = ap length a.tagged ∙ length-next_tag old.ledger.link in
      subst (λ b. IsTagKept b tag (standing sent tag)) (sym together_sent)
      (subst (IsTagKept true tag) (stands (sym (entry_at-put old.ledger.link.unsettled tag (new_entry 0 payload))) (sym unlisted) (sym (entry_at-put old.deliveries tag initial_progress)) (sym before.1) (sym (frames_sent tag old.wire a.frames before.2)) (sym (fates_registered tag old.ledger.records)))
      (way_sent tag payload a.frames four short frames_sent_are, latest_entered (fates_of tag old.ledger.records) before.3.before))

  there_sent : (other : Tag) → other ≢ tag → IsTagKept (is_together old.phase) other (standing sent other)
  unfolding sent
  there_sent other n =
      subst (IsTagKept (is_together old.phase) other) (stands (sym (entry_at-put_other old.ledger.link.unsettled tag other (new_entry 0 payload) n)) refl (sym (entry_at-put_other old.deliveries tag other initial_progress n)) refl (sym (frames_sent_other other tag old.wire a.frames n)) (sym (fates_registered_other tag other old.ledger.records n)))
      (k.each other)

  pub IsWorld-sends : IsWorld new
  unfolding sent
  IsWorld-sends = subst IsWorld (sym a.world) (record {
    ends = ends_stay old.phase old.ledger.link (after_registration (after_one_credit old.ledger) tag (new_entry 0 payload)).link old.receiver old.receiver together_sent refl refl refl refl refl refl k.ends;
    sender = ap (λ (s : Sender Target). record s { flow_state = after_consuming 1 s.flow_state; unsettled = with_entry s.unsettled tag (new_entry 0 payload) }) k.sender;
    receiver = k.receiver;
    unsettled = IsMap-put old.ledger.link.unsettled tag (new_entry 0 payload) k.unsettled;
    reports = k.reports;
    deliveries = IsMap-put old.deliveries tag initial_progress k.deliveries;
    resuming = k.resuming;
    apart = k.apart;
    idle = λ off. absurd (false_is_not_true (sym off ∙ together_sent));
    turn = turn_sent old.receiver.more old.wire (under tag a.frames) k.turn frames_sent_are.turn;
    each = by_tag (λ t. IsTagKept (is_together old.phase) t (standing sent t)) tag here_sent there_sent;
  })

-- ---- an arrival

-- the next transfer can be received
pub IsWorld-receives : (w : World) (s : OnWire) (rest : List OnWire) (id : ℕ) → IsWorld w → w.wire ≡ s ∷ rest → (performative_of s.frame).aborted ≡ false
    → IsSomeAnd (entry_at w.deliveries s.tag) (λ p. CanReceive p.held id s.frame)
IsWorld-receives w s rest id k taken carries =
    kept_receives (is_together w.phase) s.tag (entry_at w.ledger.link.unsettled s.tag) (entry_at w.resuming s.tag) (entry_at w.deliveries s.tag) (entry_at w.receiver.unsettled s.tag) id s.frame (frames_of s.tag rest) (fates_of s.tag w.ledger.records) carries
    (subst (λ fs. IsKeptAs (is_together w.phase) s.tag (entry_at w.ledger.link.unsettled s.tag) (entry_at w.resuming s.tag) (entry_at w.deliveries s.tag) (entry_at w.receiver.unsettled s.tag) fs (fates_of s.tag w.ledger.records)) (ap (frames_of s.tag) taken ∙ frames_first s rest) (k.each s.tag))

module _ (old new : World) (id : ℕ) (tag : Tag) (place : ℕ × ℕ) (whole : Bool) (k : IsWorld old) (may : refusal (arrive_tests old) ≡ None) (a : Arrives old id tag place whole new) where
  arrived : World
  arrived = record old {
    receiver = record old.receiver { unsettled = with_entry old.receiver.unsettled tag (Some (received_at place)); more = (performative_of a.first.frame).more };
    deliveries = with_entry old.deliveries tag (received a.before id a.first.frame);
    wire = a.rest;
  }

  together_arrived : is_together old.phase ≡ true
  together_arrived = not_is_false (is_together old.phase) (none_hold (arrive_tests old) may).0

  here_arrived : IsTagKept (is_together old.phase) tag (standing arrived tag)
  unfolding arrived
  here_arrived =
      let own = entry_at old.ledger.link.unsettled tag in
      let listed = entry_at old.resuming tag in
      let reported = entry_at old.receiver.unsettled tag in
      let fates = fates_of tag old.ledger.records in
      let wire : frames_of tag old.wire ≡ a.first.frame ∷ frames_of tag a.rest =
      ap (frames_of tag) a.taken ∙ subst (λ t. frames_of t (a.first ∷ a.rest) ≡ a.first.frame ∷ frames_of t a.rest) (sym a.tagged) (frames_first a.first a.rest) in
      let before : IsKeptAs (is_together old.phase) tag own listed (Some a.before) reported (a.first.frame ∷ frames_of tag a.rest) fates =
      subst (IsTagKept (is_together old.phase) tag) (stands refl refl a.known refl wire refl) (k.each tag) in
      subst (IsTagKept (is_together old.phase) tag) (stands refl refl (sym (entry_at-put old.deliveries tag (received a.before id a.first.frame))) (sym (entry_at-put old.receiver.unsettled tag (Some (received_at place)))) refl refl)
      (kept_received (is_together old.phase) tag own listed a.before id place reported a.first.frame (frames_of tag a.rest) fates a.carries a.reported before)

  there_arrived : (other : Tag) → other ≢ tag → IsTagKept (is_together old.phase) other (standing arrived other)
  unfolding arrived
  there_arrived other n =
      let wire : frames_of other old.wire ≡ frames_of other a.rest = ap (frames_of other) a.taken ∙ frames_other other a.first a.rest (λ p. n (p ∙ sym a.tagged)) in
      subst (IsTagKept (is_together old.phase) other) (stands refl refl (sym (entry_at-put_other old.deliveries tag other (received a.before id a.first.frame) n)) (sym (entry_at-put_other old.receiver.unsettled tag other (Some (received_at place)) n)) wire refl)
      (k.each other)

  pub IsWorld-arrives : IsWorld new
  unfolding arrived
  IsWorld-arrives = subst IsWorld (sym a.world) (record {
    ends = ends_stay old.phase old.ledger.link old.ledger.link old.receiver (record old.receiver { unsettled = with_entry old.receiver.unsettled tag (Some (received_at place)); more = (performative_of a.first.frame).more }) together_arrived refl refl refl refl refl refl k.ends;
    sender = k.sender;
    receiver = ap (λ (r : Receiver Target). record r { unsettled = with_entry r.unsettled tag (Some (received_at place)); more = (performative_of a.first.frame).more }) k.receiver;
    unsettled = k.unsettled;
    reports = IsMap-put old.receiver.unsettled tag (Some (received_at place)) k.reports;
    deliveries = IsMap-put old.deliveries tag (received a.before id a.first.frame) k.deliveries;
    resuming = k.resuming;
    apart = k.apart;
    idle = λ off. absurd (false_is_not_true (sym off ∙ together_arrived));
    turn = let turn : IsInTurn old.receiver.more (a.first ∷ a.rest) = subst (IsInTurn old.receiver.more) a.taken k.turn in turn.1;
    each = by_tag (λ t. IsTagKept (is_together old.phase) t (standing arrived t)) tag here_arrived there_arrived;
  })

-- ---- a delivery is resumed, or put back

listed_kept : (b : Bool) (tag : Tag) (own : Option UnsettledMessage) (listed : Option ResumingDelivery) (next : ResumingDelivery) (p : Progress) (reported : Option (Option DeliveryState)) (frames : List LinkFrame) (fates : List Fate)
    → listed ≡ Some next → IsKeptAs b tag own listed (Some p) reported frames fates
    → (own ≡ None) × ((IsListed tag next p reported frames × IsLatest HandedOut fates) ⊎ IsAborting tag next p reported frames fates)
listed_kept b tag own None next p reported frames fates is k = absurd (some_is_none (sym is))
listed_kept b tag (Some entry) (Some other) next p reported frames fates is k = absurd k
listed_kept b tag None (Some other) next p reported frames fates is k =
    let same : other ≡ next = some_is is in
    (refl, subst (λ n. (IsListed tag n p reported frames × IsLatest HandedOut fates) ⊎ IsAborting tag n p reported frames fates) same k)

-- an entry is of no abort
not_aborting : (next : ResumingDelivery) (entry : UnsettledMessage) → entry_of next ≡ Some entry → next ≡ Abort 0 None → ⊥
not_aborting next entry kept is = some_is_none (sym kept ∙ ap entry_of is)

-- something has been kept of what is to be resumed
progress_of : (b : Bool) (tag : Tag) (own : Option UnsettledMessage) (listed : Option ResumingDelivery) (next : ResumingDelivery) (q : Option Progress) (reported : Option (Option DeliveryState)) (frames : List LinkFrame) (fates : List Fate)
    → listed ≡ Some next → IsKeptAs b tag own listed q reported frames fates → (p : Progress) × (q ≡ Some p)
progress_of b tag own None next q reported frames fates is k = absurd (some_is_none (sym is))
progress_of b tag (Some entry) (Some other) next q reported frames fates is k = absurd k
progress_of b tag None (Some other) next None reported frames fates is k = absurd k
progress_of b tag None (Some other) next (Some p) reported frames fates is k = (p, refl)

-- the next of the list
module _ (old : World) (tag : Tag) (next : ResumingDelivery) (others : Entries ResumingDelivery) (k : IsWorld old) (listed : old.resuming ≡ (tag, next) ∷ others) where
  is_map_listed : IsMap ((tag, next) ∷ others)
  is_map_listed = subst IsMap listed k.resuming

  pub IsMap-others : IsMap others
  IsMap-others = others_are_map tag next others is_map_listed

  pub out_of_list : entry_at others tag ≡ None
  out_of_list = first_alone tag next others is_map_listed

  pub still_listed : (other : Tag) → other ≢ tag → entry_at old.resuming other ≡ entry_at others other
  still_listed other n = ap (λ (l : Entries ResumingDelivery). entry_at l other) listed ∙ entry_at-behind tag other next others n

  pub in_list : entry_at old.resuming tag ≡ Some next
  in_list = ap (λ (l : Entries ResumingDelivery). entry_at l tag) listed ∙ entry_at-first tag next others

  pub listed_progress : (p : Progress) × (entry_at old.deliveries tag ≡ Some p)
  listed_progress = progress_of (is_together old.phase) tag _ (entry_at old.resuming tag) next _ _ _ _ in_list (k.each tag)

  -- how it stands
  pub listed_stands : (p : Progress) → entry_at old.deliveries tag ≡ Some p
      → (entry_at old.ledger.link.unsettled tag ≡ None)
      × ((IsListed tag next p (entry_at old.receiver.unsettled tag) (frames_of tag old.wire) × IsLatest HandedOut (fates_of tag old.ledger.records))
      ⊎ IsAborting tag next p (entry_at old.receiver.unsettled tag) (frames_of tag old.wire) (fates_of tag old.ledger.records))
  listed_stands p known = listed_kept (is_together old.phase) tag (entry_at old.ledger.link.unsettled tag) (entry_at old.resuming tag) next p (entry_at old.receiver.unsettled tag) (frames_of tag old.wire) (fates_of tag old.ledger.records) in_list
      (subst (IsTagKept (is_together old.phase) tag) (stands refl refl known refl refl refl) (k.each tag))

  pub listed_quiet : (p : Progress) → entry_at old.deliveries tag ≡ Some p → frames_of tag old.wire ≡ []
  listed_quiet p known = elim ((listed_stands p known).1) [ inl l ↦ l.0.under_way.good.quiet refl | inr a ↦ a.withdrawn.quiet refl ]

  pub listed_moved : (p : Progress) → entry_at old.deliveries tag ≡ Some p → HaveMoved (fates_of tag old.ledger.records)
  listed_moved p known = listed_fates next p (entry_at old.receiver.unsettled tag) (frames_of tag old.wire) (fates_of tag old.ledger.records) (listed_stands p known).1

  -- its tag is free
  pub listed_free : entry_at old.ledger.link.unsettled tag ≡ None
  listed_free = let q = listed_progress in (listed_stands q.0 q.1).0

  module _ (entry : UnsettledMessage) (kept : entry_of next ≡ Some entry) where
    -- it is a delivery
    pub listed_entry : (p : Progress) → entry_at old.deliveries tag ≡ Some p
        → IsListed tag next p (entry_at old.receiver.unsettled tag) (frames_of tag old.wire) × IsLatest HandedOut (fates_of tag old.ledger.records)
    listed_entry p known = elim ((listed_stands p known).1) [ inl l ↦ l | inr a ↦ absurd (not_aborting next entry kept a.is) ]

    -- its entry, of which nothing is under way
    pub listed_way : (p : Progress) → entry_at old.deliveries tag ≡ Some p → IsUnderWay false tag entry p (entry_at old.receiver.unsettled tag) []
    listed_way p known =
        let l = (listed_entry p known).0 in
        let same : l.entry ≡ entry = some_is (sym l.entry_is ∙ kept) in
        subst (λ e. IsUnderWay false tag e p (entry_at old.receiver.unsettled tag) []) same
        (subst (IsUnderWay false tag l.entry p (entry_at old.receiver.unsettled tag)) (l.under_way.good.quiet refl) l.under_way)

    pub listed_rest : (p : Progress) (rest : List ℕ) → entry_at old.deliveries tag ≡ Some p → rest_of next ≡ Some rest → rest ≡ drop (length (bytes_in p.held)) entry.payload
    listed_rest p rest known is =
        let l = (listed_entry p known).0 in
        let same : l.entry ≡ entry = some_is (sym l.entry_is ∙ kept) in
        some_is (sym is ∙ l.rest) ∙ ap (λ (e : UnsettledMessage). drop (length (bytes_in p.held)) e.payload) same

-- the next of the list is an abort
module _ (old : World) (tag : Tag) (others : Entries ResumingDelivery) (k : IsWorld old) (listed : old.resuming ≡ (tag, Abort 0 None) ∷ others) where
  -- what was withdrawn, of which nothing is under way
  pub aborting : (entry_at old.ledger.link.unsettled tag ≡ None)
      × ((p : Progress) × (entry_at old.deliveries tag ≡ Some p) × IsWithdrawn false tag p (entry_at old.receiver.unsettled tag) (frames_of tag old.wire) (fates_of tag old.ledger.records))
  aborting = aborting_kept (is_together old.phase) tag (entry_at old.ledger.link.unsettled tag) (entry_at old.deliveries tag) (entry_at old.receiver.unsettled tag) (frames_of tag old.wire) (fates_of tag old.ledger.records)
      (subst (IsTagKept (is_together old.phase) tag) (stands refl (in_list old tag (Abort 0 None) others k listed) refl refl refl refl) (k.each tag))

module _ (old new : World) (tag : Tag) (k : IsWorld old) (may : refusal (next_tests old) ≡ None) (a : DropsAbort old tag new) where
  dropped_world : World
  dropped_world = record old { resuming = a.others }

  together_dropped : is_together old.phase ≡ true
  together_dropped = not_is_false (is_together old.phase) (none_hold (next_tests old) may).0

  here_dropped : IsTagKept (is_together old.phase) tag (standing dropped_world tag)
  unfolding dropped_world
  here_dropped =
      let w = aborting old tag a.others k a.listed in
      subst (IsTagKept (is_together old.phase) tag) (stands (sym w.0) (sym (out_of_list old tag (Abort 0 None) a.others k a.listed)) (sym w.1.1) refl refl refl)
      (withdrawn_waits (is_together old.phase) tag w.1.0 (entry_at old.receiver.unsettled tag) (frames_of tag old.wire) (fates_of tag old.ledger.records) w.1.2)

  there_dropped : (other : Tag) → other ≢ tag → IsTagKept (is_together old.phase) other (standing dropped_world other)
  unfolding dropped_world
  there_dropped other n = subst (IsTagKept (is_together old.phase) other) (stands refl (still_listed old tag (Abort 0 None) a.others k a.listed other n) refl refl refl refl) (k.each other)

  pub IsWorld-drops_abort : IsWorld new
  unfolding dropped_world
  IsWorld-drops_abort = subst IsWorld (sym a.world) (record {
    ends = k.ends;
    sender = k.sender;
    receiver = k.receiver;
    unsettled = k.unsettled;
    reports = k.reports;
    deliveries = k.deliveries;
    resuming = IsMap-others old tag (Abort 0 None) a.others k a.listed;
    apart = λ off. absurd (false_is_not_true (sym off ∙ together_dropped));
    idle = λ off. absurd (false_is_not_true (sym off ∙ together_dropped));
    turn = k.turn;
    each = by_tag (λ t. IsTagKept (is_together old.phase) t (standing dropped_world t)) tag here_dropped there_dropped;
  })

module _ (old new : World) (tag : Tag) (k : IsWorld old) (may : refusal (next_tests old) ≡ None) (a : SendsAbort old tag new) where
  aborting_world : World
  aborting_world = record old { resuming = a.others; wire = old.wire ++ under tag (abort_frame zero_output a.handle tag 0 ∷ []) }

  together_aborting : is_together old.phase ≡ true
  together_aborting = not_is_false (is_together old.phase) (none_hold (next_tests old) may).0

  here_aborting : IsTagKept (is_together old.phase) tag (standing aborting_world tag)
  unfolding aborting_world
  here_aborting =
      let w = aborting old tag a.others k a.listed in
      let quiet = listed_quiet old tag (Abort 0 None) a.others k a.listed w.1.0 w.1.1 in
      subst (λ b. IsTagKept b tag (standing aborting_world tag)) (sym together_aborting)
      (subst (IsTagKept true tag) (stands (sym w.0) (sym (out_of_list old tag (Abort 0 None) a.others k a.listed)) (sym w.1.1) refl (sym (frames_sent tag old.wire (abort_frame zero_output a.handle tag 0 ∷ []) quiet)) refl)
      (withdrawn_sent a.handle tag w.1.0 (entry_at old.receiver.unsettled tag) (frames_of tag old.wire) (fates_of tag old.ledger.records) w.1.2))

  there_aborting : (other : Tag) → other ≢ tag → IsTagKept (is_together old.phase) other (standing aborting_world other)
  unfolding aborting_world
  there_aborting other n =
      subst (IsTagKept (is_together old.phase) other) (stands refl (still_listed old tag (Abort 0 None) a.others k a.listed other n) refl refl (sym (frames_sent_other other tag old.wire (abort_frame zero_output a.handle tag 0 ∷ []) n)) refl)
      (k.each other)

  pub IsWorld-sends_abort : IsWorld new
  unfolding aborting_world
  IsWorld-sends_abort = subst IsWorld (sym a.world) (record {
    ends = k.ends;
    sender = k.sender;
    receiver = k.receiver;
    unsettled = k.unsettled;
    reports = k.reports;
    deliveries = k.deliveries;
    resuming = IsMap-others old tag (Abort 0 None) a.others k a.listed;
    apart = λ off. absurd (false_is_not_true (sym off ∙ together_aborting));
    idle = λ off. absurd (false_is_not_true (sym off ∙ together_aborting));
    turn = turn_sent old.receiver.more old.wire (under tag (abort_frame zero_output a.handle tag 0 ∷ [])) k.turn (refl, refl);
    each = by_tag (λ t. IsTagKept (is_together old.phase) t (standing aborting_world t)) tag here_aborting there_aborting;
  })

-- ---- an abort arrives

pub IsWorld-aborts : (w : World) (s : OnWire) (rest : List OnWire) → IsWorld w → w.wire ≡ s ∷ rest → (performative_of s.frame).aborted ≡ true → length s.tag ≡ 4
IsWorld-aborts w s rest k taken aborts =
    let wire : frames_of s.tag w.wire ≡ s.frame ∷ frames_of s.tag rest = ap (frames_of s.tag) taken ∙ frames_first s rest in
    aborted_tag (is_together w.phase) s.tag (entry_at w.ledger.link.unsettled s.tag) (entry_at w.resuming s.tag) (entry_at w.deliveries s.tag) (entry_at w.receiver.unsettled s.tag) s.frame (frames_of s.tag rest) (fates_of s.tag w.ledger.records) aborts
    (subst (IsTagKept (is_together w.phase) s.tag) (stands refl refl refl refl wire refl) (k.each s.tag))

module _ (old new : World) (tag : Tag) (k : IsWorld old) (may : refusal (arrive_tests old) ≡ None) (a : AbortArrives old tag new) where
  forgotten : World
  forgotten = record old {
    receiver = record old.receiver { unsettled = without_entry old.receiver.unsettled tag; more = (performative_of a.first.frame).more };
    deliveries = without_entry old.deliveries tag;
    wire = a.rest;
  }

  together_forgotten : is_together old.phase ≡ true
  together_forgotten = not_is_false (is_together old.phase) (none_hold (arrive_tests old) may).0

  here_forgotten : IsTagKept (is_together old.phase) tag (standing forgotten tag)
  unfolding forgotten
  here_forgotten =
      let own = entry_at old.ledger.link.unsettled tag in
      let listed = entry_at old.resuming tag in
      let fates = fates_of tag old.ledger.records in
      let wire : frames_of tag old.wire ≡ a.first.frame ∷ frames_of tag a.rest =
      ap (frames_of tag) a.taken ∙ subst (λ t. frames_of t (a.first ∷ a.rest) ≡ a.first.frame ∷ frames_of t a.rest) (sym a.tagged) (frames_first a.first a.rest) in
      let before : IsKeptAs (is_together old.phase) tag own listed (entry_at old.deliveries tag) (entry_at old.receiver.unsettled tag) (a.first.frame ∷ frames_of tag a.rest) fates =
      subst (IsTagKept (is_together old.phase) tag) (stands refl refl refl refl wire refl) (k.each tag) in
      subst (IsTagKept (is_together old.phase) tag) (stands refl refl (sym (removed_here old.deliveries tag k.deliveries)) (sym (removed_here old.receiver.unsettled tag k.reports)) refl refl)
      (kept_aborted (is_together old.phase) tag own listed (entry_at old.deliveries tag) (entry_at old.receiver.unsettled tag) a.first.frame (frames_of tag a.rest) fates a.aborts before)

  there_forgotten : (other : Tag) → other ≢ tag → IsTagKept (is_together old.phase) other (standing forgotten other)
  unfolding forgotten
  there_forgotten other n =
      let wire : frames_of other old.wire ≡ frames_of other a.rest = ap (frames_of other) a.taken ∙ frames_other other a.first a.rest (λ p. n (p ∙ sym a.tagged)) in
      subst (IsTagKept (is_together old.phase) other) (stands refl refl (sym (removed_there old.deliveries tag other k.deliveries n)) (sym (removed_there old.receiver.unsettled tag other k.reports n)) wire refl)
      (k.each other)

  pub IsWorld-abort_arrives : IsWorld new
  unfolding forgotten
  IsWorld-abort_arrives = subst IsWorld (sym a.world) (record {
    ends = ends_stay old.phase old.ledger.link old.ledger.link old.receiver (record old.receiver { unsettled = without_entry old.receiver.unsettled tag; more = (performative_of a.first.frame).more }) together_forgotten refl refl refl refl refl refl k.ends;
    sender = k.sender;
    receiver = ap (λ (r : Receiver Target). record r { unsettled = without_entry r.unsettled tag; more = (performative_of a.first.frame).more }) k.receiver;
    unsettled = k.unsettled;
    reports = IsMap-removed old.receiver.unsettled tag k.reports;
    deliveries = IsMap-removed old.deliveries tag k.deliveries;
    resuming = k.resuming;
    apart = k.apart;
    idle = λ off. absurd (false_is_not_true (sym off ∙ together_forgotten));
    turn = let turn : IsInTurn old.receiver.more (a.first ∷ a.rest) = subst (IsInTurn old.receiver.more) a.taken k.turn in turn.1;
    each = by_tag (λ t. IsTagKept (is_together old.phase) t (standing forgotten t)) tag here_forgotten there_forgotten;
  })

-- ---- a delivery is put back

module _ (old new : World) (tag : Tag) (k : IsWorld old) (may : refusal (next_tests old) ≡ None) (a : PutsBack old tag new) where
  abbrev back_again : Progress
  back_again = record a.before { put_back = true }

  back_world : World
  back_world = record old {
    ledger = after_registration old.ledger tag a.entry;
    deliveries = with_entry old.deliveries tag back_again;
    resuming = a.others;
  }

  together_back : is_together old.phase ≡ true
  together_back = not_is_false (is_together old.phase) (none_hold (next_tests old) may).0

  here_back : IsTagKept (is_together old.phase) tag (standing back_world tag)
  unfolding back_world
  here_back =
      let way = listed_way old tag a.next a.others k a.listed a.entry a.kept a.before a.known in
      let quiet = listed_quiet old tag a.next a.others k a.listed a.before a.known in
      subst (λ b. IsTagKept b tag (standing back_world tag)) (sym together_back)
      (subst (IsTagKept true tag) (stands (sym (entry_at-put old.ledger.link.unsettled tag a.entry)) (sym (out_of_list old tag a.next a.others k a.listed)) (sym (entry_at-put old.deliveries tag back_again)) refl (sym quiet) (sym (fates_registered tag old.ledger.records)))
      (way_put_back tag a.entry a.before (entry_at old.receiver.unsettled tag) [] way, latest_entered (fates_of tag old.ledger.records) (listed_moved old tag a.next a.others k a.listed a.before a.known)))

  there_back : (other : Tag) → other ≢ tag → IsTagKept (is_together old.phase) other (standing back_world other)
  unfolding back_world
  there_back other n =
      subst (IsTagKept (is_together old.phase) other) (stands (sym (entry_at-put_other old.ledger.link.unsettled tag other a.entry n)) (still_listed old tag a.next a.others k a.listed other n) (sym (entry_at-put_other old.deliveries tag other back_again n)) refl refl (sym (fates_registered_other tag other old.ledger.records n)))
      (k.each other)

  pub IsWorld-puts_back : IsWorld new
  unfolding back_world
  IsWorld-puts_back = subst IsWorld (sym a.world) (record {
    ends = ends_stay old.phase old.ledger.link (after_registration old.ledger tag a.entry).link old.receiver old.receiver together_back refl refl refl refl refl refl k.ends;
    sender = ap (λ (s : Sender Target). record s { unsettled = with_entry s.unsettled tag a.entry }) k.sender;
    receiver = k.receiver;
    unsettled = IsMap-put old.ledger.link.unsettled tag a.entry k.unsettled;
    reports = k.reports;
    deliveries = IsMap-put old.deliveries tag back_again k.deliveries;
    resuming = IsMap-others old tag a.next a.others k a.listed;
    apart = λ off. absurd (false_is_not_true (sym off ∙ together_back));
    idle = λ off. absurd (false_is_not_true (sym off ∙ together_back));
    turn = k.turn;
    each = by_tag (λ t. IsTagKept (is_together old.phase) t (standing back_world t)) tag here_back there_back;
  })

module _ (old new : World) (tag : Tag) (count : ℕ) (resume : Bool) (k : IsWorld old) (may : refusal (next_tests old) ≡ None) (a : Resumes old tag count resume new) where
  abbrev out_again : Progress
  out_again = record a.before { put_back = false }

  resumed_world : World
  resumed_world = record old {
    ledger = after_registration old.ledger tag a.entry;
    deliveries = with_entry old.deliveries tag out_again;
    resuming = a.others;
    wire = old.wire ++ under tag a.frames;
  }

  together_resumed : is_together old.phase ≡ true
  together_resumed = not_is_false (is_together old.phase) (none_hold (next_tests old) may).0

  frames_resumed_are : AreSent tag a.rest a.before.held a.before.whole a.frames
  frames_resumed_are = are_sent old.ledger.link (record { 0 = 0 }) tag resume a.rest a.before.held a.before.whole a.frames (input_of old.phase old.ledger.link old.receiver together_resumed k.ends) a.framed

  here_resumed : IsTagKept (is_together old.phase) tag (standing resumed_world tag)
  unfolding resumed_world
  here_resumed =
      let way = listed_way old tag a.next a.others k a.listed a.entry a.kept a.before a.known in
      let quiet = listed_quiet old tag a.next a.others k a.listed a.before a.known in
      let rest = listed_rest old tag a.next a.others k a.listed a.entry a.kept a.before a.rest a.known a.sends in
      subst (λ b. IsTagKept b tag (standing resumed_world tag)) (sym together_resumed)
      (subst (IsTagKept true tag) (stands (sym (entry_at-put old.ledger.link.unsettled tag a.entry)) (sym (out_of_list old tag a.next a.others k a.listed)) (sym (entry_at-put old.deliveries tag out_again)) refl (sym (frames_sent tag old.wire a.frames quiet)) (sym (fates_registered tag old.ledger.records)))
      (way_resumed false tag a.entry a.before (entry_at old.receiver.unsettled tag) a.frames a.rest way rest frames_resumed_are, latest_entered (fates_of tag old.ledger.records) (listed_moved old tag a.next a.others k a.listed a.before a.known)))

  there_resumed : (other : Tag) → other ≢ tag → IsTagKept (is_together old.phase) other (standing resumed_world other)
  unfolding resumed_world
  there_resumed other n =
      subst (IsTagKept (is_together old.phase) other) (stands (sym (entry_at-put_other old.ledger.link.unsettled tag other a.entry n)) (still_listed old tag a.next a.others k a.listed other n) (sym (entry_at-put_other old.deliveries tag other out_again n)) refl (sym (frames_sent_other other tag old.wire a.frames n)) (sym (fates_registered_other tag other old.ledger.records n)))
      (k.each other)

  pub IsWorld-resumes : IsWorld new
  unfolding resumed_world
  IsWorld-resumes = subst IsWorld (sym a.world) (record {
    ends = ends_stay old.phase old.ledger.link (after_registration old.ledger tag a.entry).link old.receiver old.receiver together_resumed refl refl refl refl refl refl k.ends;
    sender = ap (λ (s : Sender Target). record s { unsettled = with_entry s.unsettled tag a.entry }) k.sender;
    receiver = k.receiver;
    unsettled = IsMap-put old.ledger.link.unsettled tag a.entry k.unsettled;
    reports = k.reports;
    deliveries = IsMap-put old.deliveries tag out_again k.deliveries;
    resuming = IsMap-others old tag a.next a.others k a.listed;
    apart = λ off. absurd (false_is_not_true (sym off ∙ together_resumed));
    idle = λ off. absurd (false_is_not_true (sym off ∙ together_resumed));
    turn = turn_sent old.receiver.more old.wire (under tag a.frames) k.turn frames_resumed_are.turn;
    each = by_tag (λ t. IsTagKept (is_together old.phase) t (standing resumed_world t)) tag here_resumed there_resumed;
  })

-- ---- a delivery is handed out to the receiver's user

module _ (old new : World) (tag : Tag) (p : Progress) (k : IsWorld old) (on : is_together old.phase ≡ true) (known : entry_at old.deliveries tag ≡ Some p) (world : new ≡ after_hand_out old tag p) where
  here_given : IsTagKept (is_together old.phase) tag (standing (after_hand_out old tag p) tag)
  here_given =
      subst (IsTagKept (is_together old.phase) tag) (stands refl refl (sym (entry_at-put old.deliveries tag (taken_out p))) refl refl refl)
      (kept_taken (is_together old.phase) tag (entry_at old.ledger.link.unsettled tag) (entry_at old.resuming tag) p (entry_at old.receiver.unsettled tag) (frames_of tag old.wire) (fates_of tag old.ledger.records)
      (subst (IsTagKept (is_together old.phase) tag) (stands refl refl known refl refl refl) (k.each tag)))

  there_given : (other : Tag) → other ≢ tag → IsTagKept (is_together old.phase) other (standing (after_hand_out old tag p) other)
  there_given other n =
      subst (IsTagKept (is_together old.phase) other) (stands refl refl (sym (entry_at-put_other old.deliveries tag other (taken_out p) n)) refl refl refl) (k.each other)

  pub IsWorld-hands_out : IsWorld new
  IsWorld-hands_out = subst IsWorld (sym world) (record {
    ends = ends_stay old.phase old.ledger.link old.ledger.link old.receiver (after_hand_out old tag p).receiver on refl refl refl refl refl refl k.ends;
    sender = k.sender;
    receiver = ap (λ (r : Receiver Target). record r { flow_state = after_consuming 1 r.flow_state }) k.receiver;
    unsettled = k.unsettled;
    reports = k.reports;
    deliveries = IsMap-put old.deliveries tag (taken_out p) k.deliveries;
    resuming = k.resuming;
    apart = k.apart;
    idle = k.idle;
    turn = k.turn;
    each = by_tag (λ t. IsTagKept (is_together old.phase) t (standing (after_hand_out old tag p) t)) tag here_given there_given;
  })

-- ---- a delivery is settled

-- what is whole and held, and not to be resumed, is registered
pub settled_stands : (b : Bool) (tag : Tag) (own : Option UnsettledMessage) (listed : Option ResumingDelivery) (q : Option Progress) (reported : Option (Option DeliveryState)) (frames : List LinkFrame) (fates : List Fate)
    → listed ≡ None → is_some (option_and_then (λ (p : Progress). p.held) q) ≡ true → option_map_or (λ (p : Progress). p.withdrawn) q false ≡ false
    → IsKeptAs b tag own listed q reported frames fates → IsSome own × IsSome reported × IsLatest Pending fates
settled_stands b tag None None None reported frames fates is held stays k = absurd (false_is_not_true held)
settled_stands b tag None None (Some p) reported frames fates is held stays k = absurd (false_is_not_true (sym stays ∙ k.flag))
settled_stands b tag (Some entry) None None reported frames fates is held stays k = absurd k
settled_stands b tag (Some entry) None (Some p) reported frames fates is held stays k = (refl, ap is_some k.0.good.report ∙ stated p.held held, k.1)
  where
    stated : (h : Option Held) → is_some h ≡ true → is_some (receiver_entry h) ≡ true
    stated None held = absurd (false_is_not_true held)
    stated (Some h) held = refl
settled_stands b tag None (Some next) q reported frames fates is held stays k = absurd (some_is_none is)
settled_stands b tag (Some entry) (Some next) q reported frames fates is held stays k = absurd k

-- what is known to the receiver's user is held, and not withdrawn
pub known_parts : (w : World) (tag : Tag) → is_unknown w tag ≡ false → (is_some (held_at w tag) ≡ true) × (has_flag (λ p. p.withdrawn) w tag ≡ false)
known_parts w tag h =
    let both = or_parts (not (is_some (held_at w tag))) (has_flag (λ p. p.withdrawn) w tag) h in
    (not_is_false (is_some (held_at w tag)) both.0, both.1)

resolved_only : (tag : Tag) (fate : Fate) → entry_at ((tag, fate) ∷ []) tag ≡ Some fate
resolved_only tag fate = entry_at-first tag fate []

closed_when_accepted : IsOpen (Some (Resolved (Ok (Some Accepted)))) → ⊥
closed_when_accepted none = none

module _ (old new : World) (tag : Tag) (k : IsWorld old) (may : refusal (settle_tests old tag) ≡ None) (a : Settles old tag new) where
  settled : World
  settled = record old {
    ledger = record {
      link = record old.ledger.link { unsettled = without_entry old.ledger.link.unsettled tag };
      records = after (Resolves ((tag, Ok (Some Accepted)) ∷ [])) old.ledger.records;
    };
    receiver = record old.receiver { unsettled = without_entry old.receiver.unsettled tag };
    deliveries = without_entry old.deliveries tag;
  }

  settling : AllByRecursion (λ t. t.0 ≡ false) (settle_tests old tag)
  settling = none_hold (settle_tests old tag) may

  together_settled : is_together old.phase ≡ true
  together_settled = not_is_false (is_together old.phase) settling.0

  unlisted_settled : (t : Tag) → entry_at old.resuming t ≡ None
  unlisted_settled t = nothing_listed old.resuming t (nothing_in old.resuming settling.1.1.1.0)

  -- its entries at both ends and its pending registration are there
  pub found_settled : IsSome (entry_at old.ledger.link.unsettled tag) × IsSome (entry_at old.receiver.unsettled tag) × IsLatest Pending (fates_of tag old.ledger.records)
  found_settled = settled_stands (is_together old.phase) tag (entry_at old.ledger.link.unsettled tag) (entry_at old.resuming tag) (entry_at old.deliveries tag) (entry_at old.receiver.unsettled tag) (frames_of tag old.wire) (fates_of tag old.ledger.records)
      (unlisted_settled tag) (known_parts old tag settling.1.0).0 (known_parts old tag settling.1.0).1 (k.each tag)

  accepted : Fate
  accepted = Resolved (Ok (Some Accepted))

  here_settled : IsTagKept (is_together old.phase) tag (standing settled tag)
  unfolding settled accepted
  here_settled =
      let over : AreOver (map (fate_given (Some accepted)) (fates_of tag old.ledger.records)) = latest_over accepted _ (latest_moved accepted (fates_of tag old.ledger.records) found_settled.2) refl closed_when_accepted in
      let fates : fates_of tag (after (Resolves ((tag, Ok (Some Accepted)) ∷ [])) old.ledger.records) ≡ map (fate_given (Some accepted)) (fates_of tag old.ledger.records) =
      fates_given tag ((tag, accepted) ∷ []) old.ledger.records ∙ ap (λ o. map (fate_given o) (fates_of tag old.ledger.records)) (resolved_only tag accepted) in
      subst (IsTagKept (is_together old.phase) tag) (stands (sym (removed_here old.ledger.link.unsettled tag k.unsettled)) (sym (unlisted_settled tag)) (sym (removed_here old.deliveries tag k.deliveries)) (sym (removed_here old.receiver.unsettled tag k.reports)) (sym (nothing_in (frames_of tag old.wire) settling.1.1.1.1.0)) (sym fates))
      (refl, refl, over)

  there_settled : (other : Tag) → other ≢ tag → IsTagKept (is_together old.phase) other (standing settled other)
  unfolding settled accepted
  there_settled other n =
      let fates : fates_of other (after (Resolves ((tag, Ok (Some Accepted)) ∷ [])) old.ledger.records) ≡ fates_of other old.ledger.records =
      fates_given other ((tag, accepted) ∷ []) old.ledger.records ∙ ap (λ o. map (fate_given o) (fates_of other old.ledger.records)) (entry_at-behind tag other accepted [] n) ∙ none_given (fates_of other old.ledger.records) in
      subst (IsTagKept (is_together old.phase) other) (stands (sym (removed_there old.ledger.link.unsettled tag other k.unsettled n)) refl (sym (removed_there old.deliveries tag other k.deliveries n)) (sym (removed_there old.receiver.unsettled tag other k.reports n)) refl (sym fates))
      (k.each other)

  pub IsWorld-settles : IsWorld new
  unfolding settled
  IsWorld-settles = subst IsWorld (sym a.world) (record {
    ends = ends_stay old.phase old.ledger.link (record old.ledger.link { unsettled = without_entry old.ledger.link.unsettled tag }) old.receiver (record old.receiver { unsettled = without_entry old.receiver.unsettled tag }) together_settled refl refl refl refl refl refl k.ends;
    sender = ap (λ (s : Sender Target). record s { unsettled = without_entry s.unsettled tag }) k.sender;
    receiver = ap (λ (r : Receiver Target). record r { unsettled = without_entry r.unsettled tag }) k.receiver;
    unsettled = IsMap-removed old.ledger.link.unsettled tag k.unsettled;
    reports = IsMap-removed old.receiver.unsettled tag k.reports;
    deliveries = IsMap-removed old.deliveries tag k.deliveries;
    resuming = k.resuming;
    apart = k.apart;
    idle = k.idle;
    turn = k.turn;
    each = by_tag (λ t. IsTagKept (is_together old.phase) t (standing settled t)) tag here_settled there_settled;
  })

-- ---- a delivery is withdrawn

apart_only : (phase : Phase) → is_apart phase ≡ true → phase ≡ Apart
apart_only Apart h = refl
apart_only (Halfway limit) h = absurd (false_is_not_true h)
apart_only (Together limit) h = absurd (false_is_not_true h)

-- a registered delivery
registered_stands : (tag : Tag) (own : Option UnsettledMessage) (p : Progress) (reported : Option (Option DeliveryState)) (frames : List LinkFrame) (fates : List Fate)
    → is_some own ≡ true → IsKeptAs false tag own None (Some p) reported frames fates → (entry : UnsettledMessage) × IsUnderWay false tag entry p reported frames × IsLatest Pending fates
registered_stands tag None p reported frames fates is k = absurd (false_is_not_true is)
registered_stands tag (Some entry) p reported frames fates is k = (entry, k.0, k.1)

kept_here : (deliveries : Entries Progress) (tag : Tag) (p : Progress) (h : Option Held) → IsMap deliveries
    → entry_at (if is_some h then with_entry deliveries tag (record p { withdrawn = true }) else without_entry deliveries tag) tag ≡ (if is_some h then Some (record p { withdrawn = true }) else None)
kept_here deliveries tag p None is = removed_here deliveries tag is
kept_here deliveries tag p (Some held) is = entry_at-put deliveries tag (record p { withdrawn = true })

pub kept_there : (deliveries : Entries Progress) (tag other : Tag) (p : Progress) (h : Option Held) → IsMap deliveries → other ≢ tag
    → entry_at (if is_some h then with_entry deliveries tag (record p { withdrawn = true }) else without_entry deliveries tag) other ≡ entry_at deliveries other
kept_there deliveries tag other p None is n = removed_there deliveries tag other is n
kept_there deliveries tag other p (Some held) is n = entry_at-put_other deliveries tag other (record p { withdrawn = true }) n

IsMap-withdrawn : (deliveries : Entries Progress) (tag : Tag) (p : Progress) (h : Option Held) → IsMap deliveries
    → IsMap (if is_some h then with_entry deliveries tag (record p { withdrawn = true }) else without_entry deliveries tag)
IsMap-withdrawn deliveries tag p None is = IsMap-removed deliveries tag is
IsMap-withdrawn deliveries tag p (Some held) is = IsMap-put deliveries tag (record p { withdrawn = true }) is

module _ (old new : World) (tag : Tag) (k : IsWorld old) (may : refusal (withdraw_tests old tag) ≡ None) (a : WithdrawsDelivery old tag new) where
  withdrawn_world : World
  withdrawn_world = record old {
    ledger = record {
      link = record old.ledger.link { unsettled = without_entry old.ledger.link.unsettled tag };
      records = after (Withdraws tag) old.ledger.records;
    };
    deliveries = after_withdrawal old.deliveries tag a.before;
  }

  withdrawing : AllByRecursion (λ t. t.0 ≡ false) (withdraw_tests old tag)
  withdrawing = none_hold (withdraw_tests old tag) may

  apart_withdrawn : old.phase ≡ Apart
  apart_withdrawn = apart_only old.phase (not_is_false (is_apart old.phase) withdrawing.0)

  pub off_withdrawn : is_together old.phase ≡ false
  off_withdrawn = ap is_together apart_withdrawn

  unlisted_withdrawn : (t : Tag) → entry_at old.resuming t ≡ None
  unlisted_withdrawn t = nothing_listed old.resuming t (k.apart off_withdrawn)

  -- its entry and its pending registration are there
  pub found_withdrawn : (entry : UnsettledMessage) × IsUnderWay false tag entry a.before (entry_at old.receiver.unsettled tag) (frames_of tag old.wire) × IsLatest Pending (fates_of tag old.ledger.records)
  found_withdrawn =
      registered_stands tag (entry_at old.ledger.link.unsettled tag) a.before (entry_at old.receiver.unsettled tag) (frames_of tag old.wire) (fates_of tag old.ledger.records)
      (not_is_false (is_some (entry_at old.ledger.link.unsettled tag)) withdrawing.1.0)
      (subst (λ b. IsKeptAs b tag (entry_at old.ledger.link.unsettled tag) None (Some a.before) (entry_at old.receiver.unsettled tag) (frames_of tag old.wire) (fates_of tag old.ledger.records)) off_withdrawn
      (subst (IsTagKept (is_together old.phase) tag) (stands refl (unlisted_withdrawn tag) a.known refl refl refl) (k.each tag)))

  unfinished_withdrawn : a.before.whole ≡ false
  unfinished_withdrawn = ap (λ (q : Option Progress). option_map_or (λ p. p.whole) q false) (sym a.known) ∙ withdrawing.1.1.0

  here_withdrawn : IsTagKept (is_together old.phase) tag (standing withdrawn_world tag)
  unfolding withdrawn_world
  here_withdrawn =
      let found = found_withdrawn in
      let fates : fates_of tag (after (Withdraws tag) old.ledger.records) ≡ map (fate_given (Some Withdrawn)) (fates_of tag old.ledger.records) =
      fates_given tag ((tag, Withdrawn) ∷ []) old.ledger.records ∙ ap (λ o. map (fate_given o) (fates_of tag old.ledger.records)) (resolved_only tag Withdrawn) in
      subst (λ b. IsTagKept b tag (standing withdrawn_world tag)) (sym off_withdrawn)
      (subst (IsTagKept false tag) (stands (sym (removed_here old.ledger.link.unsettled tag k.unsettled)) (sym (unlisted_withdrawn tag)) (sym (kept_here old.deliveries tag a.before a.before.held k.deliveries)) refl refl (sym fates))
      (way_withdrawn tag found.0 a.before a.before.held (entry_at old.receiver.unsettled tag) (frames_of tag old.wire) (fates_of tag old.ledger.records) refl unfinished_withdrawn found.1 found.2))

  there_withdrawn : (other : Tag) → other ≢ tag → IsTagKept (is_together old.phase) other (standing withdrawn_world other)
  unfolding withdrawn_world
  there_withdrawn other n =
      let fates : fates_of other (after (Withdraws tag) old.ledger.records) ≡ fates_of other old.ledger.records =
      fates_given other ((tag, Withdrawn) ∷ []) old.ledger.records ∙ ap (λ o. map (fate_given o) (fates_of other old.ledger.records)) (entry_at-behind tag other Withdrawn [] n) ∙ none_given (fates_of other old.ledger.records) in
      subst (IsTagKept (is_together old.phase) other) (stands (sym (removed_there old.ledger.link.unsettled tag other k.unsettled n)) refl (sym (kept_there old.deliveries tag other a.before a.before.held k.deliveries n)) refl refl (sym fates))
      (k.each other)

  pub IsWorld-withdraws : IsWorld new
  unfolding withdrawn_world
  IsWorld-withdraws =
      let ends : AreApart old.ledger.link old.receiver = subst (λ phase. AreEnds phase old.ledger.link old.receiver) apart_withdrawn k.ends in
      subst IsWorld (sym a.world) (record {
        ends = subst (λ phase. AreEnds phase (record old.ledger.link { unsettled = without_entry old.ledger.link.unsettled tag }) old.receiver) (sym apart_withdrawn)
            (record { alike = ends.alike; state = ends.state; counted = ends.counted; sender_output = ends.sender_output; receiver_output = ends.receiver_output });
        sender = ap (λ (s : Sender Target). record s { unsettled = without_entry s.unsettled tag }) k.sender;
        receiver = k.receiver;
        unsettled = IsMap-removed old.ledger.link.unsettled tag k.unsettled;
        reports = k.reports;
        deliveries = IsMap-withdrawn old.deliveries tag a.before a.before.held k.deliveries;
        resuming = k.resuming;
        apart = k.apart;
        idle = k.idle;
        turn = k.turn;
        each = by_tag (λ t. IsTagKept (is_together old.phase) t (standing withdrawn_world t)) tag here_withdrawn there_withdrawn;
      })

-- ---- an attach

-- a registered delivery of ends that are not attached goes on, from what is held
answer_kept : (b : Bool) (tag : Tag) (entry : UnsettledMessage) (p : Progress) (reported : Option (Option DeliveryState)) (frames : List LinkFrame)
    → IsUnderWay b tag entry p reported frames → resolution tag entry reported ≡ Resuming (next_of entry p.held)
answer_kept b tag entry p reported frames k = answer_is tag entry p.held reported k.own.state k.good.report k.good.front

answered_kept : (b : Bool) (tag : Tag) (own : Option UnsettledMessage) (q : Option Progress) (reported : Option (Option DeliveryState)) (frames : List LinkFrame) (fates : List Fate) (entry : UnsettledMessage)
    → own ≡ Some entry → IsKeptAs b tag own None q reported frames fates → resolution tag entry reported ≡ Resuming (next_of entry (option_and_then (λ p. p.held) q))
answered_kept b tag None q reported frames fates entry is k = absurd (some_is_none (sym is))
answered_kept b tag (Some own) None reported frames fates entry is k = absurd k
answered_kept b tag (Some own) (Some p) reported frames fates entry is k =
    subst (λ e. resolution tag e reported ≡ Resuming (next_of e p.held)) (some_is is) (answer_kept (b && not p.put_back) tag own p reported frames k.0)

-- what is reported of a withdrawn delivery is to be aborted
next_withdrawn : (tag : Tag) (h : Option Held) (reported : Option (Option DeliveryState)) → reported ≡ receiver_entry h → IsSome h → next_for tag None reported ≡ Some (Abort 0 None)
next_withdrawn tag None reported is holds = absurd (false_is_not_true holds)
next_withdrawn tag (Some held) reported is holds = ap (next_for tag None) is

attached_kept : (tag : Tag) (own : Option UnsettledMessage) (q : Option Progress) (reported : Option (Option DeliveryState)) (frames : List LinkFrame) (fates : List Fate)
    → IsKeptAs false tag own None q reported frames fates
    → IsKeptAs true tag None (next_for tag own reported) q reported frames (map (fate_given (option_map (λ _. HandedOut) (next_for tag own reported))) fates)
attached_kept tag None None reported frames fates k =
    let unlisted : next_for tag None reported ≡ None = ap (next_for tag None) k.0 in
    subst (λ o. IsKeptAs true tag None o None reported frames (map (fate_given (option_map (λ _. HandedOut) o)) fates)) (sym unlisted)
    (k.0, k.1, subst AreOver (sym (none_given fates)) k.2)
attached_kept tag None (Some p) reported frames fates k =
    let stay : map (fate_given (Some HandedOut)) fates ≡ fates = all-kept (Some HandedOut) fates (have_moved Withdrawn fates k.last refl) in
    subst (λ o. IsKeptAs true tag None o (Some p) reported frames (map (fate_given (option_map (λ _. HandedOut) o)) fates)) (sym (next_withdrawn tag p.held reported k.report k.holds))
    (subst (λ fates. (IsListed tag (Abort 0 None) p reported frames × IsLatest HandedOut fates) ⊎ IsAborting tag (Abort 0 None) p reported frames fates) (sym stay)
    (inr (record { is = refl; withdrawn = k })))
attached_kept tag (Some entry) None reported frames fates k = absurd k
attached_kept tag (Some entry) (Some p) reported frames fates k =
    let way = k.0 in
    let next : next_in (resolution tag entry reported) ≡ next_of entry p.held = ap next_in (answer_kept false tag entry p reported frames way) in
    inl (
      record {
        entry = entry;
        entry_is = ap entry_of next ∙ entry_goes_on entry p.held;
        under_way = way;
        rest = ap rest_of next ∙ rest_goes_on entry p.held;
        flag = ap resumes next ∙ flag_goes_on entry p.held;
      },
      latest_moved HandedOut fates k.1,
    )

enough_by : (limit : ℕ) (small : Bool) → (nat_lt limit 29 || small) ≡ false → 29 ≤ limit
enough_by limit small h = grind (arith, nat_tests)

-- both endpoints before an attach
module _ (old : World) (k : IsWorld old) (off : is_together old.phase ≡ false) where
  abbrev own_map : Entries UnsettledMessage
  own_map = old.ledger.link.unsettled

  abbrev remote_map : Entries (Option DeliveryState)
  remote_map = old.receiver.unsettled

  -- nothing is handed out yet
  unlisted_before : (tag : Tag) → entry_at old.resuming tag ≡ None
  unlisted_before tag = nothing_listed old.resuming tag (k.apart off)

  before_attach : (tag : Tag) → IsKeptAs false tag (entry_at own_map tag) None (entry_at old.deliveries tag) (entry_at remote_map tag) (frames_of tag old.wire) (fates_of tag old.ledger.records)
  before_attach tag =
      subst (λ b. IsKeptAs b tag (entry_at own_map tag) None (entry_at old.deliveries tag) (entry_at remote_map tag) (frames_of tag old.wire) (fates_of tag old.ledger.records)) off
      (subst (IsTagKept (is_together old.phase) tag) (stands refl (unlisted_before tag) refl refl refl refl) (k.each tag))

  all_go_on : AllByRecursion (λ e. IsResuming (answer_to remote_map e.0 e.1)) own_map
  all_go_on =
      each_pair (λ e. IsResuming (answer_to remote_map e.0 e.1)) own_map k.unsettled (λ tag entry found. (next_of entry (held_at old tag), answered_kept false tag _ _ _ _ _ entry found (before_attach tag)))

  -- how the exchange lists a delivery of the sender's map, and what it lists by what is held
  abbrev exchanged_item : Tag × UnsettledMessage → Tag × ResumingDelivery
  exchanged_item e = (e.0, next_in (answer_to remote_map e.0 e.1))

  abbrev held_item : Tag × UnsettledMessage → Tag × ResumingDelivery
  held_item e = (e.0, next_of e.1 (held_at old e.0))

  each_item : AllByRecursion (λ e. exchanged_item e ≡ held_item e) own_map
  each_item =
      each_pair (λ e. exchanged_item e ≡ held_item e) own_map k.unsettled
      (λ tag entry found.
      let with_tag : Resolution → Tag × ResumingDelivery = λ r. (tag, next_in r) in
      ap with_tag (answered_kept false tag _ _ _ _ _ entry found (before_attach tag)))

  -- no outcome is returned, and the list is that of the sender's map in order, and then that of the deliveries
  -- that only the receiver names
  pub attach_returns_none : outcomes_returned own_map remote_map ≡ []
  attach_returns_none = outcomes_are remote_map own_map all_go_on

  pub attach_list_is : list_to_resume old ≡ items_to_resume old
  attach_list_is =
      list_is remote_map own_map all_go_on
      ∙ ap (λ l. l ++ unknown_aborted own_map remote_map) (map_same exchanged_item held_item own_map each_item)

module _ (old new : World) (limit count : ℕ) (k : IsWorld old) (may : refusal (attach_tests old limit) ≡ None) (a : Attaches old limit count new) where
  attaching : AllByRecursion (λ t. t.0 ≡ false) (attach_tests old limit)
  attaching = none_hold (attach_tests old limit) may

  off_before : is_together old.phase ≡ false
  off_before = attaching.0

  attached : World
  attached = record old {
    phase = Together limit;
    ledger = ledger_together limit old;
    receiver = receiver_together limit old.ledger.link.flow_state.delivery_count old.receiver;
    resuming = list_to_resume old;
  }

  fates_attached : (tag : Tag) → fates_of tag attached.ledger.records
      ≡ map (fate_given (option_map (λ _. HandedOut) (next_for tag (entry_at old.ledger.link.unsettled tag) (entry_at old.receiver.unsettled tag)))) (fates_of tag old.ledger.records)
  unfolding attached
  fates_attached tag =
      ap (λ outcomes. fates_of tag (after (HandsOut (list_to_resume old)) (after (Resolves outcomes) old.ledger.records))) (attach_returns_none old k off_before)
      ∙ ap (λ records. fates_of tag (after (HandsOut (list_to_resume old)) records)) (with_fates-none old.ledger.records)
      ∙ fates_given tag (map (λ d. (d.0, HandedOut)) (list_to_resume old)) old.ledger.records
      ∙ ap (λ o. map (fate_given o) (fates_of tag old.ledger.records)) (given_at (list_to_resume old) tag ∙ ap (option_map (λ _. HandedOut)) (listed_at old.receiver.unsettled old.ledger.link.unsettled (all_go_on old k off_before) tag))

  -- a delivery of the new list was one before
  open_kept : (own : Option UnsettledMessage) (q : Option Progress) (reported : Option (Option DeliveryState)) (frames : List LinkFrame) (tag : Tag) (fates : List Fate) → IsKeptAs false tag own None q reported frames fates
      → IsOpen (latest (map (fate_given (option_map (λ _. HandedOut) (next_for tag own reported))) fates)) → IsOpen (latest fates)
  open_kept None None reported frames tag fates kept is =
      subst (λ fates. IsOpen (latest fates)) (ap (λ o. map (fate_given (option_map (λ _. HandedOut) (next_for tag None o))) fates) kept.0 ∙ none_given fates) is
  open_kept None (Some p) reported frames tag fates kept is =
      subst (λ fates. IsOpen (latest fates)) (all-kept (option_map (λ _. HandedOut) (next_for tag None reported)) fates (have_moved Withdrawn fates kept.last refl)) is
  open_kept (Some entry) None reported frames tag fates kept is = absurd kept
  open_kept (Some entry) (Some p) reported frames tag fates kept is = subst IsOpen (sym (latest_is Pending fates kept.1)) tt

  pub open_before_attach : (tag : Tag) → IsOpen (latest (fates_of tag new.ledger.records)) → IsOpen (latest (fates_of tag old.ledger.records))
  unfolding attached
  open_before_attach tag is =
      open_kept (entry_at old.ledger.link.unsettled tag) (entry_at old.deliveries tag) (entry_at old.receiver.unsettled tag) (frames_of tag old.wire) tag (fates_of tag old.ledger.records) (before_attach old k off_before tag)
      (subst (λ fates. IsOpen (latest fates)) (fates_attached tag) (subst (λ (w : World). IsOpen (latest (fates_of tag w.ledger.records))) a.world is))

  -- an entry goes from the map to the list
  entry_moves : (tag : Tag) (own : Option UnsettledMessage) (q : Option Progress) (reported : Option (Option DeliveryState)) (frames : List LinkFrame) (fates : List Fate) → IsKeptAs false tag own None q reported frames fates
      → option_and_then entry_of (next_for tag own reported) ≡ option_or own None
  entry_moves tag None q None frames fates kept = refl
  entry_moves tag None q (Some stated) frames fates kept = refl
  entry_moves tag (Some entry) None reported frames fates kept = absurd kept
  entry_moves tag (Some entry) (Some p) reported frames fates kept = ap (λ r. entry_of (next_in r)) (answer_kept false tag entry p reported frames kept.0) ∙ entry_goes_on entry p.held

  pub attach_keeps : (tag : Tag) → entry_in (standing new tag) ≡ entry_in (standing old tag)
  unfolding attached
  attach_keeps tag =
      ap (λ (w : World). entry_in (standing w tag)) a.world
      ∙ ap (option_and_then entry_of) (listed_at old.receiver.unsettled old.ledger.link.unsettled (all_go_on old k off_before) tag)
      ∙ entry_moves tag (entry_at old.ledger.link.unsettled tag) (entry_at old.deliveries tag) (entry_at old.receiver.unsettled tag) (frames_of tag old.wire) (fates_of tag old.ledger.records) (before_attach old k off_before tag)
      ∙ ap (λ l. option_or (entry_at old.ledger.link.unsettled tag) (option_and_then entry_of l)) (sym (unlisted_before old k off_before tag))

  kept_attached : (tag : Tag) → IsTagKept true tag (standing attached tag)
  unfolding attached
  kept_attached tag =
      subst (IsTagKept true tag) (stands {a = None} {c = entry_at old.deliveries tag} {d = entry_at old.receiver.unsettled tag} {e = frames_of tag old.wire} refl (sym (listed_at old.receiver.unsettled old.ledger.link.unsettled (all_go_on old k off_before) tag)) refl refl refl (sym (fates_attached tag)))
      (attached_kept tag (entry_at old.ledger.link.unsettled tag) (entry_at old.deliveries tag) (entry_at old.receiver.unsettled tag) (frames_of tag old.wire) (fates_of tag old.ledger.records) (before_attach old k off_before tag))

  pub IsWorld-attaches : IsWorld new
  unfolding attached
  IsWorld-attaches = subst IsWorld (sym a.world) (record {
    ends = record {
      enough = enough_by limit (not (attaches_fit old.ledger.link old.receiver limit)) attaching.1.1.0;
      sender_state = refl;
      receiver_state = refl;
      sender_output = refl;
      sender_input = refl;
      receiver_output = refl;
      frame = refl;
    };
    sender = ap (sender_together limit) k.sender;
    receiver = ap (receiver_together limit old.ledger.link.flow_state.delivery_count) k.receiver;
    unsettled = IsMap-none UnsettledMessage;
    reports = k.reports;
    deliveries = k.deliveries;
    resuming = IsMap-listed old.receiver.unsettled old.ledger.link.unsettled (all_go_on old k off_before) k.unsettled k.reports;
    apart = λ off. absurd (false_is_not_true (sym off));
    idle = λ off. absurd (false_is_not_true (sym off));
    turn = idle_turn old.wire (k.idle off_before);
    each = kept_attached;
  })

-- ---- an attach stops on its way

stopped_receiver : (stop : AttachStop) (limit count : ℕ) (r : Receiver Target) → IsPlainReceiver r → IsPlainReceiver (receiver_at stop limit count r)
stopped_receiver Asked limit count r k = ap (receiver_at_limit limit) k
stopped_receiver Taken limit count r k = ap (receiver_half_attached limit count) k
stopped_receiver Answered limit count r k = ap (receiver_together limit count) k

-- where a receiver's end is before an attach goes on
receiver_before : (phase : Phase) (s : Sender Target) (r : Receiver Target) → is_together phase ≡ false → AreEnds phase s r → IsOnWay s.flow_state.delivery_count r r.local_state
receiver_before Apart s r off k = subst (IsOnWay s.flow_state.delivery_count r) (sym k.alike) (elim (k.state) [
  | inl made ↦ subst (IsOnWay s.flow_state.delivery_count r) (sym made) tt
  | inr detached ↦ subst (IsOnWay s.flow_state.delivery_count r) (sym detached) tt
])
receiver_before (Halfway limit) s r off k = k.receiver_state
receiver_before (Together limit) s r off k = absurd (false_is_not_true (sym off))

stopped_ends : (stop : AttachStop) (phase : Phase) (limit : ℕ) (s : Sender Target) (r : Receiver Target) → is_together phase ≡ false → AreEnds phase s r
    → AreHalfway limit (sender_asking limit s) (receiver_at stop limit s.flow_state.delivery_count r)
stopped_ends Asked phase limit s r off k = record {
  sender_state = refl;
  sender_output = refl;
  receiver_output = refl;
  counted = refl;
  sender_frame = refl;
  receiver_frame = refl;
  receiver_state = receiver_on_way s.flow_state.delivery_count r (receiver_at_limit limit r) r.local_state refl refl refl (receiver_before phase s r off k);
}
stopped_ends Taken phase limit s r off k = record {
  sender_state = refl;
  sender_output = refl;
  receiver_output = refl;
  counted = refl;
  sender_frame = refl;
  receiver_frame = refl;
  receiver_state = record { initial = refl; present = refl; input = refl };
}
stopped_ends Answered phase limit s r off k = record {
  sender_state = refl;
  sender_output = refl;
  receiver_output = refl;
  counted = refl;
  sender_frame = refl;
  receiver_frame = refl;
  receiver_state = record { initial = refl; present = refl; input = refl };
}

stopped_map : (stop : AttachStop) (limit count : ℕ) (r : Receiver Target) → (receiver_at stop limit count r).unsettled ≡ r.unsettled
stopped_map Asked limit count r = refl
stopped_map Taken limit count r = refl
stopped_map Answered limit count r = refl

stopped_turn : (stop : AttachStop) (limit count : ℕ) (r : Receiver Target) (wire : List OnWire) → wire ≡ [] → IsInTurn r.more wire → IsInTurn (receiver_at stop limit count r).more wire
stopped_turn Asked limit count r wire none turn = turn
stopped_turn Taken limit count r wire none turn = idle_turn wire none
stopped_turn Answered limit count r wire none turn = idle_turn wire none

pub IsWorld-stops : (stop : AttachStop) (old new : World) (limit : ℕ) → IsWorld old → StopsAt stop old limit new → IsWorld new
IsWorld-stops stop old new limit k s =
    let count = old.ledger.link.flow_state.delivery_count in
    let off : is_together old.phase ≡ false = (none_hold (attach_tests old limit) s.may).0 in
    let reports : (receiver_at stop limit count old.receiver).unsettled ≡ old.receiver.unsettled = stopped_map stop limit count old.receiver in
    subst IsWorld (sym s.world) (record {
      ends = stopped_ends stop old.phase limit old.ledger.link old.receiver off k.ends;
      sender = ap (sender_asking limit) k.sender;
      receiver = stopped_receiver stop limit count old.receiver k.receiver;
      unsettled = k.unsettled;
      reports = subst IsMap (sym reports) k.reports;
      deliveries = k.deliveries;
      resuming = k.resuming;
      apart = λ _. k.apart off;
      idle = λ _. k.idle off;
      turn = stopped_turn stop limit count old.receiver old.wire (k.idle off) k.turn;
      each = λ tag. subst (IsTagKept false tag) (stands refl refl refl (ap (λ m. entry_at m tag) (sym reports)) refl refl) (subst (λ b. IsTagKept b tag (standing old tag)) off (k.each tag));
    })

-- ---- what is open

-- what is under way, and what is to be resumed, is a delivery
open_under_way : (b : Bool) (tag : Tag) (own : Option UnsettledMessage) (listed : Option ResumingDelivery) (q : Option Progress) (reported : Option (Option DeliveryState)) (frames : List LinkFrame) (fates : List Fate) (f : LinkFrame) (rest : List LinkFrame)
    → frames ≡ f ∷ rest → (performative_of f).aborted ≡ false → IsKeptAs b tag own listed q reported frames fates → IsOpen (latest fates)
open_under_way b tag None None None reported frames fates f rest is carries k = absurd (no_items (sym is ∙ k.1))
open_under_way b tag None None (Some p) reported frames fates f rest is carries k = absurd (false_is_not_true (sym carries ∙ aborts_first f rest (subst AreAborts is k.aborts)))
open_under_way b tag (Some entry) None None reported frames fates f rest is carries k = absurd k
open_under_way b tag (Some entry) None (Some p) reported frames fates f rest is carries k = subst IsOpen (sym (latest_is Pending fates k.1)) tt
open_under_way b tag None (Some next) None reported frames fates f rest is carries k = absurd k
open_under_way b tag None (Some next) (Some p) reported frames fates f rest is carries k = elim (k) [
  | inl l ↦ subst IsOpen (sym (latest_is HandedOut fates l.1)) tt
  | inr a ↦ absurd (no_items (sym is ∙ a.withdrawn.quiet refl))
]
open_under_way b tag (Some entry) (Some next) q reported frames fates f rest is carries k = absurd k

pub open_arriving : (w : World) (s : OnWire) (rest : List OnWire) → IsWorld w → w.wire ≡ s ∷ rest → (performative_of s.frame).aborted ≡ false → IsOpen (latest (fates_of s.tag w.ledger.records))
open_arriving w s rest k taken carries =
    open_under_way (is_together w.phase) s.tag (entry_at w.ledger.link.unsettled s.tag) (entry_at w.resuming s.tag) (entry_at w.deliveries s.tag) (entry_at w.receiver.unsettled s.tag) (frames_of s.tag w.wire) (fates_of s.tag w.ledger.records)
    s.frame (frames_of s.tag rest) (ap (frames_of s.tag) taken ∙ frames_first s rest) carries (k.each s.tag)

pub open_listed : (w : World) (tag : Tag) (next : ResumingDelivery) (others : Entries ResumingDelivery) (entry : UnsettledMessage) → IsWorld w → w.resuming ≡ (tag, next) ∷ others → entry_of next ≡ Some entry
    → IsOpen (latest (fates_of tag w.ledger.records))
open_listed w tag next others entry k listed kept =
    let q = listed_progress w tag next others k listed in
    subst IsOpen (sym (latest_is HandedOut (fates_of tag w.ledger.records) (listed_entry w tag next others k listed entry kept q.0 q.1).1)) tt

-- a settled delivery is none
pub closed_settled : (old new : World) (tag : Tag) → IsWorld old → refusal (settle_tests old tag) ≡ None → Settles old tag new → IsOpen (latest (fates_of tag new.ledger.records)) → ⊥
closed_settled old new tag k may a is =
    let found = found_settled old new tag k may a in
    let fate : Fate = Resolved (Ok (Some Accepted)) in
    let fates : fates_of tag new.ledger.records ≡ map (fate_given (Some fate)) (fates_of tag old.ledger.records) =
    ap (λ (w : World). fates_of tag w.ledger.records) a.world ∙ fates_given tag ((tag, fate) ∷ []) old.ledger.records ∙ ap (λ o. map (fate_given o) (fates_of tag old.ledger.records)) (resolved_only tag fate) in
    closed_when_accepted (subst IsOpen (ap latest fates ∙ latest_is fate _ (latest_moved fate (fates_of tag old.ledger.records) found.2)) is)

-- nor is a withdrawn one
pub closed_withdrawn : (old new : World) (tag : Tag) → IsWorld old → refusal (withdraw_tests old tag) ≡ None → WithdrawsDelivery old tag new → IsOpen (latest (fates_of tag new.ledger.records)) → ⊥
closed_withdrawn old new tag k may a is =
    let found = found_withdrawn old new tag k may a in
    let fates : fates_of tag new.ledger.records ≡ map (fate_given (Some Withdrawn)) (fates_of tag old.ledger.records) =
    ap (λ (w : World). fates_of tag w.ledger.records) a.world ∙ fates_given tag ((tag, Withdrawn) ∷ []) old.ledger.records ∙ ap (λ o. map (fate_given o) (fates_of tag old.ledger.records)) (resolved_only tag Withdrawn) in
    closed_when_withdrawn (subst IsOpen (ap latest fates ∙ latest_is Withdrawn _ (latest_moved Withdrawn (fates_of tag old.ledger.records) found.2)) is)

-- a tag of which nothing is kept is no delivery
unknown_kept : (b : Bool) (tag : Tag) (own : Option UnsettledMessage) (listed : Option ResumingDelivery) (q : Option Progress) (reported : Option (Option DeliveryState)) (frames : List LinkFrame) (fates : List Fate)
    → q ≡ None → IsKeptAs b tag own listed q reported frames fates → (own ≡ None) × (IsOpen (latest fates) → ⊥)
unknown_kept b tag None None None reported frames fates is k = (refl, k.2.last)
unknown_kept b tag None None (Some p) reported frames fates is k = absurd (some_is_none is)
unknown_kept b tag (Some entry) None None reported frames fates is k = absurd k
unknown_kept b tag (Some entry) None (Some p) reported frames fates is k = absurd (some_is_none is)
unknown_kept b tag None (Some next) None reported frames fates is k = absurd k
unknown_kept b tag None (Some next) (Some p) reported frames fates is k = absurd (some_is_none is)
unknown_kept b tag (Some entry) (Some next) q reported frames fates is k = absurd k

-- so what was aborted is none
pub closed_aborted : (old new : World) (tag : Tag) → IsWorld old → refusal (arrive_tests old) ≡ None → AbortArrives old tag new
    → (entry_at old.ledger.link.unsettled tag ≡ None) × (IsOpen (latest (fates_of tag old.ledger.records)) → ⊥)
closed_aborted old new tag k may a =
    let w = IsWorld-abort_arrives old new tag k may a in
    let gone : entry_at new.deliveries tag ≡ None = ap (λ (w : World). entry_at w.deliveries tag) a.world ∙ removed_here old.deliveries tag k.deliveries in
    let none = unknown_kept (is_together new.phase) tag (entry_at new.ledger.link.unsettled tag) (entry_at new.resuming tag) (entry_at new.deliveries tag) (entry_at new.receiver.unsettled tag) (frames_of tag new.wire) (fates_of tag new.ledger.records) gone (w.each tag) in (
      ap (λ (w : World). entry_at w.ledger.link.unsettled tag) (sym a.world) ∙ none.0,
      λ o. none.1 (subst (λ (w : World). IsOpen (latest (fates_of tag w.ledger.records))) (sym a.world) o),
    )
