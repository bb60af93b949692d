-- One delivery: what each call makes of it.
use Rattle.std.proofs.Common.{◌≡◌, ◌∙◌, sym, ap, subst, Bool, true, false, cond, ◌||◌, List, [], ◌∷◌, ◌++◌, refl, append_assoc, ℕ, zero, suc, ◌+◌, ◌<◌, ◌≤◌, ◌^◌, inl, inr, drop, ◌⊎◌, length, map, min, arith, length-append, nat_lt, nat_le, nat_eq, ◌==◌}
use Rattle.std.specs.Prelude.{Option, Some, None, not, ◌&&◌, IfSome, IsSomeAnd, slice_index_or, is_none, bytes_eq, is_some, option_and_then, if◌then◌else◌}
use Rattle.std.specs.List.{concat, range_with_len, AllByRecursion}
use lib.ListN.{length-map}
use Rattle.std.proofs.lemmas.List.{append-nil}
use Rattle.std.proofs.lemmas.List.Folds.{concat-append}
use Rattle.std.proofs.lemmas.List.Sums.{length-filter, count_by-le-length}
use Rattle.std.proofs.lemmas.List.FromFn.{length-range_with_len}
use Rattle.std.proofs.lemmas.Bool.Decides.{nat_tests}
use Rattle.amqp_link_types.specs.Entries.{Tag}
use Rattle.amqp_link_types.specs.Frames.{payload_of, performative_of, AreFramesOf, frame_of, cleared}
use Rattle.amqp_link_types.specs.Refusals.{refusal}
use Rattle.amqp_link_types.specs.Size.{transfer_len, before, list_of, content}
use Rattle.amqp_link_values.specs.Length.{text_len}
use Rattle.amqp_link_core.specs.Held.{Held, held_bytes}
use Rattle.amqp_link_payloads.specs.Sections.{is_too_long}
use Rattle.amqp_link_core.specs.IncompleteRefusals.{differs, is_of_another, is_inconsistent}
use Rattle.amqp_link_payloads.specs.Position.{position, starts, is_header_at}
use Rattle.amqp_link_split.specs.Room.{worst, has_room}
use Rattle.amqp_link_sender.specs.Senders.{Sender, IsSent, new_entry, abort_frame}
use Rattle.amqp_link_types.specs.declared.types.terminus.Target.{Target}
use Rattle.amqp_link_types.specs.declared.types.delivery_state.DeliveryState.{DeliveryState}
use Rattle.amqp_link_types.specs.declared.delivery.UnsettledMessage.{UnsettledMessage}
use Rattle.amqp_link_types.specs.declared.frame.LinkFrame.{LinkFrame}
use Rattle.amqp_link_types.specs.declared.frame.LinkFrame.TheVariants.{Attach, Flow, RemoteTransfer, FirstTransfer, TransferContinuation, Disposition, Detach}
use Rattle.amqp_link_types.specs.declared.types.definitions.InputHandle.{InputHandle}
use Rattle.amqp_link_types.specs.declared.types.transfer.Transfer.{Transfer}
use Rattle.amqp_link_types.specs.declared.types.errors.ReceiverTransferError.TheVariants as error
use Rattle.amqp_link_core.specs.declared.resumption.ResumingDelivery.{ResumingDelivery}
use Rattle.amqp_link_types.proofs.MapLemmas.{same_tag, false_is_not_true}
use Rattle.amqp_link_ledger.specs.Fates.{latest, fate_given}
use Rattle.amqp_link_ledger.specs.declared.fate.Fate.{Fate}
use Rattle.amqp_link_worlds.specs.Resumptions.{rest_of}
use Rattle.amqp_link_worlds.specs.Wires.{OnWire, under, payload_of_all, does_begin, IsInTurn}
use Rattle.amqp_link_worlds.specs.Worlds.{EndsInTime, IsGood, IsGoodIn, IsOpen, IsFront, bytes_in, received_at, IsGivenUp, AreAborts, receiver_entry}
use Rattle.amqp_link_worlds.specs.declared.progress.Progress.{Progress}
use Rattle.amqp_link_worlds.specs.Steps.{delivery_transfer, initial_progress, held_after, received, zero_output}
use Rattle.amqp_link_worlds.specs.Receiving.{CanReceive}
use Rattle.amqp_link_worlds.specs.Invariants.{IsNamed, IsContinuing, IsOpening, IsContinuation, IsNext, IsHeld, IsUnderWay, IsKeptAs, IsWithdrawn, IsAborting, IsLatest, IsListed, AreOver}
use Rattle.amqp_link_worlds.proofs.EntriesOf.{drop-front}
use Rattle.amqp_link_core.specs.declared.resumption.ResumingDelivery.TheVariants.{Abort}
use Rattle.amqp_link_ledger.specs.declared.fate.Fate.TheVariants.{Pending, HandedOut, Withdrawn}
use Rattle.amqp_link_worlds.proofs.FateLemmas.{latest_is, latest_moved, latest_over}

-- ---- a transfer comes

EndsInTime-any : (a b : Bool) (f : LinkFrame) (frames : List LinkFrame) → EndsInTime a (f ∷ frames) → EndsInTime b (f ∷ frames)
EndsInTime-any a b f [] h = h
EndsInTime-any a b f (g ∷ frames) h = (h.0, EndsInTime-any a b g frames h.1)

or_right : (a b : Bool) → b ≡ true → (a || b) ≡ true
or_right true b h = refl
or_right false b h = h

either : (a b : Bool) → (a || b) ≡ true → (a ≡ true) ⊎ (b ≡ true)
either true b h = inl refl
either false b h = inr h

not-false : (b : Bool) → not b ≡ true → b ≡ false
not-false false h = refl
not-false true h = absurd (false_is_not_true h)

ends-rest : (old : Bool) (f : LinkFrame) (frames : List LinkFrame) → EndsInTime old (f ∷ frames) → EndsInTime (old || not (performative_of f).more) frames
ends-rest old f [] h = or_right old (not (performative_of f).more) (ap not h)
ends-rest old f (g ∷ frames) h = EndsInTime-any old (old || not (performative_of f).more) g frames h.1

last-alone : (old : Bool) (f : LinkFrame) (frames : List LinkFrame) → EndsInTime old (f ∷ frames) → (performative_of f).more ≡ false → frames ≡ []
last-alone old f [] h more = refl
last-alone old f (g ∷ frames) h more = absurd (false_is_not_true (sym more ∙ h.0))

nothing_added : (xs ys : List ℕ) → xs ++ ys ≡ xs → ys ≡ []
nothing_added [] ys h = h
nothing_added (x ∷ xs) ys h = nothing_added xs ys (ap (drop 1) h)

first_nothing : (xs ys : List ℕ) → xs ++ ys ≡ [] → xs ≡ []
first_nothing [] ys h = refl
first_nothing (x ∷ xs) ys h = cc

-- its payload is added to what is held
pub bytes_received : (h : Option Held) (id : ℕ) (f : LinkFrame) → held_bytes (held_after h id f) ≡ bytes_in h ++ payload_of f
bytes_received None id f = append-nil (payload_of f)
bytes_received (Some h) id f = concat-append h.pieces (payload_of f ∷ []) ∙ ap (λ l. concat h.pieces ++ l) (append-nil (payload_of f))

pub no_items : {A : Type 0} {x : A} {xs : List A} → x ∷ xs ≡ [] → ⊥
no_items h = cc

-- what is under way is out
out_if_under_way : (b : Bool) (f : LinkFrame) (frames : List LinkFrame) → (b ≡ false → f ∷ frames ≡ []) → b ≡ true
out_if_under_way true f frames h = refl
out_if_under_way false f frames h = absurd (no_items (h refl))

good_received : (payload : List ℕ) (p : Progress) (b : Bool) (id : ℕ) (place : ℕ × ℕ) (reported : Option (Option DeliveryState)) (f : LinkFrame) (frames : List LinkFrame)
    → place ≡ position (bytes_in p.held ++ payload_of f) → IsGood payload p b reported (f ∷ frames) None
    → IsGood payload (received p id f) b (Some (Some (received_at place))) frames None
good_received payload p b id place reported f frames at g =
    let now : held_bytes (held_after p.held id f) ≡ bytes_in p.held ++ payload_of f = bytes_received p.held id f in
    let out : b ≡ true = out_if_under_way b f frames g.quiet in
    let all : held_bytes (held_after p.held id f) ++ payload_of_all frames ≡ payload =
    ap (λ bytes. bytes ++ payload_of_all frames) now ∙ append_assoc (bytes_in p.held) (payload_of f) (payload_of_all frames) ∙ g.all out in
    record {
      front = (payload_of_all frames, all);
      report = ap (λ place. Some (Some (received_at place))) (at ∙ ap position (sym now));
      all = λ _. all;
      ends = λ _. ends-rest p.whole f frames (g.ends out);
      quiet = λ off. absurd (false_is_not_true (sym off ∙ out));
      complete = λ w. elim (either p.whole (not (performative_of f).more) w) [
        | inl before_it ↦
            let none : payload_of f ≡ [] = first_nothing (payload_of f) (payload_of_all frames) (nothing_added (bytes_in p.held) (payload_of f ++ payload_of_all frames) (g.all out ∙ sym (g.complete before_it))) in
            now ∙ ap (λ bytes. bytes_in p.held ++ bytes) none ∙ append-nil (bytes_in p.held) ∙ g.complete before_it
        | inr by_it ↦
            let alone : frames ≡ [] = last-alone p.whole f frames (g.ends out) (not-false (performative_of f).more by_it) in
            sym (append-nil (held_bytes (held_after p.held id f))) ∙ ap (λ fs. held_bytes (held_after p.held id f) ++ payload_of_all fs) (sym alone) ∙ all
      ];
      rest_is = tt;
    }

-- ---- what is held is named by its transfers

named_again : (tag : Tag) (t : Transfer) (id : ℕ) (pieces : List (List ℕ)) → IsNamed tag t → IsHeld tag (record { performative = record t { delivery_id = Some id }; pieces = pieces })
named_again tag t id pieces is = record { named = ap (λ (t : Transfer). record t { delivery_id = Some id }) is; has_id = refl }

with_pieces : (tag : Tag) (h : Held) (pieces : List (List ℕ)) → IsHeld tag h → IsHeld tag (record h { pieces = pieces })
with_pieces tag h pieces is = record { named = is.named; has_id = is.has_id }

held_received : (tag : Tag) (h : Option Held) (id : ℕ) (f : LinkFrame) (frames : List LinkFrame) → IfSome h (IsHeld tag) → IsNext tag h (f ∷ frames) → IsHeld tag (held_after h id f)
held_received tag None id (FirstTransfer x) frames is n = elim (n.0) [
  | inl opens ↦ named_again tag x.performative id (x.payload ∷ []) opens
  | inr goes_on ↦ absurd goes_on.1
]
held_received tag None id (TransferContinuation x) frames is n = elim (n.0) [ inl opens ↦ absurd opens | inr goes_on ↦ absurd (false_is_not_true goes_on.0) ]
held_received tag None id (RemoteTransfer x) frames is n = elim (n.0) [ inl opens ↦ absurd opens | inr goes_on ↦ absurd goes_on.1 ]
held_received tag None id (Attach x) frames is n = elim (n.0) [ inl opens ↦ absurd opens | inr goes_on ↦ absurd goes_on.1 ]
held_received tag None id (Flow x) frames is n = elim (n.0) [ inl opens ↦ absurd opens | inr goes_on ↦ absurd goes_on.1 ]
held_received tag None id (Disposition x) frames is n = elim (n.0) [ inl opens ↦ absurd opens | inr goes_on ↦ absurd goes_on.1 ]
held_received tag None id (Detach x) frames is n = elim (n.0) [ inl opens ↦ absurd opens | inr goes_on ↦ absurd goes_on.1 ]
held_received tag (Some h) id (FirstTransfer x) frames is n = named_again tag h.performative id (h.pieces ++ x.payload ∷ []) is.named
held_received tag (Some h) id (TransferContinuation x) frames is n = with_pieces tag h (h.pieces ++ x.payload ∷ []) is
held_received tag (Some h) id (RemoteTransfer x) frames is n = with_pieces tag h (h.pieces ++ x.payload ∷ []) is
held_received tag (Some h) id (Attach x) frames is n = with_pieces tag h (h.pieces ++ [] ∷ []) is
held_received tag (Some h) id (Flow x) frames is n = with_pieces tag h (h.pieces ++ [] ∷ []) is
held_received tag (Some h) id (Disposition x) frames is n = with_pieces tag h (h.pieces ++ [] ∷ []) is
held_received tag (Some h) id (Detach x) frames is n = with_pieces tag h (h.pieces ++ [] ∷ []) is

-- behind the first transfer only further ones come
next_behind : (tag : Tag) (h : Held) (frames : List LinkFrame) → AllByRecursion IsContinuation frames → IsNext tag (Some h) frames
next_behind tag h [] each = tt
next_behind tag h (f ∷ frames) each = (inr (refl, each.0), each.1)

pub way_received : (b : Bool) (tag : Tag) (entry : UnsettledMessage) (p : Progress) (id : ℕ) (place : ℕ × ℕ) (reported : Option (Option DeliveryState)) (f : LinkFrame) (frames : List LinkFrame)
    → place ≡ position (bytes_in p.held ++ payload_of f) → IsUnderWay b tag entry p reported (f ∷ frames)
    → IsUnderWay b tag entry (received p id f) (Some (Some (received_at place))) frames
way_received b tag entry p id place reported f frames at k = record {
  good = good_received entry.payload p b id place reported f frames at k.good;
  own = k.own;
  held = held_received tag p.held id f frames k.held k.next;
  next = next_behind tag (held_after p.held id f) frames k.next.1;
  stays = k.stays;
}

-- a first transfer of a withdrawn delivery aborts it
pub aborts_first : (f : LinkFrame) (frames : List LinkFrame) → AreAborts (f ∷ frames) → (performative_of f).aborted ≡ true
aborts_first f [] k = k
aborts_first f (g ∷ frames) k = absurd k

aborts_alone : (f : LinkFrame) (frames : List LinkFrame) → AreAborts (f ∷ frames) → frames ≡ []
aborts_alone f [] k = refl
aborts_alone f (g ∷ frames) k = absurd k

-- of what is to be resumed or aborted nothing is under way
nothing_under_way : (tag : Tag) (next : ResumingDelivery) (p : Progress) (reported : Option (Option DeliveryState)) (f : LinkFrame) (frames : List LinkFrame) (fates : List Fate)
    → (IsListed tag next p reported (f ∷ frames) × IsLatest HandedOut fates) ⊎ IsAborting tag next p reported (f ∷ frames) fates → ⊥
nothing_under_way tag next p reported f frames fates k = elim (k) [
  | inl l ↦ no_items (l.0.under_way.good.quiet refl)
  | inr a ↦ no_items (a.withdrawn.quiet refl)
]

pub kept_received : (b : Bool) (tag : Tag) (own : Option UnsettledMessage) (listed : Option ResumingDelivery) (p : Progress) (id : ℕ) (place : ℕ × ℕ) (reported : Option (Option DeliveryState))
    (f : LinkFrame) (frames : List LinkFrame) (fates : List Fate) → (performative_of f).aborted ≡ false → place ≡ position (bytes_in p.held ++ payload_of f)
    → IsKeptAs b tag own listed (Some p) reported (f ∷ frames) fates
    → IsKeptAs b tag own listed (Some (received p id f)) (Some (Some (received_at place))) frames fates
kept_received b tag None None p id place reported f frames fates carries at k = absurd (false_is_not_true (sym carries ∙ aborts_first f frames k.aborts))
kept_received b tag (Some entry) None p id place reported f frames fates carries at k = (way_received (b && not p.put_back) tag entry p id place reported f frames at k.0, k.1)
kept_received b tag None (Some next) p id place reported f frames fates carries at k = absurd (nothing_under_way tag next p reported f frames fates k)
kept_received b tag (Some entry) (Some next) p id place reported f frames fates carries at k = absurd k

-- ---- it is not refused

few_starts : (F : List ℕ) → length (starts F) ≤ length F + 1
unfolding starts
few_starts F =
    let p = is_header_at F in
    omega (arith, length-filter p (range_with_len 1 (length F)), count_by-le-length p (range_with_len 1 (length F)), length-range_with_len 1 (length F))

neither : (a b n : ℕ) → n < 2 ^ 32 → a ≤ n → b ≤ n → (nat_le (2 ^ 64) b || nat_le (2 ^ 32) a) ≡ false
neither a b n h ha hb = grind (arith, nat_tests)

small_counts : (bytes : List ℕ) → length bytes < 2 ^ 32 → is_too_long bytes ≡ false
small_counts bytes h =
    neither (position bytes).0 (length bytes) (length bytes) h (omega (arith, few_starts bytes)) (omega arith)

front_counts : (held payload more whole : List ℕ) → held ++ (payload ++ more) ≡ whole → length whole < 2 ^ 32 → is_too_long (held ++ payload) ≡ false
front_counts held payload more whole e h =
    small_counts (held ++ payload) (omega (arith, length-append held (payload ++ more), length-append payload more, length-append held payload, ap length e))

pub none_of_two : {E : Type 0} (a b : Bool) (p q : E) → a ≡ false → b ≡ false → refusal ((a, p) ∷ (b, q) ∷ []) ≡ None
none_of_two a b p q ha hb = rw (ha, hb) refl

pub none_of_three : {E : Type 0} (a b c : Bool) (p q r : E) → a ≡ false → b ≡ false → c ≡ false → refusal ((a, p) ∷ (b, q) ∷ (c, r) ∷ []) ≡ None
none_of_three a b c p q r ha hb hc = rw (ha, hb, hc) refl

pub none_of_four : {E : Type 0} (a b c d : Bool) (p q r s : E) → a ≡ false → b ≡ false → c ≡ false → d ≡ false → refusal ((a, p) ∷ (b, q) ∷ (c, r) ∷ (d, s) ∷ []) ≡ None
none_of_four a b c d p q r s ha hb hc hd = rw (ha, hb, hc, hd) refl

differs-none : {A : Type 0} (same : A → A → Bool) (o : Option A) → differs same o None ≡ false
differs-none same None = refl
differs-none same (Some a) = refl

tag_of_named : (tag : Tag) (t : Transfer) → IsNamed tag t → t.delivery_tag ≡ Some tag
tag_of_named tag t is = ap (λ t. t.delivery_tag) is

format_of_named : (tag : Tag) (t : Transfer) → IsNamed tag t → t.message_format ≡ Some 0
format_of_named tag t is = ap (λ t. t.message_format) is

-- two transfers that name one delivery agree
not_another : (tag : Tag) (old t : Transfer) → IsNamed tag old → IsNamed tag t → is_of_another old t ≡ false
not_another tag old t named is =
    ap (λ o. differs bytes_eq o t.delivery_tag || differs nat_eq old.message_format t.message_format) (tag_of_named tag old named)
    ∙ ap (λ o. differs bytes_eq (Some tag) o || differs nat_eq old.message_format t.message_format) (tag_of_named tag t is)
    ∙ ap (λ b. not b || differs nat_eq old.message_format t.message_format) (same_tag tag)
    ∙ ap (λ o. differs nat_eq o t.message_format) (format_of_named tag old named)
    ∙ ap (λ o. differs nat_eq (Some 0) o) (format_of_named tag t is)

not_inconsistent : (old t : Transfer) → IsContinuing t → is_inconsistent old t ≡ false
not_inconsistent old t c =
    ap (λ o. differs bytes_eq old.delivery_tag o || differs nat_eq old.delivery_id t.delivery_id || differs nat_eq old.message_format t.message_format) c.tag
    ∙ ap (λ b. b || differs nat_eq old.delivery_id t.delivery_id || differs nat_eq old.message_format t.message_format) (differs-none bytes_eq old.delivery_tag)
    ∙ ap (λ o. differs nat_eq old.delivery_id o || differs nat_eq old.message_format t.message_format) c.id
    ∙ ap (λ b. b || differs nat_eq old.message_format t.message_format) (differs-none nat_eq old.delivery_id)
    ∙ ap (λ o. differs nat_eq old.message_format o) c.silent.format
    ∙ differs-none nat_eq old.message_format

receives : (payload : List ℕ) (tag : Tag) (held : Option Held) (id : ℕ) (f : LinkFrame) (frames : List LinkFrame) → IfSome held (IsHeld tag) → IsNext tag held (f ∷ frames)
    → bytes_in held ++ (payload_of f ++ payload_of_all frames) ≡ payload → length payload < 2 ^ 32 → CanReceive held id f
receives payload tag None id (FirstTransfer x) frames is n e h = elim (n.0) [
  | inl opens ↦ none_of_three _ _ _ error.DeliveryIdIsNone error.DeliveryTagIsNone error.PayloadTooLong refl (ap is_none (tag_of_named tag x.performative opens)) (front_counts [] x.payload (payload_of_all frames) payload e h)
  | inr goes_on ↦ absurd goes_on.1
]
receives payload tag None id (TransferContinuation x) frames is n e h = elim (n.0) [ inl opens ↦ absurd opens | inr goes_on ↦ absurd (false_is_not_true goes_on.0) ]
receives payload tag None id (RemoteTransfer x) frames is n e h = elim (n.0) [ inl opens ↦ absurd opens | inr goes_on ↦ absurd goes_on.1 ]
receives payload tag None id (Attach x) frames is n e h = elim (n.0) [ inl opens ↦ absurd opens | inr goes_on ↦ absurd goes_on.1 ]
receives payload tag None id (Flow x) frames is n e h = elim (n.0) [ inl opens ↦ absurd opens | inr goes_on ↦ absurd goes_on.1 ]
receives payload tag None id (Disposition x) frames is n e h = elim (n.0) [ inl opens ↦ absurd opens | inr goes_on ↦ absurd goes_on.1 ]
receives payload tag None id (Detach x) frames is n e h = elim (n.0) [ inl opens ↦ absurd opens | inr goes_on ↦ absurd goes_on.1 ]
receives payload tag (Some held) id (FirstTransfer x) frames is n e h = elim (n.0) [
  | inl opens ↦
      let again : IsNamed tag (record x.performative { delivery_id = Some id }) = ap (λ (t : Transfer). record t { delivery_id = Some id }) opens in (
        record { tag = tag; old_named = is.named; named = opens },
        none_of_four _ _ _ _ error.DeliveryIdIsNone error.DeliveryTagIsNone error.InconsistentFieldInMultiFrameDelivery error.PayloadTooLong refl (ap is_none (tag_of_named tag x.performative opens))
            (not_another tag held.performative (record x.performative { delivery_id = Some id }) is.named again)
            (front_counts (held_bytes held) x.payload (payload_of_all frames) payload e h),
      )
  | inr goes_on ↦ absurd goes_on.1
]
receives payload tag (Some held) id (TransferContinuation x) frames is n e h = elim (n.0) [
  | inl opens ↦ absurd opens
  | inr goes_on ↦ (goes_on.1, none_of_two _ _ error.InconsistentFieldInMultiFrameDelivery error.PayloadTooLong (not_inconsistent held.performative x.performative goes_on.1) (front_counts (held_bytes held) x.payload (payload_of_all frames) payload e h))
]
receives payload tag (Some held) id (RemoteTransfer x) frames is n e h = elim (n.0) [ inl opens ↦ absurd opens | inr goes_on ↦ absurd goes_on.1 ]
receives payload tag (Some held) id (Attach x) frames is n e h = elim (n.0) [ inl opens ↦ absurd opens | inr goes_on ↦ absurd goes_on.1 ]
receives payload tag (Some held) id (Flow x) frames is n e h = elim (n.0) [ inl opens ↦ absurd opens | inr goes_on ↦ absurd goes_on.1 ]
receives payload tag (Some held) id (Disposition x) frames is n e h = elim (n.0) [ inl opens ↦ absurd opens | inr goes_on ↦ absurd goes_on.1 ]
receives payload tag (Some held) id (Detach x) frames is n e h = elim (n.0) [ inl opens ↦ absurd opens | inr goes_on ↦ absurd goes_on.1 ]

-- no transfer under way is refused
pub kept_receives : (b : Bool) (tag : Tag) (own : Option UnsettledMessage) (listed : Option ResumingDelivery) (q : Option Progress) (reported : Option (Option DeliveryState))
    (id : ℕ) (f : LinkFrame) (frames : List LinkFrame) (fates : List Fate) → (performative_of f).aborted ≡ false → IsKeptAs b tag own listed q reported (f ∷ frames) fates
    → IsSomeAnd q (λ p. CanReceive p.held id f)
kept_receives b tag None None None reported id f frames fates carries k = absurd (no_items k.1)
kept_receives b tag None None (Some p) reported id f frames fates carries k = absurd (false_is_not_true (sym carries ∙ aborts_first f frames k.aborts))
kept_receives b tag (Some entry) None None reported id f frames fates carries k = absurd k
kept_receives b tag (Some entry) None (Some p) reported id f frames fates carries k =
    let way = k.0 in
    receives entry.payload tag p.held id f frames way.held way.next (way.good.all (out_if_under_way (b && not p.put_back) f frames way.good.quiet)) way.own.short
kept_receives b tag None (Some next) None reported id f frames fates carries k = absurd k
kept_receives b tag None (Some next) (Some p) reported id f frames fates carries k = absurd (nothing_under_way tag next p reported f frames fates k)
kept_receives b tag (Some entry) (Some next) q reported id f frames fates carries k = absurd k

-- ---- an abort comes

-- a transfer of a delivery that goes on aborts none
carries_on : (tag : Tag) (held : Option Held) (f : LinkFrame) (frames : List LinkFrame) → IsNext tag held (f ∷ frames) → (performative_of f).aborted ≡ false
carries_on tag held (FirstTransfer x) frames n = elim (n.0) [ inl opens ↦ ap (λ (t : Transfer). t.aborted) opens | inr goes_on ↦ absurd goes_on.1 ]
carries_on tag held (TransferContinuation x) frames n = elim (n.0) [ inl opens ↦ absurd opens | inr goes_on ↦ goes_on.1.carries ]
carries_on tag held (RemoteTransfer x) frames n = elim (n.0) [ inl opens ↦ absurd opens | inr goes_on ↦ absurd goes_on.1 ]
carries_on tag held (Attach x) frames n = elim (n.0) [ inl opens ↦ absurd opens | inr goes_on ↦ absurd goes_on.1 ]
carries_on tag held (Flow x) frames n = elim (n.0) [ inl opens ↦ absurd opens | inr goes_on ↦ absurd goes_on.1 ]
carries_on tag held (Disposition x) frames n = elim (n.0) [ inl opens ↦ absurd opens | inr goes_on ↦ absurd goes_on.1 ]
carries_on tag held (Detach x) frames n = elim (n.0) [ inl opens ↦ absurd opens | inr goes_on ↦ absurd goes_on.1 ]

pub closed_when_withdrawn : IsOpen (Some Withdrawn) → ⊥
closed_when_withdrawn none = none

pub over_when_withdrawn : (fates : List Fate) → IsLatest Withdrawn fates → AreOver fates
over_when_withdrawn fates l = latest_over Withdrawn fates l refl closed_when_withdrawn

-- what is held and reported is forgotten, and nothing more is under way
pub kept_aborted : (b : Bool) (tag : Tag) (own : Option UnsettledMessage) (listed : Option ResumingDelivery) (q : Option Progress) (reported : Option (Option DeliveryState))
    (f : LinkFrame) (frames : List LinkFrame) (fates : List Fate) → (performative_of f).aborted ≡ true → IsKeptAs b tag own listed q reported (f ∷ frames) fates
    → IsKeptAs b tag own listed None None frames fates
kept_aborted b tag None None None reported f frames fates aborts k = absurd (no_items k.1)
kept_aborted b tag None None (Some p) reported f frames fates aborts k = (refl, aborts_alone f frames k.aborts, over_when_withdrawn fates k.last)
kept_aborted b tag (Some entry) None None reported f frames fates aborts k = absurd k
kept_aborted b tag (Some entry) None (Some p) reported f frames fates aborts k = absurd (false_is_not_true (sym (carries_on tag p.held f frames k.0.next) ∙ aborts))
kept_aborted b tag None (Some next) None reported f frames fates aborts k = absurd k
kept_aborted b tag None (Some next) (Some p) reported f frames fates aborts k = absurd (nothing_under_way tag next p reported f frames fates k)
kept_aborted b tag (Some entry) (Some next) q reported f frames fates aborts k = absurd k

-- its tag has four bytes
pub aborted_tag : (b : Bool) (tag : Tag) (own : Option UnsettledMessage) (listed : Option ResumingDelivery) (q : Option Progress) (reported : Option (Option DeliveryState))
    (f : LinkFrame) (frames : List LinkFrame) (fates : List Fate) → (performative_of f).aborted ≡ true → IsKeptAs b tag own listed q reported (f ∷ frames) fates → length tag ≡ 4
aborted_tag b tag None None None reported f frames fates aborts k = absurd (no_items k.1)
aborted_tag b tag None None (Some p) reported f frames fates aborts k = k.tag_is
aborted_tag b tag (Some entry) None None reported f frames fates aborts k = absurd k
aborted_tag b tag (Some entry) None (Some p) reported f frames fates aborts k = absurd (false_is_not_true (sym (carries_on tag p.held f frames k.0.next) ∙ aborts))
aborted_tag b tag None (Some next) None reported f frames fates aborts k = absurd k
aborted_tag b tag None (Some next) (Some p) reported f frames fates aborts k = absurd (nothing_under_way tag next p reported f frames fates k)
aborted_tag b tag (Some entry) (Some next) q reported f frames fates aborts k = absurd k

-- ---- a send

-- from frame k of n on
abbrev AreFrames : InputHandle → Tag → Bool → ℕ → ℕ → List LinkFrame → Type 0
AreFrames h tag r n k [] = k ≡ n
AreFrames h tag r n k (f ∷ frames) = (f ≡ frame_of h (delivery_transfer tag r) k n (payload_of f)) × AreFrames h tag r n (suc k) frames

frames_from : (h : InputHandle) (tag : Tag) (r : Bool) (n k : ℕ) (frames : List LinkFrame) → k + length frames ≡ n
    → ((i : ℕ) (d : LinkFrame) → i < length frames → slice_index_or frames i d ≡ frame_of h (delivery_transfer tag r) (k + i) n (payload_of (slice_index_or frames i d)))
    → AreFrames h tag r n k frames
frames_from h tag r n k [] e each = omega arith
frames_from h tag r n k (f ∷ frames) e each = (
  subst (λ i. f ≡ frame_of h (delivery_transfer tag r) i n (payload_of f)) (let z : k + 0 ≡ k = omega arith in z) (each 0 f (omega arith)),
  frames_from h tag r n (suc k) frames (omega arith) (λ i d l. subst (λ j. slice_index_or frames i d ≡ frame_of h (delivery_transfer tag r) j n (payload_of (slice_index_or frames i d))) (let s : k + suc i ≡ suc k + i = omega arith in s) (each (suc i) d (omega arith))),
)

abbrev first_at : InputHandle → Tag → Bool → ℕ → ℕ → List ℕ → LinkFrame
first_at h tag r i n p = FirstTransfer (record { input_handle = h; performative = record (delivery_transfer tag r) { more = nat_lt (i + 1) n }; payload = p })

abbrev next_at : InputHandle → Tag → Bool → ℕ → ℕ → List ℕ → LinkFrame
next_at h tag r i n p = let c = cleared (delivery_transfer tag r) in TransferContinuation (record { input_handle = h; performative = record c { more = nat_lt (i + 1) n }; payload = p })

more_of_frame : (h : InputHandle) (tag : Tag) (r : Bool) (k n : ℕ) (p : List ℕ) → (performative_of (frame_of h (delivery_transfer tag r) k n p)).more ≡ nat_lt (k + 1) n
more_of_frame h tag r k n p =
    elim (k == 0) as (λ b. (performative_of (cond b (first_at h tag r k n p) (next_at h tag r k n p))).more ≡ nat_lt (k + 1) n) [ true ↦ refl | false ↦ refl ]

not_zero : (k : ℕ) → (suc k == 0) ≡ false
not_zero k = grind (arith, nat_tests)

goes_on : (h : InputHandle) (tag : Tag) (r : Bool) (k n : ℕ) (p : List ℕ) → IsContinuation (frame_of h (delivery_transfer tag r) (suc k) n p)
goes_on h tag r k n p = subst (λ b. IsContinuation (cond b (first_at h tag r (suc k) n p) (next_at h tag r (suc k) n p))) (sym (not_zero k))
    (record { id = refl; tag = refl; silent = record { format = refl; settled = refl; state = refl }; carries = refl })

not_below : (k n : ℕ) → suc k ≡ n → nat_lt (k + 1) n ≡ false
not_below k n e = grind (arith, nat_tests)

is_below : (k n m : ℕ) → suc (suc k) + m ≡ n → nat_lt (k + 1) n ≡ true
is_below k n m e = grind (arith, nat_tests)

frames_left : (h : InputHandle) (tag : Tag) (r : Bool) (n k : ℕ) (frames : List LinkFrame) → AreFrames h tag r n k frames → k + length frames ≡ n
frames_left h tag r n k [] a = omega (arith, a)
frames_left h tag r n k (f ∷ frames) a = omega (arith, frames_left h tag r n (suc k) frames a.1)

ends_from : (b : Bool) (h : InputHandle) (tag : Tag) (r : Bool) (n k : ℕ) (f : LinkFrame) (frames : List LinkFrame) → AreFrames h tag r n k (f ∷ frames) → EndsInTime b (f ∷ frames)
ends_from b h tag r n k f [] a =
    ap (λ f. (performative_of f).more) a.0 ∙ more_of_frame h tag r k n (payload_of f) ∙ not_below k n a.1
ends_from b h tag r n k f (g ∷ frames) a = (
  ap (λ f. (performative_of f).more) a.0 ∙ more_of_frame h tag r k n (payload_of f) ∙ is_below k n (length frames) (frames_left h tag r n (suc (suc k)) frames a.1.1),
  ends_from b h tag r n (suc k) g frames a.1,
)

go_on_from : (h : InputHandle) (tag : Tag) (r : Bool) (n k : ℕ) (frames : List LinkFrame) → AreFrames h tag r n (suc k) frames → AllByRecursion IsContinuation frames
go_on_from h tag r n k [] a = tt
go_on_from h tag r n k (f ∷ frames) a = (subst IsContinuation (sym a.0) (goes_on h tag r k n (payload_of f)), go_on_from h tag r n (suc k) frames a.1)

joined-concat : (frames : List LinkFrame) → payload_of_all frames ≡ concat (map payload_of frames)
joined-concat [] = refl
joined-concat (f ∷ frames) = ap (λ bytes. payload_of f ++ bytes) (joined-concat frames)

-- whether the frame before frame k of n has more
abbrev more_before : ℕ → ℕ → Bool
more_before n zero = false
more_before n (suc k) = nat_lt (suc k) n

not_past : (k n : ℕ) → k ≡ n → nat_lt k n ≡ false
not_past k n e = grind (arith, nat_tests)

still_below : (k n m : ℕ) → k + suc m ≡ n → nat_lt k n ≡ true
still_below k n m e = grind (arith, nat_tests)

-- frame k of n begins the delivery exactly if none with more stands before it
begins_if_first : (h : InputHandle) (tag : Tag) (r : Bool) (k n m : ℕ) (p : List ℕ) → k + suc m ≡ n
    → does_begin (frame_of h (delivery_transfer tag r) k n p) ≡ not (more_before n k)
begins_if_first h tag r zero n m p e = refl
begins_if_first h tag r (suc k) n m p e =
    ap (λ b. does_begin (cond b (first_at h tag r (suc k) n p) (next_at h tag r (suc k) n p))) (not_zero k) ∙ ap not (sym (still_below (suc k) n m e))

turn_from : (h : InputHandle) (tag : Tag) (r : Bool) (n k : ℕ) (frames : List LinkFrame) → AreFrames h tag r n k frames → IsInTurn (more_before n k) (under tag frames)
turn_from h tag r n zero [] a = refl
turn_from h tag r n (suc k) [] a = not_past (suc k) n a
turn_from h tag r n k (f ∷ frames) a = (
  ap does_begin a.0 ∙ begins_if_first h tag r k n (length frames) (payload_of f) (let left = frames_left h tag r n (suc k) frames a.1 in omega (arith, left)),
  subst (λ more. IsInTurn more (under tag frames)) (sym (ap (λ f. (performative_of f).more) a.0 ∙ more_of_frame h tag r k n (payload_of f) ∙ ap (λ j. nat_lt j n) (let s : k + 1 ≡ suc k = omega arith in s)))
      (turn_from h tag r n (suc k) frames a.1),
)

-- what is sent stands behind what is on its way
pub turn_sent : (more : Bool) (wire new : List OnWire) → IsInTurn more wire → IsInTurn false new → IsInTurn more (wire ++ new)
turn_sent more [] new t s = subst (λ m. IsInTurn m new) (sym t) s
turn_sent more (next ∷ wire) new t s = (t.0, turn_sent (performative_of next.frame).more wire new t.1 s)

-- the transfers of one sending
pub record AreSent (tag : Tag) (bytes : List ℕ) (held : Option Held) (whole : Bool) (frames : List LinkFrame) : Type 0 where
  pub joined_are : payload_of_all frames ≡ bytes
  pub ends : EndsInTime whole frames
  pub next : IsNext tag held frames
  pub turn : IsInTurn false (under tag frames)

sent_from : (tag : Tag) (r : Bool) (bytes : List ℕ) (held : Option Held) (whole : Bool) (h : InputHandle) (n : ℕ) (frames : List LinkFrame)
    → concat (map payload_of frames) ≡ bytes → 1 ≤ length frames → AreFrames h tag r n 0 frames → AreSent tag bytes held whole frames
sent_from tag r bytes held whole h n [] e some a = absurd (omega arith)
sent_from tag r bytes held whole h n (f ∷ frames) e some a = record {
  joined_are = joined-concat (f ∷ frames) ∙ e;
  ends = ends_from whole h tag r n 0 f frames a;
  next = (inl (subst (IsOpening tag) (sym a.0) refl), go_on_from h tag r n 0 frames a.1);
  turn = turn_from h tag r n 0 (f ∷ frames) a;
}

-- the frames of a link are those at its input handle
at_handle : (o : Option InputHandle) (h : InputHandle) (t : Transfer) (frames : List LinkFrame) → o ≡ Some h → IsSomeAnd o (λ handle. AreFramesOf handle t frames) → AreFramesOf h t frames
at_handle o h t frames e each = let P : Option InputHandle → Type 0 = λ o. IsSomeAnd o (λ handle. AreFramesOf handle t frames) in subst P e each

pub are_sent : (s : Sender Target) (h : InputHandle) (tag : Tag) (r : Bool) (bytes : List ℕ) (held : Option Held) (whole : Bool) (frames : List LinkFrame)
    → s.input_handle ≡ Some h → IsSent s (delivery_transfer tag r) bytes frames → AreSent tag bytes held whole frames
are_sent s h tag r bytes held whole frames input sent =
    let each : AreFramesOf h (delivery_transfer tag r) frames = at_handle s.input_handle h (delivery_transfer tag r) frames input sent.each in
    sent_from tag r bytes held whole h (length frames) frames sent.split.joined (omega (arith, sent.split.some, length-map frames payload_of))
    (frames_from h tag r (length frames) 0 frames (omega arith) (λ i d l. subst (λ j. slice_index_or frames i d ≡ frame_of h (delivery_transfer tag r) j (length frames) (payload_of (slice_index_or frames i d))) (let z : i ≡ 0 + i = omega arith in z) (each i d l)))

pub way_sent : (tag : Tag) (payload : List ℕ) (frames : List LinkFrame) → length tag ≡ 4 → length payload < 2 ^ 32 → AreSent tag payload None false frames
    → IsUnderWay true tag (new_entry 0 payload) initial_progress None frames
way_sent tag payload frames four short sent = record {
  good = record {
    front = (payload, refl);
    report = refl;
    all = λ _. sent.joined_are;
    ends = λ _. sent.ends;
    quiet = λ off. absurd (false_is_not_true (sym off));
    complete = λ w. absurd (false_is_not_true w);
    rest_is = tt;
  };
  own = record { tag_is = four; short = short; state = refl; format = refl };
  held = tt;
  next = sent.next;
  stays = refl;
}

-- ---- it is resumed

rest_of_front : (held payload bytes : List ℕ) → IsFront held payload → bytes ≡ drop (length held) payload → held ++ bytes ≡ payload
rest_of_front held payload bytes front is =
    ap (λ l. held ++ l) (is ∙ ap (drop (length held)) (sym front.1) ∙ drop-front held front.0) ∙ front.1

pub way_resumed : (b : Bool) (tag : Tag) (entry : UnsettledMessage) (p : Progress) (reported : Option (Option DeliveryState)) (frames : List LinkFrame) (bytes : List ℕ)
    → IsUnderWay b tag entry p reported [] → bytes ≡ drop (length (bytes_in p.held)) entry.payload → AreSent tag bytes p.held p.whole frames
    → IsUnderWay true tag entry (record p { put_back = false }) reported frames
way_resumed b tag entry p reported frames bytes k rest sent = record {
  good = record {
    front = k.good.front;
    report = k.good.report;
    all = λ _. ap (λ l. bytes_in p.held ++ l) sent.joined_are ∙ rest_of_front (bytes_in p.held) entry.payload bytes k.good.front rest;
    ends = λ _. sent.ends;
    quiet = λ off. absurd (false_is_not_true (sym off));
    complete = k.good.complete;
    rest_is = tt;
  };
  own = k.own;
  held = k.held;
  next = sent.next;
  stays = k.stays;
}

-- ---- it is put back

pub way_put_back : (tag : Tag) (entry : UnsettledMessage) (p : Progress) (reported : Option (Option DeliveryState)) (frames : List LinkFrame)
    → IsUnderWay false tag entry p reported frames → IsUnderWay false tag entry (record p { put_back = true }) reported frames
way_put_back tag entry p reported frames k = record {
  good = record {
    front = k.good.front;
    report = k.good.report;
    all = k.good.all;
    ends = k.good.ends;
    quiet = k.good.quiet;
    complete = k.good.complete;
    rest_is = tt;
  };
  own = k.own;
  held = k.held;
  next = k.next;
  stays = k.stays;
}

-- ---- the wire is lost

way_cut : (b : Bool) (tag : Tag) (entry : UnsettledMessage) (p : Progress) (reported : Option (Option DeliveryState)) (frames : List LinkFrame)
    → IsUnderWay b tag entry p reported frames → IsUnderWay false tag entry p reported []
way_cut b tag entry p reported frames k = record {
  good = record {
    front = k.good.front;
    report = k.good.report;
    all = λ out. absurd (false_is_not_true out);
    ends = λ out. absurd (false_is_not_true out);
    quiet = λ _. refl;
    complete = k.good.complete;
    rest_is = tt;
  };
  own = k.own;
  held = k.held;
  next = tt;
  stays = k.stays;
}

-- a withdrawn delivery with these transfers under way
withdrawn_with : (b b' : Bool) (tag : Tag) (p : Progress) (reported : Option (Option DeliveryState)) (frames frames' : List LinkFrame) (fates : List Fate)
    → IsWithdrawn b tag p reported frames fates → AreAborts frames' → (b' ≡ false → frames' ≡ []) → IsWithdrawn b' tag p reported frames' fates
withdrawn_with b b' tag p reported frames frames' fates k aborts quiet = record {
  flag = k.flag;
  unfinished = k.unfinished;
  tag_is = k.tag_is;
  holds = k.holds;
  held = k.held;
  report = k.report;
  aborts = aborts;
  quiet = quiet;
  last = k.last;
}

pub kept_cut : (b : Bool) (tag : Tag) (own : Option UnsettledMessage) (q : Option Progress) (reported : Option (Option DeliveryState)) (frames : List LinkFrame) (fates : List Fate)
    → IsKeptAs b tag own None q reported frames fates → IsKeptAs false tag own None q reported [] fates
kept_cut b tag None None reported frames fates k = (k.0, refl, k.2)
kept_cut b tag None (Some p) reported frames fates k = withdrawn_with b false tag p reported frames [] fates k tt (λ _. refl)
kept_cut b tag (Some entry) None reported frames fates k = absurd k
kept_cut b tag (Some entry) (Some p) reported frames fates k = (way_cut (b && not p.put_back) tag entry p reported frames k.0, k.1)

-- ---- it is handed out to the receiver's user

abbrev pub taken_out : Progress → Progress
taken_out p = record p { taken = true }

way_taken : (b : Bool) (tag : Tag) (entry : UnsettledMessage) (p : Progress) (reported : Option (Option DeliveryState)) (frames : List LinkFrame)
    → IsUnderWay b tag entry p reported frames → IsUnderWay b tag entry (taken_out p) reported frames
way_taken b tag entry p reported frames k = record {
  good = record {
    front = k.good.front;
    report = k.good.report;
    all = k.good.all;
    ends = k.good.ends;
    quiet = k.good.quiet;
    complete = k.good.complete;
    rest_is = tt;
  };
  own = k.own;
  held = k.held;
  next = k.next;
  stays = k.stays;
}

withdrawn_taken : (b : Bool) (tag : Tag) (p : Progress) (reported : Option (Option DeliveryState)) (frames : List LinkFrame) (fates : List Fate)
    → IsWithdrawn b tag p reported frames fates → IsWithdrawn b tag (taken_out p) reported frames fates
withdrawn_taken b tag p reported frames fates k = record {
  flag = k.flag;
  unfinished = k.unfinished;
  tag_is = k.tag_is;
  holds = k.holds;
  held = k.held;
  report = k.report;
  aborts = k.aborts;
  quiet = k.quiet;
  last = k.last;
}

pub kept_taken : (b : Bool) (tag : Tag) (own : Option UnsettledMessage) (listed : Option ResumingDelivery) (p : Progress) (reported : Option (Option DeliveryState)) (frames : List LinkFrame) (fates : List Fate)
    → IsKeptAs b tag own listed (Some p) reported frames fates → IsKeptAs b tag own listed (Some (taken_out p)) reported frames fates
kept_taken b tag None None p reported frames fates k = withdrawn_taken b tag p reported frames fates k
kept_taken b tag (Some entry) None p reported frames fates k = (way_taken (b && not p.put_back) tag entry p reported frames k.0, k.1)
kept_taken b tag None (Some next) p reported frames fates k = elim (k) [
  | inl l ↦ inl (
    record {
      entry = l.0.entry;
      entry_is = l.0.entry_is;
      under_way = way_taken false tag l.0.entry p reported frames l.0.under_way;
      rest = l.0.rest;
      flag = l.0.flag;
    },
    l.1,
  )
  | inr a ↦ inr (record { is = a.is; withdrawn = withdrawn_taken false tag p reported frames fates a.withdrawn })
]
kept_taken b tag (Some entry) (Some next) p reported frames fates k = absurd k

-- ---- what is kept is good

rest_holds : (o : Option (List ℕ)) (bytes : List ℕ) → o ≡ Some bytes → IfSome o (λ rest. rest ≡ bytes)
rest_holds o bytes is = subst (λ o. IfSome o (λ rest. rest ≡ bytes)) (sym is) refl

pub good_kept : (b : Bool) (tag : Tag) (own : Option UnsettledMessage) (listed : Option ResumingDelivery) (q : Option Progress) (reported : Option (Option DeliveryState)) (frames : List LinkFrame) (fates : List Fate)
    → IsKeptAs b tag own listed q reported frames fates → IsOpen (latest fates)
    → IsGoodIn b (record { own = own; listed = listed; progress = q; reported = reported; frames = frames; fates = fates })
good_kept b tag None None None reported frames fates k is = absurd (k.2.last is)
good_kept b tag None None (Some p) reported frames fates k is = absurd (closed_when_withdrawn (subst IsOpen (latest_is Withdrawn fates k.last) is))
good_kept b tag (Some entry) None None reported frames fates k is = absurd k
good_kept b tag (Some entry) None (Some p) reported frames fates k is = k.0.good
good_kept b tag None (Some next) None reported frames fates k is = absurd k
good_kept b tag None (Some next) (Some p) reported frames fates k is = elim (k) [
  | inl m ↦
      let l = m.0 in
      let g = l.under_way.good in
      let good : IsGood l.entry.payload p false reported frames (rest_of next) =
      record {
        front = g.front;
        report = g.report;
        all = g.all;
        ends = g.ends;
        quiet = g.quiet;
        complete = g.complete;
        rest_is = rest_holds (rest_of next) (drop (length (bytes_in p.held)) l.entry.payload) l.rest;
      } in
      let P : Option UnsettledMessage → Type 0 = λ o. IsSomeAnd o (λ entry. IsGood entry.payload p false reported frames (rest_of next)) in
      subst P (sym l.entry_is) good
  | inr a ↦ absurd (closed_when_withdrawn (subst IsOpen (latest_is Withdrawn fates a.withdrawn.last) is))
]
good_kept b tag (Some entry) (Some next) q reported frames fates k is = absurd k

-- a withdrawn delivery is given up
not_pending : Some Pending ≡ Some Withdrawn → ⊥
not_pending h = cc

not_handed_out : Some HandedOut ≡ Some Withdrawn → ⊥
not_handed_out h = cc

pub given_up_kept : (b : Bool) (tag : Tag) (own : Option UnsettledMessage) (listed : Option ResumingDelivery) (q : Option Progress) (reported : Option (Option DeliveryState)) (frames : List LinkFrame) (fates : List Fate)
    → IsKeptAs b tag own listed q reported frames fates → latest fates ≡ Some Withdrawn → IsGivenUp (option_and_then (λ (p : Progress). p.held) q) reported frames
given_up_kept b tag None None None reported frames fates k is = record { report = k.0; aborts = subst AreAborts (sym k.1) tt }
given_up_kept b tag None None (Some p) reported frames fates k is = record { report = k.report; aborts = k.aborts }
given_up_kept b tag (Some entry) None None reported frames fates k is = absurd k
given_up_kept b tag (Some entry) None (Some p) reported frames fates k is = absurd (not_pending (sym (latest_is Pending fates k.1) ∙ is))
given_up_kept b tag None (Some next) None reported frames fates k is = absurd k
given_up_kept b tag None (Some next) (Some p) reported frames fates k is = elim (k) [
  | inl l ↦ absurd (not_handed_out (sym (latest_is HandedOut fates l.1) ∙ is))
  | inr a ↦ record { report = a.withdrawn.report; aborts = a.withdrawn.aborts }
]
given_up_kept b tag (Some entry) (Some next) q reported frames fates k is = absurd k

-- ---- it is withdrawn

pub way_withdrawn : (tag : Tag) (entry : UnsettledMessage) (p : Progress) (h : Option Held) (reported : Option (Option DeliveryState)) (frames : List LinkFrame) (fates : List Fate)
    → p.held ≡ h → p.whole ≡ false → IsUnderWay false tag entry p reported frames → IsLatest Pending fates
    → IsKeptAs false tag None None (if is_some h then Some (record p { withdrawn = true }) else None) reported frames (map (fate_given (Some Withdrawn)) fates)
way_withdrawn tag entry p None reported frames fates is unfinished k l =
    (k.good.report ∙ ap receiver_entry is, k.good.quiet refl, over_when_withdrawn _ (latest_moved Withdrawn fates l))
way_withdrawn tag entry p (Some held) reported frames fates is unfinished k l = record {
  flag = refl;
  unfinished = unfinished;
  tag_is = k.own.tag_is;
  holds = ap is_some is;
  held = k.held;
  report = k.good.report;
  aborts = subst AreAborts (sym (k.good.quiet refl)) tt;
  quiet = λ _. k.good.quiet refl;
  last = latest_moved Withdrawn fates l;
}

-- ---- its abort is sent, or left for the next attach

-- a withdrawn delivery of which nothing is under way, once the endpoints are attached
pub withdrawn_waits : (b : Bool) (tag : Tag) (p : Progress) (reported : Option (Option DeliveryState)) (frames : List LinkFrame) (fates : List Fate)
    → IsWithdrawn false tag p reported frames fates → IsWithdrawn b tag p reported frames fates
withdrawn_waits b tag p reported frames fates k = withdrawn_with false b tag p reported frames frames fates k k.aborts (λ _. k.quiet refl)

pub withdrawn_sent : (handle : InputHandle) (tag : Tag) (p : Progress) (reported : Option (Option DeliveryState)) (frames : List LinkFrame) (fates : List Fate)
    → IsWithdrawn false tag p reported frames fates → IsWithdrawn true tag p reported (abort_frame zero_output handle tag 0 ∷ []) fates
withdrawn_sent handle tag p reported frames fates k =
    withdrawn_with false true tag p reported frames (abort_frame zero_output handle tag 0 ∷ []) fates k refl (λ off. absurd (false_is_not_true (sym off)))

none_is_some : {A : Type 0} {x : A} → None ≡ Some x → ⊥
none_is_some h = cc

-- an abort in the list is of a withdrawn delivery
pub aborting_kept : (b : Bool) (tag : Tag) (own : Option UnsettledMessage) (q : Option Progress) (reported : Option (Option DeliveryState)) (frames : List LinkFrame) (fates : List Fate)
    → IsKeptAs b tag own (Some (Abort 0 None)) q reported frames fates
    → (own ≡ None) × ((p : Progress) × (q ≡ Some p) × IsWithdrawn false tag p reported frames fates)
aborting_kept b tag None None reported frames fates k = absurd k
aborting_kept b tag None (Some p) reported frames fates k = elim (k) [
  | inl l ↦ absurd (none_is_some l.0.entry_is)
  | inr a ↦ (refl, (p, refl, a.withdrawn))
]
aborting_kept b tag (Some entry) q reported frames fates k = absurd k

-- ---- room for what is resumed

worst_of : ℕ → Bool → ℕ
worst_of n r = list_of (content (Some 1 ∷ Some 5 ∷ Some (text_len n) ∷ Some 1 ∷ Some 1 ∷ Some 1 ∷ None ∷ None ∷ cond r (Some 1) None ∷ None ∷ None ∷ []))

worst-resumed : (tag : Tag) (r : Bool) → length tag ≡ 4 → worst (delivery_transfer tag r) ≤ 24
unfolding transfer_len before list_of worst_of
worst-resumed tag true four =
    let step : worst (delivery_transfer tag true) ≡ worst_of (length tag) true = refl in
    let len : worst (delivery_transfer tag true) ≡ 24 = step ∙ ap (λ n. worst_of n true) four in
    omega (arith, len)
worst-resumed tag false four =
    let step : worst (delivery_transfer tag false) ≡ worst_of (length tag) false = refl in
    let len : worst (delivery_transfer tag false) ≡ 21 = step ∙ ap (λ n. worst_of n false) four in
    omega (arith, len)

room_by : (w frame len : ℕ) → w ≤ 24 → 29 ≤ frame → nat_le (4 + w + min 1 len) frame ≡ true
room_by w frame len e h = grind (arith, nat_tests)

pub has_room-delivery : (tag : Tag) (r : Bool) (frame : ℕ) (bytes : List ℕ) → length tag ≡ 4 → 29 ≤ frame → has_room (delivery_transfer tag r) frame bytes ≡ true
has_room-delivery tag r frame bytes four h = room_by (worst (delivery_transfer tag r)) frame (length bytes) (worst-resumed tag r four) h
