-- The next transfer of a pair arrives.
use Rattle.std.proofs.Common.{◌≡◌, ◌∙◌, sym, ap, subst, refl, ℕ, Bool, true, false, List, [], ◌∷◌, None, Some, Option, drop, inl, inr}
use Rattle.std.specs.Prelude.{IsSome, IsSomeAnd}
use Rattle.amqp_link_types.specs.Entries.{Tag, Entries, entry_at, with_entry, without_entry}
use Rattle.amqp_link_types.specs.Frames.{link_transfer, performative_of}
use Rattle.amqp_link_types.proofs.MapLemmas.{false_is_not_true}
use Rattle.amqp_link_types.specs.declared.frame.LinkFrame.TheVariants.{Attach, Detach, Disposition, FirstTransfer, Flow, RemoteTransfer, TransferContinuation}
use Rattle.amqp_link_core.specs.Held.{Held}
use Rattle.amqp_link_types.specs.declared.delivery.UnsettledMessage.{UnsettledMessage}
use Rattle.amqp_link_types.specs.declared.frame.LinkFrame.{LinkFrame}
use Rattle.amqp_link_types.specs.declared.types.delivery_state.DeliveryState.{DeliveryState}
use Rattle.amqp_link_types.specs.declared.types.terminus.Target.{Target}
use Rattle.amqp_link_core.specs.declared.resumption.ResumingDelivery.{ResumingDelivery}
use Rattle.amqp_link_ledger.specs.declared.fate.Fate.{Fate}
use Rattle.amqp_link_ledger.specs.Fates.{fates_of}
use Rattle.amqp_link_receiver.specs.Receivers.{Receiver}
use Rattle.amqp_link_worlds.specs.Invariants.{IsKeptAs, IsWorld}
use Rattle.amqp_link_worlds.specs.Receiving.{CanReceive}
use Rattle.amqp_link_worlds.specs.Steps.{Arrives, AbortArrives, received}
use Rattle.amqp_link_worlds.specs.PairRuns.{aborts_next}
use Rattle.amqp_link_worlds.specs.Wires.{OnWire, frames_of}
use Rattle.amqp_link_worlds.specs.Worlds.{World, is_together, receiver_entry}
use Rattle.amqp_link_worlds.specs.declared.progress.Progress.{Progress}
use Rattle.amqp_link_worlds.proofs.WorldLemmas.{IsWorld-receives}
use Rattle.amqp_link_pair.specs.Keeping.{IsReceived, kept_after, progress_of}
use Rattle.amqp_link_pair.specs.Queues.{first_element}
use Rattle.amqp_link_pair.specs.declared.deliveries.Kept.{Kept}
use Rattle.amqp_link_pair.proofs.ProgressLemmas.{known_at, progress_at, progress_in, progress_of-put, progress_of-removed}

-- a list that has a first item
pub first_and_rest : {A : Type 0} (xs : List A) (x : A) → first_element xs ≡ Some x → xs ≡ x ∷ drop 1 xs
first_and_rest [] x h = absurd (cc)
first_and_rest (y ∷ xs) x h = let is : y ≡ x = cc in ap (λ z. z ∷ xs) is

-- the receiver reports what is held
reported_as_held : (b : Bool) (tag : Tag) (own : Option UnsettledMessage) (listed : Option ResumingDelivery) (p : Progress) (reported : Option (Option DeliveryState)) (frames : List LinkFrame) (fates : List Fate)
    → IsKeptAs b tag own listed (Some p) reported frames fates → reported ≡ receiver_entry p.held
reported_as_held b tag None None p reported frames fates k = k.report
reported_as_held b tag (Some entry) None p reported frames fates k = k.0.good.report
reported_as_held b tag None (Some next) p reported frames fates k =
    elim (k) as (λ _. reported ≡ receiver_entry p.held) [ inl l ↦ l.0.under_way.good.report | inr a ↦ a.withdrawn.report ]
reported_as_held b tag (Some entry) (Some next) p reported frames fates k = absurd k

-- what is kept of the delivery of the next transfer can receive it
pub can_receive : (w : World) (kept : Entries Kept) (s : OnWire) (rest : List OnWire) (tag : Tag) (id : ℕ) → IsWorld w → w.deliveries ≡ progress_of kept → w.wire ≡ s ∷ rest → (performative_of s.frame).aborted ≡ false → tag ≡ s.tag
    → IsSomeAnd (entry_at kept tag) (λ k. CanReceive k.progress.held id s.frame × (entry_at w.receiver.unsettled tag ≡ receiver_entry k.progress.held))
can_receive w kept s rest tag id world is wire carries same =
    let at : entry_at w.deliveries s.tag ≡ progress_in (entry_at kept s.tag) = ap (λ m. entry_at m s.tag) is ∙ progress_at kept s.tag in
    let Holds : Option Kept → Type 0 = λ o. IsSomeAnd o (λ k. CanReceive k.progress.held id s.frame × (entry_at w.receiver.unsettled s.tag ≡ receiver_entry k.progress.held)) in
    let each : (o : Option Kept) → IsSomeAnd (progress_in o) (λ p. CanReceive p.held id s.frame)
    → IsKeptAs (is_together w.phase) s.tag (entry_at w.ledger.link.unsettled s.tag) (entry_at w.resuming s.tag) (progress_in o) (entry_at w.receiver.unsettled s.tag) (frames_of s.tag w.wire) (fates_of s.tag w.ledger.records)
    → Holds o =
    λ o. elim o as (λ o. IsSomeAnd (progress_in o) (λ p. CanReceive p.held id s.frame)
    → IsKeptAs (is_together w.phase) s.tag (entry_at w.ledger.link.unsettled s.tag) (entry_at w.resuming s.tag) (progress_in o) (entry_at w.receiver.unsettled s.tag) (frames_of s.tag w.wire) (fates_of s.tag w.ledger.records)
    → Holds o) [
      | None ↦ λ can k. can
      | Some k ↦ λ can kept. (can, reported_as_held (is_together w.phase) s.tag (entry_at w.ledger.link.unsettled s.tag) (entry_at w.resuming s.tag) k.progress (entry_at w.receiver.unsettled s.tag) (frames_of s.tag w.wire) (fates_of s.tag w.ledger.records) kept)
    ] in
    subst (λ t. IsSomeAnd (entry_at kept t) (λ k. CanReceive k.progress.held id s.frame × (entry_at w.receiver.unsettled t ≡ receiver_entry k.progress.held))) (sym same)
    (each (entry_at kept s.tag)
    (subst (λ q. IsSomeAnd q (λ p. CanReceive p.held id s.frame)) at (IsWorld-receives w s rest id world wire carries))
    (subst (λ q. IsKeptAs (is_together w.phase) s.tag (entry_at w.ledger.link.unsettled s.tag) (entry_at w.resuming s.tag) q (entry_at w.receiver.unsettled s.tag) (frames_of s.tag w.wire) (fates_of s.tag w.ledger.records)) at (world.each s.tag)))

-- the arrival is a step of the world
pub arrives : (w : World) (kept new : Entries Kept) (after told : Receiver Target) (s : OnWire) (rest : List OnWire) (id : ℕ) (tag : Tag) (place : ℕ × ℕ) (whole : Bool)
    → w.deliveries ≡ progress_of kept → w.wire ≡ s ∷ rest → (performative_of s.frame).aborted ≡ false → tag ≡ s.tag → IsReceived kept w.receiver tag id s.frame place whole new after
    → told ≡ record after { more = (performative_of s.frame).more }
    → Arrives w id tag place whole (record w { receiver = told; deliveries = progress_of new; wire = rest })
arrives w kept new after told s rest id tag place whole is wire carries same got to =
    let before : Kept = got.before in
    record {
      first = s;
      rest = rest;
      before = before.progress;
      taken = wire;
      carries = carries;
      tagged = same;
      known = ap (λ m. entry_at m tag) is ∙ known_at kept tag before got.known;
      reported = got.reported;
      ends = got.ends;
      world = ap (λ r. record w { receiver = r; deliveries = progress_of new; wire = rest }) to ∙ (λ i. record w {
        receiver = record (got.receiver i) { more = (performative_of s.frame).more };
        deliveries = (ap progress_of got.map ∙ progress_of-put kept tag (kept_after before id s.frame) ∙ ap (λ m. with_entry m tag (received before.progress id s.frame)) (sym is)) i;
        wire = rest;
      });
    }

-- the arrival of an abort is a step of the world
pub abort_comes : (w : World) (kept new : Entries Kept) (after told : Receiver Target) (s : OnWire) (rest : List OnWire) (tag : Tag)
    → w.deliveries ≡ progress_of kept → w.wire ≡ s ∷ rest → (performative_of s.frame).aborted ≡ true → tag ≡ s.tag → new ≡ without_entry kept tag
    → after ≡ record w.receiver { unsettled = without_entry w.receiver.unsettled tag }
    → told ≡ record after { more = (performative_of s.frame).more }
    → AbortArrives w tag (record w { receiver = told; deliveries = progress_of new; wire = rest })
abort_comes w kept new after told s rest tag is wire aborts same gone report to = record {
  first = s;
  rest = rest;
  taken = wire;
  aborts = aborts;
  tagged = same;
  world = ap (λ r. record w { receiver = r; deliveries = progress_of new; wire = rest }) to ∙ (λ i. record w {
    receiver = record (report i) { more = (performative_of s.frame).more };
    deliveries = (ap progress_of gone ∙ progress_of-removed kept tag ∙ ap (λ m. without_entry m tag) (sym is)) i;
    wire = rest;
  });
}

-- whether the next transfer aborts its delivery
pub aborts_first : (wire : List OnWire) (s : OnWire) (rest : List OnWire) → wire ≡ s ∷ rest → aborts_next wire ≡ (performative_of s.frame).aborted
aborts_first wire s rest is = ap aborts_next is

-- a frame that can be received, or that aborts a delivery, is a transfer
pub received_is_transfer : (held : Option Held) (id : ℕ) (f : LinkFrame) → CanReceive held id f → IsSome (link_transfer f)
received_is_transfer None id (FirstTransfer x) can = refl
received_is_transfer (Some h) id (FirstTransfer x) can = refl
received_is_transfer (Some h) id (TransferContinuation x) can = refl
received_is_transfer None id (TransferContinuation x) can = absurd can
received_is_transfer None id (RemoteTransfer x) can = absurd can
received_is_transfer (Some h) id (RemoteTransfer x) can = absurd can
received_is_transfer None id (Attach x) can = absurd can
received_is_transfer (Some h) id (Attach x) can = absurd can
received_is_transfer None id (Flow x) can = absurd can
received_is_transfer (Some h) id (Flow x) can = absurd can
received_is_transfer None id (Disposition x) can = absurd can
received_is_transfer (Some h) id (Disposition x) can = absurd can
received_is_transfer None id (Detach x) can = absurd can
received_is_transfer (Some h) id (Detach x) can = absurd can

pub kept_is_transfer : (o : Option Kept) (id : ℕ) (f : LinkFrame) (P : Kept → Type 0) → IsSomeAnd o (λ k. CanReceive k.progress.held id f × P k) → IsSome (link_transfer f)
kept_is_transfer None id f P can = absurd can
kept_is_transfer (Some k) id f P can = received_is_transfer k.progress.held id f can.0

pub aborted_is_transfer : (f : LinkFrame) → (performative_of f).aborted ≡ true → IsSome (link_transfer f)
aborted_is_transfer (FirstTransfer x) aborts = refl
aborted_is_transfer (TransferContinuation x) aborts = refl
aborted_is_transfer (RemoteTransfer x) aborts = refl
aborted_is_transfer (Attach x) aborts = absurd (false_is_not_true aborts)
aborted_is_transfer (Flow x) aborts = absurd (false_is_not_true aborts)
aborted_is_transfer (Disposition x) aborts = absurd (false_is_not_true aborts)
aborted_is_transfer (Detach x) aborts = absurd (false_is_not_true aborts)
