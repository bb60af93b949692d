-- What is kept of a delivery, as a call changes it.
use Rattle.std.proofs.Common.{◌≡◌, ◌∙◌, ap, sym, subst, ℕ, Bool, List, [], ◌∷◌, ◌++◌, Some, None}
use Rattle.std.specs.Prelude.{Result, Ok, Err, IfOk, IfErr, OnOk, OnErr, if◌then◌else◌}
use Rattle.std.specs.Map.{set_value}
use Rattle.std.specs.Str.{bytes_eq}
use Rattle.amqp_link_payloads.specs.Position.{position}
use Rattle.amqp_link_payloads.specs.declared.error.DecodeError.{DecodeError}
use Rattle.amqp_link_payloads.specs.declared.message.Message.{Message}
use Rattle.amqp_link_types.specs.Deliveries.{Delivered}
use Rattle.amqp_link_types.specs.Entries.{Tag, Entries, entry_at, with_entry}
use Rattle.amqp_link_types.specs.Frames.{payload_of}
use Rattle.amqp_link_types.specs.Refusals.{refusal}
use Rattle.amqp_link_types.specs.declared.frame.LinkFrame.{LinkFrame}
use Rattle.amqp_link_types.specs.declared.frame.LinkFrame.TheVariants.{FirstTransfer, TransferContinuation}
use Rattle.amqp_link_types.specs.declared.types.terminus.Target.{Target}
use Rattle.amqp_link_types.specs.declared.types.transfer.Transfer.{Transfer}
use Rattle.amqp_link_types.proofs.EntriesLemmas.{with_entry-present}
use Rattle.amqp_link_types.proofs.MapLemmas.{put-twice, put-same}
use Rattle.amqp_link_core.specs.Held.{Held}
use Rattle.amqp_link_core.specs.IncompleteRefusals.{add_tests}
use Rattle.amqp_link_core.specs.Merging.{Came, Merged, IsSilent, opening, resumed}
use Rattle.amqp_link_receiver.specs.Receivers.{Receiver}
use Rattle.amqp_link_worlds.proofs.CallLemmas.{fields_resumed}
use Rattle.amqp_link_worlds.specs.Invariants.{IsContinuing}
use Rattle.amqp_link_worlds.specs.Receiving.{CanReceive, transfer_arriving}
use Rattle.amqp_link_worlds.specs.Steps.{received, held_after}
use Rattle.amqp_link_worlds.specs.Wires.{does_begin}
use Rattle.amqp_link_worlds.specs.Worlds.{bytes_in}
use Rattle.amqp_link_worlds.specs.declared.error.PairError.{PairError}
use Rattle.amqp_link_worlds.specs.declared.error.PairError.TheVariants as error
use Rattle.amqp_link_pair.specs.HandingOut.{IsGiven, IsGivenAt, LeftByKept, LeftByDeliveries}
use Rattle.amqp_link_pair.specs.Keeping.{IsReceived, kept_after, with_report}
use Rattle.amqp_link_pair.specs.declared.deliveries.Kept.{Kept}

module _ {V : Type 0} where
  -- a write to what is there is a put
  pub put_in_place : (inside m : Entries V) (tag : Tag) (before after : V) (new : Entries V) → inside ≡ m → entry_at m tag ≡ Some before
      → new ≡ set_value (bytes_eq tag) inside after → new ≡ with_entry m tag after
  put_in_place inside m tag before after new seen known written =
      written ∙ with_entry-present inside tag before after (ap (λ es. entry_at es tag) seen ∙ known) ∙ ap (λ es. with_entry es tag after) seen

  -- put in the place of what was there, and that put back
  pub put_back_same : (old mid new : Entries V) (tag : Tag) (before blank : V) → entry_at old tag ≡ Some before → mid ≡ with_entry old tag blank
      → new ≡ with_entry mid tag before → new ≡ old
  put_back_same old mid new tag before blank known put back =
      back ∙ ap (λ m. with_entry m tag before) put ∙ put-twice old tag blank before ∙ put-same old tag before known

-- what is held once a further transfer has arrived: a first one resumes it, a continuation changes no field
pub held_added : {A E : Type 0} (r : Result A E) (old new : Held) (f : LinkFrame) (id : ℕ) (opens : Bool) (t : Transfer) (bytes : List ℕ)
    → CanReceive (Some old) id f → does_begin f ≡ opens → t ≡ transfer_arriving id f → bytes ≡ payload_of f
    → OnOk r ((came : List Came) → Merged came old.performative → Merged (came ++ record { opens = opens; transfer = t } ∷ []) new.performative)
    → OnOk r (IsSilent t → new.performative ≡ (if opens then resumed old.performative t else old.performative))
    → OnOk r (new.pieces ≡ old.pieces ++ bytes ∷ [])
    → OnOk r (new ≡ held_after (Some old) id f)
held_added (Err e) old new f id opens t bytes can turn is same merged silent pieces = tt
held_added (Ok a) old new (FirstTransfer x) id opens t bytes can turn is same merged silent pieces =
    let came : (came : List Came) → Merged came old.performative → Merged (came ++ opening (record x.performative { delivery_id = Some id }) ∷ []) new.performative =
    λ came has. subst (λ c. Merged (came ++ c ∷ []) new.performative) (λ i. record { opens = sym turn i; transfer = is i }) (merged came has) in
    let fields : new.performative ≡ record old.performative { delivery_id = Some id } = fields_resumed old.performative x.performative new.performative id can.0 came in
    let bytes_are : new.pieces ≡ old.pieces ++ x.payload ∷ [] = pieces ∙ ap (λ b. old.pieces ++ b ∷ []) same in
    λ i. record { performative = fields i; pieces = bytes_are i }
held_added (Ok a) old new (TransferContinuation x) id opens t bytes can turn is same merged silent pieces =
    let continuing : IsContinuing x.performative = can.0 in
    let fields : new.performative ≡ old.performative =
    silent (subst IsSilent (sym is) continuing.silent) ∙ ap (λ b. if b then resumed old.performative t else old.performative) (sym turn) in
    let bytes_are : new.pieces ≡ old.pieces ++ x.payload ∷ [] = pieces ∙ ap (λ b. old.pieces ++ b ∷ []) same in
    λ i. record { performative = fields i; pieces = bytes_are i }
held_added (Ok a) old new _ id opens t bytes can turn is same merged silent pieces = absurd can

-- no test refuses it
pub can_add : (old : Held) (f : LinkFrame) (id : ℕ) (opens : Bool) (t : Transfer) (bytes : List ℕ) → CanReceive (Some old) id f → does_begin f ≡ opens
    → t ≡ transfer_arriving id f → bytes ≡ payload_of f → refusal (add_tests opens old t bytes) ≡ None
can_add old (FirstTransfer x) id opens t bytes can turn is same = (λ i. refusal (add_tests (sym turn i) old (is i) (same i))) ∙ can.1
can_add old (TransferContinuation x) id opens t bytes can turn is same = (λ i. refusal (add_tests (sym turn i) old (is i) (same i))) ∙ can.1
can_add old _ id opens t bytes can turn is same = absurd can

-- a change of what is kept of a delivery is one of the map
module _ (old new : Entries Kept) (tag : Tag) (before after : Kept) (r r2 : Receiver Target)
    (known : entry_at old tag ≡ Some before) (put : new ≡ with_entry old tag after) where
  -- what stays as it was leaves the map as it was
  stays : after ≡ before → new ≡ old
  stays e = put ∙ ap (with_entry old tag) e ∙ put-same old tag before known

  -- a transfer has arrived
  pub received_in : {E : Type 0} (result : Result (ℕ × ℕ × Bool) E) (id : ℕ) (frame : LinkFrame) → OnOk result (after ≡ kept_after before id frame)
      → IfOk result (λ came. (came.0, came.1) ≡ position (bytes_in before.progress.held ++ payload_of frame))
      → IfOk result (λ came. came.2 ≡ (received before.progress id frame).whole)
      → IfOk result (λ came. r2 ≡ with_report tag (came.0, came.1) r)
      → IfOk result (λ came. IsReceived old r tag id frame (came.0, came.1) came.2 new r2)
  received_in (Err e) id frame d p w m = tt
  received_in (Ok came) id frame d p w m = record {
    before = before;
    known = known;
    reported = p;
    ends = w;
    map = put ∙ ap (with_entry old tag) d;
    receiver = m;
  }

  -- or it was refused
  pub left_in : {A E : Type 0} (result : Result A E) → OnErr result ((after ≡ before) × (r2 ≡ r)) → OnErr result ((new ≡ old) × (r2 ≡ r))
  left_in (Ok a) l = tt
  left_in (Err e) l = (stays l.0, l.1)

  -- it was handed out
  pub given_in : {B E : Type 0} (decoded : List ℕ → Result (Message B) DecodeError) (result : Result (Delivered B) E)
      → IfOk result (λ delivery. IsGiven decoded before r delivery after r2)
      → IfOk result (λ delivery. IsGivenAt decoded tag old r delivery new r2)
  given_in decoded (Err e) g = tt
  given_in decoded (Ok delivery) g = record {
    before = before;
    known = known;
    held = g.held;
    holds = g.holds;
    given = g.given;
    map = put ∙ ap (with_entry old tag) g.kept;
    receiver = g.receiver;
  }

  -- what a refusal leaves of the delivery, it leaves of the map
  left_as : (e : PairError) → LeftByKept e before r after r2 → LeftByDeliveries e tag old r new r2
  left_as error.AlreadyAttached l = (stays l.0, l.1)
  left_as error.LimitChanged l = (stays l.0, l.1)
  left_as error.LimitTooSmall l = (stays l.0, l.1)
  left_as error.NotAttached l = (stays l.0, l.1)
  left_as error.ResumeFirst l = (stays l.0, l.1)
  left_as error.PayloadTooLong l = (stays l.0, l.1)
  left_as error.CreditMissing l = (stays l.0, l.1)
  left_as error.TagPending l = (stays l.0, l.1)
  left_as error.WireEmpty l = (stays l.0, l.1)
  left_as error.StillHandedOut l = (stays l.0, l.1)
  left_as error.NothingToResume l = (stays l.0, l.1)
  left_as error.UnknownTag l = (stays l.0, l.1)
  left_as error.NotWhole l = (stays l.0, l.1)
  left_as error.AlreadyWhole l = (stays l.0, l.1)
  left_as error.AlreadyHandedOut l = (stays l.0, l.1)
  left_as error.TransferLimitExceeded l = (stays l.0, l.1)
  left_as error.Decode l = (before, known, put ∙ ap (with_entry old tag) l.0, l.1)
  left_as error.OnWire l = (stays l.0, l.1)
  left_as error.OutOfMemory l = (stays l.0, l.1)

  -- or it was not handed out
  pub not_given_in : {A : Type 0} (result : Result A PairError) → IfErr result (λ e. LeftByKept e before r after r2)
      → IfErr result (λ e. LeftByDeliveries e tag old r new r2)
  not_given_in (Ok a) l = tt
  not_given_in (Err e) l = left_as e l
