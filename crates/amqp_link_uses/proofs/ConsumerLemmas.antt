-- A message that a consumer takes in has the bytes that were held and those of its last transfer.
use Rattle.std.proofs.Common.{◌≡◌, ◌∙◌, ◌++◌, subst, sym, Bool, true, false, Option, Some, None, Result, Ok, Err, ℕ, List}
use Rattle.std.specs.Prelude.{IfOk, IfSome, IsSomeAnd, if◌then◌else◌}
use Rattle.amqp_link.specs.Bytes.{IsHeld, bytes_at, bytes_before}
use Rattle.amqp_link.specs.Deliveries.{Delivered}
use Rattle.amqp_link.specs.Entries.{Tag}
use Rattle.amqp_link.specs.Inboxes.{Arrives, InboxState, is_new, resumed_at, store_of, tag_of}
use Rattle.amqp_link.specs.declared.inbox.Arrived.{Arrived}
use Rattle.amqp_link.specs.declared.inbox.Arrival.TheVariants.{Complete}
use Rattle.amqp_link.specs.declared.types.Transfer.{Transfer}
use Rattle.amqp_link.specs.declared.types.Whole.{Whole}

some_is : {X : Type 0} (x y : X) → Some x ≡ Some y → x ≡ y
some_is x y h = cc

-- the delivery that a transfer has completed
completed_by : {T : Type 0} (old now : InboxState T) (t : Transfer) (bytes body : List ℕ) (came : Arrived) → Arrives old t bytes came now
    → ((tag : Tag) → tag_of old t ≡ Some tag
    → IsHeld came.arrival tag (bytes_before (is_new old t) (resumed_at old t) (bytes_at old.deliveries tag) ++ bytes) (store_of old) (store_of now))
    → came.arrival ≡ Complete → IsSomeAnd came.tag (λ tag. bytes_at now.deliveries tag ≡ Some body)
    → IsSomeAnd (tag_of old t) (λ tag. body ≡ bytes_before (is_new old t) (resumed_at old t) (bytes_at old.deliveries tag) ++ bytes)
completed_by {T} old now t bytes body came a law complete held =
    subst (λ o. IsSomeAnd o (λ tag. body ≡ bytes_before (is_new old t) (resumed_at old t) (bytes_at old.deliveries tag) ++ bytes)) (sym a.tag_is)
    (by t.more (subst (λ o. IsSomeAnd o (λ tag. bytes_at now.deliveries tag ≡ Some body)) a.last held))
  where
    whole : bytes_at now.deliveries a.tag ≡ Some (bytes_before (is_new old t) (resumed_at old t) (bytes_at old.deliveries a.tag) ++ bytes)
    whole = subst (λ c. IsHeld c a.tag (bytes_before (is_new old t) (resumed_at old t) (bytes_at old.deliveries a.tag) ++ bytes) (store_of old) (store_of now)) complete (law a.tag a.tag_is)

    by : (more : Bool) → IsSomeAnd (if more then None else Some a.tag) (λ tag. bytes_at now.deliveries tag ≡ Some body)
        → body ≡ bytes_before (is_new old t) (resumed_at old t) (bytes_at old.deliveries a.tag) ++ bytes
    by true h = absurd h
    by false h = some_is _ _ (sym h ∙ whole)

-- what is handed out, if it is
pub message_of : {T E : Type 0} (old now : InboxState T) (t : Transfer) (bytes : List ℕ) (came : Arrived) (r : Result (Option (Delivered Whole)) E)
    → Arrives old t bytes came now
    → ((tag : Tag) → tag_of old t ≡ Some tag
    → IsHeld came.arrival tag (bytes_before (is_new old t) (resumed_at old t) (bytes_at old.deliveries tag) ++ bytes) (store_of old) (store_of now))
    → IfOk r (λ message. IfSome message (λ d. (came.arrival ≡ Complete) × IsSomeAnd came.tag (λ tag. bytes_at now.deliveries tag ≡ Some d.message.body.0)))
    → IfOk r (λ message. IfSome message (λ d. IsSomeAnd (tag_of old t)
    (λ tag. d.message.body.0 ≡ bytes_before (is_new old t) (resumed_at old t) (bytes_at old.deliveries tag) ++ bytes)))
message_of old now t bytes came (Ok (Some d)) a law h = completed_by old now t bytes d.message.body.0 came a law h.0 h.1
message_of old now t bytes came (Ok None) a law h = tt
message_of old now t bytes came (Err e) a law h = tt
