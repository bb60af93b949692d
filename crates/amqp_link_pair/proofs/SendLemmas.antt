-- A pair's sender has no reason to refuse a new delivery but memory.
use Rattle.std.proofs.Common.{◌≡◌, ◌∙◌, sym, ap, subst, ℕ, ◌<◌, Bool, false, ◌&&◌, not, List, [], ◌∷◌, length, refl, None, Some, Result, Err, arith, ◌==◌, inl, inr}
use Rattle.std.specs.Prelude.{is_some, is_none, unwrap_or}
use Rattle.std.proofs.lemmas.Bool.Decides.{nat_tests}
use Rattle.amqp_link_types.specs.Entries.{entry_at}
use Rattle.amqp_link_types.specs.Refusals.{refusal}
use Rattle.amqp_link_types.specs.declared.types.errors.LinkStateError.{LinkStateError}
use Rattle.amqp_link_types.specs.declared.types.errors.LinkStateError.TheVariants as error
use Rattle.amqp_link_types.specs.declared.types.terminus.Target.{Target}
use Rattle.amqp_link_split.specs.Room.{has_room}
use Rattle.amqp_link_sender.specs.Senders.{SendAnswersThenOutOfMemory, Sender, Delivery, SendStop, payload_tests, next_tag, new_transfer, delivery_of, settled_by_mode}
use Rattle.amqp_link_sender.specs.declared.sender_link.Sending.{Sending}
use Rattle.amqp_link_ledger.proofs.ListSteps.{some_is_none}
use Rattle.amqp_link_worlds.specs.Callable.{CanSend}
use Rattle.amqp_link_worlds.specs.Steps.{delivery_transfer, zero_output}
use Rattle.amqp_link_worlds.proofs.CallLemmas.{new_transfer_is}
use Rattle.amqp_link_worlds.proofs.DeliveryLemmas.{has_room-delivery}

-- what a pair states of each delivery
abbrev pub unsettled_delivery : Delivery
unsettled_delivery = delivery_of 0 (Some false) None false

none_of : {E : Type 0} (a b c d e : Bool) (p q r s t : E) → a ≡ false → b ≡ false → c ≡ false → d ≡ false → e ≡ false
    → refusal ((a, p) ∷ (b, q) ∷ (c, r) ∷ (d, s) ∷ (e, t) ∷ []) ≡ None
none_of a b c d e p q r s t ha hb hc hd he = rw (ha, hb, hc, hd, he) refl

some_credit : (n : ℕ) → 0 < n → (n == 0) ≡ false
some_credit n h = grind (arith, nat_tests)

length-next_tag : (s : Sender Target) → length (next_tag s) ≡ 4
length-next_tag s = grind arith

-- no test of the sender refuses it
pub no_refusal : (s : Sender Target) (payload : List ℕ) → CanSend s → refusal (payload_tests s unsettled_delivery payload) ≡ None
no_refusal s payload k =
    let t : new_transfer s (unwrap_or s.output_handle zero_output) (next_tag s) unsettled_delivery ≡ delivery_transfer (next_tag s) false =
    ap (λ o. new_transfer s (unwrap_or o zero_output) (next_tag s) unsettled_delivery) k.output ∙ new_transfer_is s (next_tag s) k.mode in
    none_of _ _ _ _ _ _ _ _ _ _
    (ap is_none k.output)
    (ap is_none k.input)
    (some_credit s.flow_state.link_credit k.credit)
    (ap (λ m. not (settled_by_mode m (Some false)) && is_some (entry_at s.unsettled (next_tag s))) k.mode ∙ ap is_some k.free)
    (ap (λ t. not (has_room t s.max_frame_size payload)) t ∙ ap not (has_room-delivery (next_tag s) false s.max_frame_size payload (length-next_tag s) k.room))

-- so that its error is that of a full memory
pub only_memory : (r : Result Sending LinkStateError) (e : LinkStateError) (tests : List (Bool × SendStop)) → r ≡ Err e
    → SendAnswersThenOutOfMemory r tests → refusal tests ≡ None → e ≡ error.OutOfMemory
only_memory r e tests is a none =
    let P : Result Sending LinkStateError → Type 0 = λ r. SendAnswersThenOutOfMemory r tests in
    elim (subst P is a) as (λ _. e ≡ error.OutOfMemory) [
      | inl memory ↦ memory.0
      | inr stop ↦ absurd (some_is_none (sym stop ∙ none))
    ]
