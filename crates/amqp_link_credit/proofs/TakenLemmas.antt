-- A frame that arrives is not refused, memory aside.
use Rattle.std.proofs.Common.{◌≡◌, ap, ◌∙◌, refl, ℕ, ◌+◌, ◌<◌, ◌≤◌, ◌^◌, arith, Bool, true, false, cond, ◌||◌, ◌&&◌, List, [], ◌∷◌, ◌++◌, length, inl, inr, ◌⊎◌, Ok}
use Rattle.std.specs.Prelude.{Option, Some, None, is_some, is_none, IsSome, option_map, nat_eq, nat_le, not, ◌==◌}
use Rattle.std.specs.List.{AllByRecursion, range_with_len}
use Rattle.std.specs.Str.{bytes_eq}
use Rattle.std.proofs.lemmas.Bool.Decides.{nat_tests}
use Rattle.std.proofs.lemmas.List.Sums.{length-filter, count_by-le-length}
use Rattle.std.proofs.lemmas.List.FromFn.{length-range_with_len}
use Rattle.amqp_link_payloads.specs.Position.{position, starts, is_header_at}
use Rattle.amqp_link_payloads.specs.declared.message.Message.{Message}
use Rattle.amqp_link_types.specs.Refusals.{refusal}
use Rattle.amqp_link_types.specs.declared.frame.LinkFrame.{LinkFrame}
use Rattle.amqp_link_types.specs.declared.frame.LinkFrame.TheVariants.{Attach, Flow, RemoteTransfer, FirstTransfer, TransferContinuation, Disposition, Detach}
use Rattle.amqp_link_types.specs.declared.types.definitions.ReceiverSettleMode.{ReceiverSettleMode}
use Rattle.amqp_link_types.specs.declared.types.definitions.ReceiverSettleMode.TheVariants.{First, Second}
use Rattle.amqp_link_types.specs.declared.types.errors.ReceiverTransferError.TheVariants as error
use Rattle.amqp_link_types.specs.declared.types.performatives.LinkFlow.{LinkFlow}
use Rattle.amqp_link_types.specs.declared.types.terminus.Target.{Target}
use Rattle.amqp_link_types.specs.declared.types.transfer.Transfer.{Transfer}
use Rattle.amqp_link_core.specs.Held.{Held, held_bytes}
use Rattle.amqp_link_payloads.specs.Sections.{is_too_long}
use Rattle.amqp_link_core.specs.IncompleteRefusals.{differs, is_inconsistent}
use Rattle.amqp_link_sender.specs.Senders.{Sender}
use Rattle.amqp_link_receiver.specs.Receivers.{Receiver}
use Rattle.amqp_link_receiver.specs.ReceiverDeliveries.{is_settled}
use Rattle.amqp_link_receiver.specs.Completing.{may_receive, is_illegal_mode, link_refusal, transfer_refusal, delivery_refusal, completion_refusal, leaving, entered, spent}
use Rattle.amqp_link_endpoint.specs.AttachTests.{first_of}
use Rattle.amqp_link_worlds.specs.Invariants.{IsContinuing}
use Rattle.amqp_link_worlds.specs.Receiving.{CanReceive}
use Rattle.amqp_link_worlds.specs.Steps.{held_after}
use Rattle.amqp_link_credit.specs.CreditCalls.{IsTransfer}
use Rattle.amqp_link_credit.specs.CreditWorlds.{CreditWorld, AreAttached, IsCreditWorld}
use Rattle.amqp_link_credit.specs.CreditDeliveries.{part_of, deliveries, FollowsOn, AreComplete, HasIdAndTag}
use Rattle.amqp_link_credit.proofs.RunLemmas.{whole_here, short_here, next_of, run_covers}
use Rattle.amqp_link_credit.proofs.WayLemmas.{IsShort, short-next, named-received}

-- ---- what arrives is a flow, or a transfer

more_or_not : (more : Bool) → (more ≡ true) ⊎ (more ≡ false)
more_or_not true = inl refl
more_or_not false = inr refl

pub IsFrame : LinkFrame → Type 0
IsFrame f = ((flow : LinkFlow) × (f ≡ Flow flow)) ⊎ (IsTransfer f true ⊎ IsTransfer f false)

pub which_frame : (begun : Bool) (f : LinkFrame) (rest : List LinkFrame) → AreComplete begun (f ∷ rest) → IsFrame f
unfolding IsFrame
which_frame begun (Flow flow) rest w = inl (flow, refl)
which_frame begun (FirstTransfer x) rest w = inr (more_or_not x.performative.more)
which_frame begun (TransferContinuation x) rest w = inr (more_or_not x.performative.more)
which_frame begun (RemoteTransfer x) rest w = inr (more_or_not x.performative.more)
which_frame true (Attach x) rest w = absurd w.0
which_frame false (Attach x) rest w = absurd w.0
which_frame true (Disposition x) rest w = absurd w.0
which_frame false (Disposition x) rest w = absurd w.0
which_frame true (Detach x) rest w = absurd w.0
which_frame false (Detach x) rest w = absurd w.0

-- ---- it can be held

few_starts : (F : List ℕ) → length (starts F) ≤ length F + 1
unfolding starts
few_starts F =
    let p = is_header_at F in
    omega (arith, length-filter p (range_with_len 1 (length F)), count_by-le-length p (range_with_len 1 (length F)), length-range_with_len 1 (length F))

neither : (a b n : ℕ) → n < 2 ^ 32 → a ≤ n → b ≤ n → (nat_le (2 ^ 64) b || nat_le (2 ^ 32) a) ≡ false
neither a b n h ha hb = grind (arith, nat_tests)

small_counts : (bytes : List ℕ) → length bytes < 2 ^ 32 → is_too_long bytes ≡ false
small_counts bytes h =
    neither (position bytes).0 (length bytes) (length bytes) h (omega (arith, few_starts bytes)) (omega arith)

none_of_one : {E : Type 0} (a : Bool) (p : E) → a ≡ false → refusal ((a, p) ∷ []) ≡ None
none_of_one a p h = rw h refl

alike : {A : Type 0} (same : A → A → Bool) (o : Option A) → differs same o None ≡ false
alike same None = refl
alike same (Some a) = refl

consistent : (old t : Transfer) → IsContinuing t → is_inconsistent old t ≡ false
consistent old t next = rw (next.id, next.tag, next.silent.format, alike bytes_eq old.delivery_tag, alike nat_eq old.delivery_id, alike nat_eq old.message_format) refl

two_none : {E : Type 0} (a b : Bool) (p q : E) → a ≡ false → b ≡ false → refusal ((a, p) ∷ (b, q) ∷ []) ≡ None
two_none a b p q h k = rw (h, k) refl

three_none : {E : Type 0} (a b c : Bool) (p q r : E) → a ≡ false → b ≡ false → c ≡ false → refusal ((a, p) ∷ (b, q) ∷ (c, r) ∷ []) ≡ None
three_none a b c p q r h k l = rw (h, k, l) refl

there : {A : Type 0} (o : Option A) → IsSome o → is_none o ≡ false
there (Some a) h = refl
there None h = absurd (cc)

receives : (h : Option Held) (id : ℕ) (f : LinkFrame) (rest : List LinkFrame) → FollowsOn (is_some h) f → AllByRecursion IsShort (deliveries (option_map part_of h) (f ∷ rest)) → CanReceive h id f
receives None id (FirstTransfer x) rest next a =
    three_none _ _ _ error.DeliveryIdIsNone error.DeliveryTagIsNone error.PayloadTooLong refl (there x.performative.delivery_tag next.tag) (small_counts x.payload (short-next None false (FirstTransfer x) rest next a))
receives (Some held) id (TransferContinuation x) rest next a = (
  next,
  two_none _ _ error.InconsistentFieldInMultiFrameDelivery error.PayloadTooLong (consistent held.performative x.performative next) (small_counts (held_bytes held ++ x.payload) (short-next (Some (part_of held)) true (TransferContinuation x) rest next a)),
)
receives None id _ rest next a = absurd next
receives (Some held) id _ rest next a = absurd next

-- the receiver can hold a transfer that arrives
pub run_receives : (w : CreditWorld) (f : LinkFrame) (rest : List LinkFrame) (id : ℕ) (more : Bool) → IsCreditWorld w → w.forward ≡ f ∷ rest → IsTransfer f more → CanReceive w.held id f
run_receives w f rest id more k taken t =
    receives w.held id f rest (next_of (is_some w.held) f rest more (whole_here w k f rest taken) t).0 (short_here w k f rest taken)

-- ---- it can be handed out

some_credit : (n : ℕ) → 0 < n → (n == 0) ≡ false
some_credit n h = grind (arith, nat_tests)

asks_nothing : (settled : Bool) (mode : ReceiverSettleMode) → (not settled && is_illegal_mode mode None) ≡ false
asks_nothing true mode = refl
asks_nothing false First = refl
asks_nothing false Second = refl

none_left : {X : Type 0} (a b c : Option X) → a ≡ None → b ≡ None → c ≡ None → first_of (a ∷ b ∷ c ∷ []) ≡ None
none_left a b c h k l = rw (h, k, l) refl

pub no_completion_refusal : {B : Type 0} (s : Sender Target) (r : Receiver Target) (t : Transfer) (n off : ℕ) (message : Message B) → AreAttached s r → 0 < r.flow_state.link_credit → HasIdAndTag t
    → completion_refusal r t n off (Ok message) ≡ None
no_completion_refusal s r t n off message a credit named =
    let link : link_refusal r ≡ None = two_none _ _ _ _ (ap (λ state. not (may_receive state)) a.receiver_state) (some_credit r.flow_state.link_credit credit) in
    let transfer : transfer_refusal r t ≡ None = three_none _ _ _ _ _ _ (there t.delivery_id named.id) (there t.delivery_tag named.tag)
    (ap (λ mode. not (is_settled t) && is_illegal_mode r.rcv_settle_mode mode) named.mode ∙ asks_nothing (is_settled t) r.rcv_settle_mode) in
    let delivery : delivery_refusal r t (Ok message) ≡ None = ap (λ o. cond (is_none o) (Some error.IllegalState) None) a.receiver_output in
    none_left _ _ _ (ap (leaving r) link) (ap (leaving (spent r)) transfer) (ap (leaving (entered t n off r)) delivery)

-- a complete delivery is refused only if the receiver is out of memory
pub run_completes : {B : Type 0} (w : CreditWorld) (f : LinkFrame) (rest : List LinkFrame) (id n off : ℕ) (message : Message B) → IsCreditWorld w → w.forward ≡ f ∷ rest → IsTransfer f false
    → completion_refusal w.receiver (held_after w.held id f).performative n off (Ok message) ≡ None
run_completes w f rest id n off message k taken t =
    let next = next_of (is_some w.held) f rest false (whole_here w k f rest taken) t in
    no_completion_refusal w.sender w.receiver (held_after w.held id f).performative n off message k.attached
    (run_covers w k f rest taken t)
    (named-received w.held id f k.named next.0)
