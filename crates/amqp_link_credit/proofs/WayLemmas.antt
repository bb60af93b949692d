-- The deliveries under way, as frames come and go.
use Rattle.std.proofs.Common.{◌≡◌, sym, ap, ◌∙◌, subst, refl, ℕ, suc, ◌+◌, ◌<◌, ◌≤◌, ◌^◌, arith, Bool, true, false, cond, List, [], ◌∷◌, ◌++◌, append_assoc, map, length, length-append}
use Rattle.std.specs.Prelude.{ℤ, pos, ◌+ℤ◌, ◌≤ℤ◌, Option, Some, None, is_some, IfSome, option_map, unwrap_or, nat_lt, ◌==◌, slice_index_or, IsSomeAnd}
use Rattle.std.specs.List.{AllByRecursion, concat}
use Rattle.std.proofs.lemmas.List.{append-nil, length-map}
use Rattle.std.proofs.lemmas.List.Folds.{concat-append}
use Rattle.std.proofs.lemmas.Bool.Decides.{nat_tests}
use borrow.Author.Differences.{ints}
use Rattle.amqp_link_core.specs.Held.{Held, held_bytes}
use Rattle.amqp_link_sender.specs.Senders.{Sender, IsSent}
use Rattle.amqp_link_worlds.specs.Steps.{fields_after, held_after}
use Rattle.amqp_link_worlds.specs.Wires.{payload_of_all}
use Rattle.amqp_link_types.specs.declared.types.transfer.Transfer.{Transfer}
use Rattle.amqp_link_types.specs.declared.frame.LinkFrame.{LinkFrame}
use Rattle.amqp_link_types.specs.declared.types.definitions.InputHandle.{InputHandle}
use Rattle.amqp_link_types.specs.declared.frame.LinkFrame.TheVariants.{Attach, Flow, RemoteTransfer, FirstTransfer, TransferContinuation, Disposition, Detach}
use Rattle.amqp_link_types.specs.Frames.{performative_of, payload_of, frame_of, cleared, AreFramesOf}
use Rattle.amqp_link_credit.specs.CreditNumbers.{count_after, LeadsTo}
use Rattle.amqp_link_credit.specs.CreditDeliveries.{Part, with_piece, unfinished, deliveries, part_of, BeginsDelivery, FollowsOn, AreComplete, HasIdAndTag}
use Rattle.amqp_link_credit.proofs.CreditSteps.{count_next}

-- ---- a transfer at the front

pub deliveries-next : (part : Option Part) (begun : Bool) (f : LinkFrame) (frames : List LinkFrame) → FollowsOn begun f
    → deliveries part (f ∷ frames) ≡ cond (performative_of f).more (deliveries (Some (with_piece part f)) frames) (with_piece part f ∷ deliveries None frames)
deliveries-next part false (FirstTransfer x) frames h = refl
deliveries-next part true (TransferContinuation x) frames h = refl
deliveries-next part _ _ frames h = absurd h

pub whole-next : (begun : Bool) (f : LinkFrame) (frames : List LinkFrame) → FollowsOn begun f → AreComplete (performative_of f).more frames → AreComplete begun (f ∷ frames)
whole-next false (FirstTransfer x) frames h w = (h, w)
whole-next true (TransferContinuation x) frames h w = (h, w)
whole-next _ _ frames h w = absurd h

-- ---- more at the end

pub whole-append : (begun : Bool) (xs ys : List LinkFrame) → AreComplete begun xs → AreComplete false ys → AreComplete begun (xs ++ ys)
whole-append begun [] ys w v = subst (λ b. AreComplete b ys) (sym w) v
whole-append begun (Flow x ∷ xs) ys w v = (w.0, whole-append begun xs ys w.1 v)
whole-append begun (Attach x ∷ xs) ys w v = (w.0, whole-append false xs ys w.1 v)
whole-append begun (RemoteTransfer x ∷ xs) ys w v = (w.0, whole-append x.performative.more xs ys w.1 v)
whole-append begun (FirstTransfer x ∷ xs) ys w v = (w.0, whole-append x.performative.more xs ys w.1 v)
whole-append begun (TransferContinuation x ∷ xs) ys w v = (w.0, whole-append x.performative.more xs ys w.1 v)
whole-append begun (Disposition x ∷ xs) ys w v = (w.0, whole-append false xs ys w.1 v)
whole-append begun (Detach x ∷ xs) ys w v = (w.0, whole-append false xs ys w.1 v)

Appends : List LinkFrame → List LinkFrame → Type 0
Appends xs ys = (part : Option Part) → AreComplete (is_some part) xs → deliveries part (xs ++ ys) ≡ deliveries part xs ++ deliveries None ys

append-step : (p : Part) (xs ys : List LinkFrame) → Appends xs ys → (more : Bool) → AreComplete more xs
    → cond more (deliveries (Some p) (xs ++ ys)) (p ∷ deliveries None (xs ++ ys)) ≡ cond more (deliveries (Some p) xs) (p ∷ deliveries None xs) ++ deliveries None ys
unfolding Appends
append-step p xs ys step true w = step (Some p) w
append-step p xs ys step false w = ap (λ ds. p ∷ ds) (step None w)

append-none : (part : Option Part) (ys : List LinkFrame) → is_some part ≡ false → deliveries part ys ≡ unfinished part ++ deliveries None ys
append-none None ys h = refl
append-none (Some p) ys h = absurd (cc)

appends : (xs ys : List LinkFrame) → Appends xs ys
unfolding Appends
appends [] ys = λ part w. append-none part ys w
appends (Flow x ∷ xs) ys = λ part w. appends xs ys part w.1
appends (Attach x ∷ xs) ys = λ part w. append-step (with_piece part (Attach x)) xs ys (appends xs ys) false w.1
appends (RemoteTransfer x ∷ xs) ys = λ part w. append-step (with_piece part (RemoteTransfer x)) xs ys (appends xs ys) x.performative.more w.1
appends (FirstTransfer x ∷ xs) ys = λ part w. append-step (with_piece part (FirstTransfer x)) xs ys (appends xs ys) x.performative.more w.1
appends (TransferContinuation x ∷ xs) ys = λ part w. append-step (with_piece part (TransferContinuation x)) xs ys (appends xs ys) x.performative.more w.1
appends (Disposition x ∷ xs) ys = λ part w. append-step (with_piece part (Disposition x)) xs ys (appends xs ys) false w.1
appends (Detach x ∷ xs) ys = λ part w. append-step (with_piece part (Detach x)) xs ys (appends xs ys) false w.1

pub deliveries-append : (part : Option Part) (xs ys : List LinkFrame) → AreComplete (is_some part) xs → deliveries part (xs ++ ys) ≡ deliveries part xs ++ deliveries None ys
unfolding Appends
deliveries-append part xs ys w = appends xs ys part w

-- ---- the frames of one delivery

-- from its first, or a later one, to its last
abbrev pub IsOne : Bool → List LinkFrame → Type 0
IsOne begun [] = ⊥
IsOne begun (f ∷ []) = FollowsOn begun f × ((performative_of f).more ≡ false)
IsOne begun (f ∷ g ∷ frames) = FollowsOn begun f × ((performative_of f).more ≡ true) × IsOne true (g ∷ frames)

pub one-whole : (begun : Bool) (frames : List LinkFrame) → IsOne begun frames → AreComplete begun frames
one-whole begun [] o = absurd o
one-whole begun (f ∷ []) o = whole-next begun f [] o.0 o.1
one-whole begun (f ∷ g ∷ frames) o = whole-next begun f (g ∷ frames) o.0 (subst (λ b. AreComplete b (g ∷ frames)) (sym o.1) (one-whole true (g ∷ frames) o.2))

refl_ℤ : (a : ℤ) → a ≤ℤ a
refl_ℤ a = omega (arith, ints)

less_one : (a : ℤ) → a ≤ℤ (a +ℤ pos 1)
less_one a = omega (arith, ints)

leads-by : (own : ℕ) (count after end : ℤ) (f : LinkFrame) (frames : List LinkFrame) → count_after own count f ≡ after → count ≤ℤ after → LeadsTo own after frames end → LeadsTo own count (f ∷ frames) end
leads-by own count after end f frames e h l = (subst (λ n. count ≤ℤ n) (sym e) h, subst (λ n. LeadsTo own n frames end) (sym e) l)

pub one-leads : (own : ℕ) (count : ℤ) (begun : Bool) (frames : List LinkFrame) → IsOne begun frames → LeadsTo own count frames (count +ℤ pos 1)
one-leads own count begun [] o = absurd o
one-leads own count begun (f ∷ []) o =
    leads-by own count (count +ℤ pos 1) (count +ℤ pos 1) f [] (count_next own count begun f o.0 ∙ ap (λ more. cond more count (count +ℤ pos 1)) o.1) (less_one count) refl
one-leads own count begun (f ∷ g ∷ frames) o =
    leads-by own count count (count +ℤ pos 1) f (g ∷ frames) (count_next own count begun f o.0 ∙ ap (λ more. cond more count (count +ℤ pos 1)) o.1) (refl_ℤ count) (one-leads own count true (g ∷ frames) o.2)

-- what they make
abbrev made : Part → List LinkFrame → Part
made p frames = (p.0, p.1 ++ payload_of_all frames)

one-rest : (p : Part) (frames : List LinkFrame) → IsOne true frames → deliveries (Some p) frames ≡ made p frames ∷ []
one-rest p [] o = absurd o
one-rest p (f ∷ []) o =
    deliveries-next (Some p) true f [] o.0 ∙ ap (λ more. cond more (deliveries (Some (with_piece (Some p) f)) []) (with_piece (Some p) f ∷ [])) o.1
    ∙ ap (λ bytes. (p.0, p.1 ++ bytes) ∷ []) (sym (append-nil (payload_of f)))
one-rest p (f ∷ g ∷ frames) o =
    deliveries-next (Some p) true f (g ∷ frames) o.0
    ∙ ap (λ more. cond more (deliveries (Some (with_piece (Some p) f)) (g ∷ frames)) (with_piece (Some p) f ∷ deliveries None (g ∷ frames))) o.1
    ∙ one-rest (with_piece (Some p) f) (g ∷ frames) o.2
    ∙ ap (λ bytes. (p.0, bytes) ∷ []) (append_assoc p.1 (payload_of f) (payload_of_all (g ∷ frames)))

pub one-made : (f : LinkFrame) (frames : List LinkFrame) → IsOne false (f ∷ frames) → deliveries None (f ∷ frames) ≡ (unwrap_or (performative_of f).delivery_tag [], payload_of_all (f ∷ frames)) ∷ []
one-made f [] o =
    deliveries-next None false f [] o.0 ∙ ap (λ more. cond more (deliveries (Some (with_piece None f)) []) (with_piece None f ∷ [])) o.1
    ∙ ap (λ bytes. (unwrap_or (performative_of f).delivery_tag [], bytes) ∷ []) (sym (append-nil (payload_of f)))
one-made f (g ∷ frames) o =
    deliveries-next None false f (g ∷ frames) o.0
    ∙ ap (λ more. cond more (deliveries (Some (with_piece None f)) (g ∷ frames)) (with_piece None f ∷ deliveries None (g ∷ frames))) o.1
    ∙ one-rest (with_piece None f) (g ∷ frames) o.2

-- ---- the frames of a transfer

-- from frame k of n on
abbrev AreFrames : InputHandle → Transfer → ℕ → ℕ → List LinkFrame → Type 0
AreFrames h t n k [] = k ≡ n
AreFrames h t n k (f ∷ frames) = (f ≡ frame_of h t k n (payload_of f)) × AreFrames h t n (suc k) frames

frames_from : (h : InputHandle) (t : Transfer) (n k : ℕ) (frames : List LinkFrame) → k + length frames ≡ n
    → ((i : ℕ) (d : LinkFrame) → i < length frames → slice_index_or frames i d ≡ frame_of h t (k + i) n (payload_of (slice_index_or frames i d)))
    → AreFrames h t n k frames
frames_from h t n k [] e each = omega arith
frames_from h t n k (f ∷ frames) e each = (
  subst (λ i. f ≡ frame_of h t i n (payload_of f)) (let z : k + 0 ≡ k = omega arith in z) (each 0 f (omega arith)),
  frames_from h t n (suc k) frames (omega arith) (λ i d l. subst (λ j. slice_index_or frames i d ≡ frame_of h t j n (payload_of (slice_index_or frames i d))) (let s : k + suc i ≡ suc k + i = omega arith in s) (each (suc i) d (omega arith))),
)

frames_left : (h : InputHandle) (t : Transfer) (n k : ℕ) (frames : List LinkFrame) → AreFrames h t n k frames → k + length frames ≡ n
frames_left h t n k [] a = omega (arith, a)
frames_left h t n k (f ∷ frames) a = omega (arith, frames_left h t n (suc k) frames a.1)

abbrev first_at : InputHandle → Transfer → ℕ → ℕ → List ℕ → LinkFrame
first_at h t i n p = FirstTransfer (record { input_handle = h; performative = record t { more = nat_lt (i + 1) n }; payload = p })

abbrev next_at : InputHandle → Transfer → ℕ → ℕ → List ℕ → LinkFrame
next_at h t i n p = let c = cleared t in TransferContinuation (record { input_handle = h; performative = record c { more = nat_lt (i + 1) n }; payload = p })

more_of_frame : (h : InputHandle) (t : Transfer) (k n : ℕ) (p : List ℕ) → (performative_of (frame_of h t k n p)).more ≡ nat_lt (k + 1) n
more_of_frame h t k n p =
    elim (k == 0) as (λ b. (performative_of (cond b (first_at h t k n p) (next_at h t k n p))).more ≡ nat_lt (k + 1) n) [ true ↦ refl | false ↦ refl ]

not_zero : (k : ℕ) → (suc k == 0) ≡ false
not_zero k = grind (arith, nat_tests)

not_below : (k n : ℕ) → suc k ≡ n → nat_lt (k + 1) n ≡ false
not_below k n e = grind (arith, nat_tests)

is_below : (k n m : ℕ) → suc (suc k) + m ≡ n → nat_lt (k + 1) n ≡ true
is_below k n m e = grind (arith, nat_tests)

-- a transfer that states nothing and does not abort its delivery
module _ (h : InputHandle) (t : Transfer) (n : ℕ) (silent : t.state ≡ None) (carries : t.aborted ≡ false) where
  goes_on : (k : ℕ) (p : List ℕ) → FollowsOn true (frame_of h t (suc k) n p)
  goes_on k p = subst (λ b. FollowsOn true (cond b (first_at h t (suc k) n p) (next_at h t (suc k) n p))) (sym (not_zero k))
      (record { id = refl; tag = refl; silent = record { format = refl; settled = refl; state = silent }; carries = carries })

  one_from : (begun : Bool) (k : ℕ) (f : LinkFrame) (frames : List LinkFrame) → FollowsOn begun f → AreFrames h t n k (f ∷ frames) → IsOne begun (f ∷ frames)
  one_from begun k f [] next a = (next, ap (λ f. (performative_of f).more) a.0 ∙ more_of_frame h t k n (payload_of f) ∙ not_below k n a.1)
  one_from begun k f (g ∷ frames) next a = (
    next,
    ap (λ f. (performative_of f).more) a.0 ∙ more_of_frame h t k n (payload_of f) ∙ is_below k n (length frames) (frames_left h t n (suc (suc k)) frames a.1.1),
    one_from true (suc k) g frames (subst (FollowsOn true) (sym a.1.0) (goes_on k (payload_of g))) a.1,
  )

-- all frames of an opening transfer make one delivery
pub one_of_frames : (h : InputHandle) (t : Transfer) (frames : List LinkFrame) → t.state ≡ None → t.aborted ≡ false → BeginsDelivery t → 1 ≤ length frames → AreFramesOf h t frames
    → IsOne false frames × (deliveries None frames ≡ (unwrap_or t.delivery_tag [], payload_of_all frames) ∷ [])
one_of_frames h t [] silent carries opens some each = absurd (omega arith)
one_of_frames h t (f ∷ frames) silent carries opens some each =
    let a : AreFrames h t (length (f ∷ frames)) 0 (f ∷ frames) =
    frames_from h t (length (f ∷ frames)) 0 (f ∷ frames) (omega arith) (λ i d l. subst (λ j. slice_index_or (f ∷ frames) i d ≡ frame_of h t j (length (f ∷ frames)) (payload_of (slice_index_or (f ∷ frames) i d))) (let z : i ≡ 0 + i = omega arith in z) (each i d l)) in
    let first : FollowsOn false f = subst (FollowsOn false) (sym a.0) (record { tag = opens.tag; mode = opens.mode }) in
    let one : IsOne false (f ∷ frames) = one_from h t (length (f ∷ frames)) silent carries false 0 f frames first a in
    (one, one-made f frames one ∙ ap (λ tag. (unwrap_or tag [], payload_of_all (f ∷ frames)) ∷ []) (ap (λ f. (performative_of f).delivery_tag) a.0))

joined-concat : (frames : List LinkFrame) → payload_of_all frames ≡ concat (map payload_of frames)
joined-concat [] = refl
joined-concat (f ∷ frames) = ap (λ bytes. payload_of f ++ bytes) (joined-concat frames)

-- what is run_delivery of a handle that is there
at_handle : (P : InputHandle → Type 0) (o : Option InputHandle) (h : InputHandle) → o ≡ Some h → IsSomeAnd o P → P h
at_handle P o h is all = let Q : Option InputHandle → Type 0 = λ o. IsSomeAnd o P in subst Q is all

-- the frames of a payload that was sent make one delivery with that payload
pub one_sent : {T : Type 0} (s : Sender T) (h : InputHandle) (t : Transfer) (payload : List ℕ) (frames : List LinkFrame) → s.input_handle ≡ Some h → t.state ≡ None → t.aborted ≡ false → BeginsDelivery t → IsSent s t payload frames
    → IsOne false frames × (deliveries None frames ≡ (unwrap_or t.delivery_tag [], payload) ∷ [])
one_sent s h t payload frames input silent carries opens sent =
    let each : AreFramesOf h t frames = at_handle (λ handle. AreFramesOf handle t frames) s.input_handle h input sent.each in
    let some : 1 ≤ length frames = omega (arith, sent.split.some, length-map frames payload_of) in
    let one = one_of_frames h t frames silent carries opens some each in
    (one.0, one.1 ∙ ap (λ bytes. (unwrap_or t.delivery_tag [], bytes) ∷ []) (joined-concat frames ∙ sent.split.joined))

-- ---- what is held

fields_tag : (t : Transfer) (id : ℕ) (f : LinkFrame) → (fields_after t id f).delivery_tag ≡ t.delivery_tag
fields_tag t id (FirstTransfer x) = refl
fields_tag t id _ = refl

pub part-received : (h : Option Held) (id : ℕ) (f : LinkFrame) → part_of (held_after h id f) ≡ with_piece (option_map part_of h) f
part-received None id f =
    ap (λ tag. (unwrap_or tag [], payload_of f ++ [])) (fields_tag (performative_of f) id f)
    ∙ ap (λ bytes. (unwrap_or (performative_of f).delivery_tag [], bytes)) (append-nil (payload_of f))
part-received (Some held) id f =
    ap (λ tag. (unwrap_or tag [], concat (held.pieces ++ payload_of f ∷ []))) (fields_tag held.performative id f)
    ∙ ap (λ bytes. (unwrap_or held.performative.delivery_tag [], bytes)) (concat-append held.pieces (payload_of f ∷ []) ∙ ap (λ l. held_bytes held ++ l) (append-nil (payload_of f)))

-- it carries the id and tag of its delivery
pub named-received : (h : Option Held) (id : ℕ) (f : LinkFrame) → IfSome h (λ held. HasIdAndTag held.performative) → FollowsOn (is_some h) f → HasIdAndTag (held_after h id f).performative
named-received None id (FirstTransfer x) named next = record { id = refl; tag = next.tag; mode = next.mode }
named-received (Some held) id (TransferContinuation x) named next = named
named-received (Some held) id _ named next = absurd next
named-received None id _ named next = absurd next

-- ---- short payloads

abbrev pub IsShort : Part → Type 0
IsShort part = length part.1 < 2 ^ 32

short_more : (p : Part) (f : LinkFrame) (frames : List LinkFrame) → ((q : Part) → AllByRecursion IsShort (deliveries (Some q) frames) → length q.1 < 2 ^ 32)
    → (more : Bool) → AllByRecursion IsShort (cond more (deliveries (Some (with_piece (Some p) f)) frames) (with_piece (Some p) f ∷ deliveries None frames)) → length p.1 < 2 ^ 32
short_more p f frames rest true a = omega (arith, length-append p.1 (payload_of f), rest (with_piece (Some p) f) a)
short_more p f frames rest false a = omega (arith, length-append p.1 (payload_of f), a.0)

-- what has come of a delivery is no longer than all of it
short-begun : (frames : List LinkFrame) (p : Part) → AllByRecursion IsShort (deliveries (Some p) frames) → length p.1 < 2 ^ 32
short-begun [] = λ p a. a.0
short-begun (Flow x ∷ frames) = λ p a. short-begun frames p a
short-begun (Attach x ∷ frames) = λ p a. short_more p (Attach x) frames (short-begun frames) false a
short-begun (RemoteTransfer x ∷ frames) = λ p a. short_more p (RemoteTransfer x) frames (short-begun frames) x.performative.more a
short-begun (FirstTransfer x ∷ frames) = λ p a. short_more p (FirstTransfer x) frames (short-begun frames) x.performative.more a
short-begun (TransferContinuation x ∷ frames) = λ p a. short_more p (TransferContinuation x) frames (short-begun frames) x.performative.more a
short-begun (Disposition x ∷ frames) = λ p a. short_more p (Disposition x) frames (short-begun frames) false a
short-begun (Detach x ∷ frames) = λ p a. short_more p (Detach x) frames (short-begun frames) false a

short-by : (p : Part) (frames : List LinkFrame) (more : Bool) → AllByRecursion IsShort (cond more (deliveries (Some p) frames) (p ∷ deliveries None frames)) → length p.1 < 2 ^ 32
short-by p frames true a = short-begun frames p a
short-by p frames false a = a.0

pub short-next : (part : Option Part) (begun : Bool) (f : LinkFrame) (frames : List LinkFrame) → FollowsOn begun f → AllByRecursion IsShort (deliveries part (f ∷ frames)) → length (with_piece part f).1 < 2 ^ 32
short-next part begun f frames next a = short-by (with_piece part f) frames (performative_of f).more (subst (AllByRecursion IsShort) (deliveries-next part begun f frames next) a)
