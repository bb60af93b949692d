-- The frames of a delivery, one after the other.
use Rattle.std.proofs.Common.{◌≡◌, ◌∙◌, sym, ap, subst, ℕ, ◌+◌, ◌<◌, ◌≤◌, ◌==◌, Bool, true, false, nat_lt, List, [], ◌∷◌, ◌++◌, length, take, drop, map, refl, arith, length-append}
use Rattle.std.specs.Prelude.{slice_index_or, if◌then◌else◌}
use Rattle.std.proofs.lemmas.Bool.Decides.{nat_tests}
use Rattle.std.proofs.lemmas.List.{get_or_append_left, map-append, length-map}
use Rattle.std.proofs.Math.Seq.{get_or-append_seam}
use native.Mathlib.Decide.{dec_lt}
use Rattle.amqp_link_types.specs.declared.types.transfer.Transfer.{Transfer}
use Rattle.amqp_link_types.specs.declared.types.definitions.InputHandle.{InputHandle}
use Rattle.amqp_link_types.specs.declared.frame.LinkFrame.{LinkFrame}
use Rattle.amqp_link_types.specs.declared.frame.LinkFrame.TheVariants.{FirstTransfer, TransferContinuation}
use Rattle.amqp_link_types.specs.Frames.{cleared, frame_of, payload_of, EachAt, AreFramesOf}
use Rattle.amqp_link_split.specs.Split.{IsSplit, IsFewestPieces}
use Rattle.amqp_link_split.proofs.SplitLemmas.{IsCut, IsCut-start, IsCut-more, IsSplit-cut, Least-IsSplit}

-- ---- something that holds of each element and its place

-- what holds of each element and of one more
EachAt-more : {X : Type 0} (P : ℕ → X → Type 0) (xs : List X) (x : X) → EachAt P xs → P (length xs) x → EachAt P (xs ++ x ∷ [])
EachAt-more P xs x each here i d h =
    elim (dec_lt i (length xs)) [
      | yes l ↦ subst (P i) (sym (get_or_append_left xs (x ∷ []) d i l)) (each i d l)
      | no n ↦
          let at : length xs ≡ i = omega (arith, length-append xs (x ∷ []), n) in
          subst (λ k. P k (slice_index_or (xs ++ x ∷ []) k d)) at (subst (P (length xs)) (sym (get_or-append_seam xs x [] d)) here)
    ]

-- ---- frames

-- the first frame and a further one
abbrev pub first_with : InputHandle → Transfer → Bool → List ℕ → LinkFrame
first_with handle t more p = FirstTransfer (record { input_handle = handle; performative = record t { more = more }; payload = p })

abbrev pub further_with : InputHandle → Transfer → Bool → List ℕ → LinkFrame
further_with handle t more p = TransferContinuation (record { input_handle = handle; performative = record t { more = more }; payload = p })

abbrev pick : InputHandle → Transfer → List ℕ → Bool → Bool → LinkFrame
pick handle t p is_first more = if is_first then first_with handle t more p else further_with handle (cleared t) more p

not_first : (n : ℕ) → 1 ≤ n → (n == 0) ≡ false
not_first n h = grind (arith, nat_tests)

-- past the first place stand further frames
further_is : (handle : InputHandle) (t : Transfer) (n k : ℕ) (p : List ℕ) (more : Bool) → 1 ≤ n → nat_lt (n + 1) k ≡ more
    → further_with handle (cleared t) more p ≡ frame_of handle t n k p
further_is handle t n k p more some is =
    sym (ap (λ b. pick handle t p b (nat_lt (n + 1) k)) (not_first n some) ∙ ap (λ b. pick handle t p false b) is)

goes_on : (n : ℕ) → nat_lt (n + 1) (n + 2) ≡ true
goes_on n = grind (arith, nat_tests)

ends : (n : ℕ) → nat_lt (n + 1) (n + 1) ≡ false
ends n = grind (arith, nat_tests)

more_after : (i n : ℕ) → i + 1 < n → nat_lt (i + 1) (i + 2) ≡ nat_lt (i + 1) n
more_after i n h = grind (arith, nat_tests)

-- frames of a delivery that all have more after them
abbrev pub AreFronts : InputHandle → Transfer → List LinkFrame → Type 0
AreFronts handle t frames = EachAt (λ i f. f ≡ frame_of handle t i (i + 2) (payload_of f)) frames

-- fronts stay what they are whatever follows
frame_of-front : (handle : InputHandle) (t : Transfer) (i n : ℕ) (p : List ℕ) → i + 1 < n → frame_of handle t i (i + 2) p ≡ frame_of handle t i n p
frame_of-front handle t i n p h = ap (λ more. pick handle t p (i == 0) more) (more_after i n h)

-- ---- while a payload is cut

-- some fronts are cut into frames, one at least, and the rest is left
pub record Cutting (handle : InputHandle) (t : Transfer) (P : List ℕ) (m : ℕ) (frames : List LinkFrame) (rest : List ℕ) : Type 0 where
  pub cut : IsCut P m (map payload_of frames) rest
  pub fronts : AreFronts handle t frames
  pub some : 1 ≤ length frames

module _ (handle : InputHandle) (t : Transfer) (P : List ℕ) (m : ℕ) where
  first_front : (p : List ℕ) → AreFronts handle t (first_with handle t true p ∷ [])
  first_front p i d h =
      let at : 0 ≡ i = omega arith in
      let one : List LinkFrame = first_with handle t true p ∷ [] in
      subst (λ k. slice_index_or one k d ≡ frame_of handle t k (k + 2) (payload_of (slice_index_or one k d))) at refl

  begun : m < length P → Cutting handle t P m (first_with handle t true (take m P) ∷ []) (drop m P)
  begun long = record { cut = IsCut-more P m [] P (IsCut-start P m) long; fronts = first_front (take m P); some = omega arith }

  pub Cutting-first : (frames : List LinkFrame) (front rest : List ℕ) → m < length P → front ≡ take m P → rest ≡ drop m P
      → frames ≡ first_with handle t true front ∷ [] → Cutting handle t P m frames rest
  Cutting-first frames front rest long front_is rest_is frames_is =
      subst (λ fs. Cutting handle t P m fs rest) (sym (frames_is ∙ ap (λ p. first_with handle t true p ∷ []) front_is))
      (subst (λ r. Cutting handle t P m (first_with handle t true (take m P) ∷ []) r) (sym rest_is) (begun long))

  grown : (frames : List LinkFrame) (rest : List ℕ) → Cutting handle t P m frames rest → m < length rest
      → Cutting handle t P m (frames ++ further_with handle (cleared t) true (take m rest) ∷ []) (drop m rest)
  grown frames rest c long =
      let f : LinkFrame = further_with handle (cleared t) true (take m rest) in
      record {
        cut = subst (λ ps. IsCut P m ps (drop m rest)) (sym (map-append payload_of frames (f ∷ []))) (IsCut-more P m (map payload_of frames) rest c.cut long);
        fronts = EachAt-more (λ i g. g ≡ frame_of handle t i (i + 2) (payload_of g)) frames f c.fronts
            (further_is handle t (length frames) (length frames + 2) (take m rest) true c.some (goes_on (length frames)));
        some = omega (arith, length-append frames (f ∷ []));
      }

  pub Cutting-more : (frames new : List LinkFrame) (rest piece left : List ℕ) → Cutting handle t P m frames rest → m < length rest
      → piece ≡ take m rest → left ≡ drop m rest → new ≡ frames ++ further_with handle (cleared t) true piece ∷ []
      → Cutting handle t P m new left
  Cutting-more frames new rest piece left c long piece_is left_is new_is =
      subst (λ fs. Cutting handle t P m fs left) (sym (new_is ∙ ap (λ p. frames ++ further_with handle (cleared t) true p ∷ []) piece_is))
      (subst (λ r. Cutting handle t P m (frames ++ further_with handle (cleared t) true (take m rest) ∷ []) r) (sym left_is) (grown frames rest c long))

  module _ (frames new : List LinkFrame) (rest : List ℕ) (c : Cutting handle t P m frames rest) (short : length rest ≤ m)
      (new_is : new ≡ frames ++ further_with handle (cleared t) false rest ∷ []) where
    pub split_last : IsSplit P m (map payload_of new)
    split_last =
        let f : LinkFrame = further_with handle (cleared t) false rest in
        subst (λ fs. IsSplit P m (map payload_of fs)) (sym new_is)
        (subst (λ ps. IsSplit P m ps) (sym (map-append payload_of frames (f ∷ []))) (IsSplit-cut P m (map payload_of frames) rest c.cut short))

    pub fewest_last : IsFewestPieces P m (length new)
    fewest_last = subst (λ n. IsFewestPieces P m n) (length-map new payload_of) (Least-IsSplit P m (map payload_of new) split_last)

    pub each_last : AreFramesOf handle t new
    each_last =
        let f : LinkFrame = further_with handle (cleared t) false rest in
        let n : ℕ = length frames + 1 in
        let P : ℕ → LinkFrame → Type 0 = λ i g. g ≡ frame_of handle t i n (payload_of g) in
        let fixed : EachAt P frames = λ i d h. c.fronts i d h ∙ frame_of-front handle t i n (payload_of (slice_index_or frames i d)) (omega arith) in
        let here : P (length frames) f = further_is handle t (length frames) n rest false c.some (ends (length frames)) in
        let len : n ≡ length (frames ++ f ∷ []) = sym (length-append frames (f ∷ [])) in
        let Q : ℕ → Type 0 = λ m. EachAt (λ i g. g ≡ frame_of handle t i m (payload_of g)) (frames ++ f ∷ []) in
        subst (AreFramesOf handle t) (sym new_is) (subst Q len (EachAt-more P frames f fixed here))

-- a payload that fits one frame
pub fewest_alone : (P : List ℕ) (m n : ℕ) → length P ≤ m → n ≡ 1 → IsFewestPieces P m n
fewest_alone P m n short is = subst (λ k. IsFewestPieces P m k) (sym is) (Least-IsSplit P m (P ∷ []) (IsSplit-cut P m [] P (IsCut-start P m) short))
