-- Cutting front after front gives a split, and a split has the fewest pieces.
use Rattle.std.proofs.Common.{◌≡◌, ℕ, suc, ◌+◌, ◌*◌, ◌<◌, ◌≤◌, List, [], ◌∷◌, ◌++◌, length, take, drop, refl, ap, subst, ◌∙◌, arith, All, length-append, append_assoc, length-drop, append-nil, zero-mul, suc-mul, lt_of_mul-lt-mul_right}
use Rattle.std.specs.List.{concat, slice_index_or}
use Rattle.std.proofs.lemmas.Grind.{common_steps}
use Rattle.std.proofs.lemmas.List.{get_or_append_left, take-append-drop, length-take-le, get_or_default}
use Rattle.std.proofs.Math.Seq.{get_or-append_seam}
use native.Mathlib.Decide.{dec_lt}
use Rattle.std.proofs.lemmas.List.Folds.{concat-append}
use Rattle.amqp_link_split.specs.Split.{IsSplit, ArePiecesOf, IsFewestPieces}

-- some fronts of m bytes are cut, and the rest is left
pub record IsCut (P : List ℕ) (m : ℕ) (done : List (List ℕ)) (rest : List ℕ) : Type 0 where
  pub joined : concat done ++ rest ≡ P
  pub full : (i : ℕ) → i < length done → length (slice_index_or done i []) ≡ m
  pub left : 0 < length P → 0 < length rest
  pub none : length P ≡ 0 → length done ≡ 0

pub IsCut-start : (P : List ℕ) (m : ℕ) → IsCut P m [] P
IsCut-start P m = record { joined = refl; full = λ i h. absurd (omega arith); left = λ h. h; none = λ _. refl }

-- one more piece, by place
more_full : (m : ℕ) (done : List (List ℕ)) (x : List ℕ) → ((i : ℕ) → i < length done → length (slice_index_or done i []) ≡ m) → length x ≡ m
    → (i : ℕ) → i < length (done ++ x ∷ []) → length (slice_index_or (done ++ x ∷ []) i []) ≡ m
more_full m done x full here i h =
    elim (dec_lt i (length done)) [
      | yes l ↦ ap length (get_or_append_left done (x ∷ []) [] i l) ∙ full i l
      | no n ↦
          let at : length done ≡ i = omega (arith, length-append done (x ∷ []), n) in
          subst (λ k. length (slice_index_or (done ++ x ∷ []) k []) ≡ m) at (ap length (get_or-append_seam done x [] []) ∙ here)
    ]

joined_more : (done : List (List ℕ)) (x rest : List ℕ) → concat (done ++ x ∷ []) ++ rest ≡ concat done ++ (x ++ rest)
joined_more done x rest = ap (λ l. l ++ rest) (concat-append done (x ∷ [])) ∙ grind (arith, common_steps, append_assoc)

pub IsCut-more : (P : List ℕ) (m : ℕ) (done : List (List ℕ)) (rest : List ℕ) → IsCut P m done rest → m < length rest → IsCut P m (done ++ take m rest ∷ []) (drop m rest)
IsCut-more P m done rest h long = record {
  joined = joined_more done (take m rest) (drop m rest) ∙ ap (λ l. concat done ++ l) (take-append-drop m rest) ∙ h.joined;
  full = more_full m done (take m rest) h.full (length-take-le m rest (omega arith));
  left = λ p. omega (arith, length-drop m rest);
  none = λ e. absurd (omega (arith, length-append (concat done) rest, ap length h.joined));
}

pub IsSplit-cut : (P : List ℕ) (m : ℕ) (done : List (List ℕ)) (rest : List ℕ) → IsCut P m done rest → length rest ≤ m → IsSplit P m (done ++ rest ∷ [])
IsSplit-cut P m done rest h short =
    let len : length (done ++ rest ∷ []) ≡ length done + 1 = length-append done (rest ∷ []) in
    let last = λ (i : ℕ) (e : i + 1 ≡ length (done ++ rest ∷ [])).
    let at : length done ≡ i = omega arith in
    let P : ℕ → Type 0 = λ k. slice_index_or (done ++ rest ∷ []) k [] ≡ rest in
    subst P at (get_or-append_seam done rest [] []) in
    record {
      joined = concat-append done (rest ∷ []) ∙ ap (λ l. concat done ++ l) (append-nil rest) ∙ h.joined;
      some = omega arith;
      full = λ i l. let k : i < length done = omega arith in ap length (get_or_append_left done (rest ∷ []) [] i k) ∙ h.full i k;
      within = λ i e. rw (last i e) short;
      filled = λ i e p. rw (last i e) (h.left p);
      one = λ e. omega (arith, h.none e);
    }

-- pieces of at most m bytes have at most m bytes each in all
upper : (m : ℕ) (qs : List (List ℕ)) → All (λ q. length q ≤ m) qs → length (concat qs) ≤ length qs * m
upper m [] all = omega (arith, zero-mul m)
upper m (q ∷ qs) all =
    let here : length q ≤ m = all 0 [] (omega arith) in
    omega (arith, suc-mul (length qs) m, length-append q (concat qs), upper m qs (λ k d h. all (suc k) d (omega arith)))

-- full pieces and a last one that is not empty have more than m bytes for each but the last
lower : (m : ℕ) (x : List ℕ) (xs : List (List ℕ)) → ((i : ℕ) → i + 1 < length (x ∷ xs) → length (slice_index_or (x ∷ xs) i []) ≡ m)
    → ((i : ℕ) → i + 1 ≡ length (x ∷ xs) → 0 < length (slice_index_or (x ∷ xs) i [])) → length xs * m < length (concat (x ∷ xs))
lower m x [] full filled = omega (arith, zero-mul m, filled 0 (omega arith), length-append x [])
lower m x (y ∷ ys) full filled =
    let here : length x ≡ m = full 0 (omega arith) in
    let rest = lower m y ys (λ i h. full (suc i) (omega arith)) (λ i e. filled (suc i) (omega arith)) in
    omega (arith, suc-mul (length ys) m, length-append x (concat (y ∷ ys)), rest)

fewest-IsSplit : (P : List ℕ) (m : ℕ) (pieces : List (List ℕ)) → IsSplit P m pieces → (qs : List (List ℕ)) → ArePiecesOf P m qs → length pieces ≤ length qs
fewest-IsSplit P m [] h qs f = omega arith
fewest-IsSplit P m (x ∷ xs) h qs f =
    elim (dec_lt 0 (length P)) [
      | no n ↦ omega (arith, h.one (omega (arith, n)), f.0)
      | yes p ↦
          let low : length xs * m < length P = omega (arith, lower m x xs h.full (λ i e. h.filled i e p), ap length h.joined) in
          let high : length P ≤ length qs * m = omega (arith, upper m qs f.2, ap length f.1) in
          let strict : length xs * m < length qs * m = omega arith in
          omega (arith, lt_of_mul-lt-mul_right m strict)
    ]

-- each piece of a split has at most m bytes
pub short_pieces : (P : List ℕ) (m : ℕ) (pieces : List (List ℕ)) → IsSplit P m pieces → All (λ q. length q ≤ m) pieces
short_pieces P m pieces h k d l =
    rw (get_or_default pieces k d [] l)
    (elim (dec_lt (k + 1) (length pieces)) [
      | yes s ↦ omega (arith, h.full k s)
      | no n ↦ h.within k (omega (arith, n))
    ])

pub Least-IsSplit : (P : List ℕ) (m : ℕ) (pieces : List (List ℕ)) → IsSplit P m pieces → IsFewestPieces P m (length pieces)
Least-IsSplit P m pieces h = record {
  reached = (pieces, ((h.some, h.joined, short_pieces P m pieces h), refl));
  fewest = fewest-IsSplit P m pieces h;
}
