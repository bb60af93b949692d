-- Pieces that are cut after a number of bytes, and the front that is left.
use Rattle.std.proofs.Common.{◌≡◌, ◌+◌, ◌-◌, ◌<◌, ◌≤◌, ℕ, List, ◌++◌, length, take, drop, set, get_or, sym, ap, ◌∙◌, refl, subst, arith, length-append, append_assoc, slice_get}
use Rattle.std.specs.List.{concat, slice_range}
use Rattle.std.specs.Prelude.{Option, Some, None, IsSomeAnd}
use Rattle.std.proofs.lemmas.List.{append-nil, take-append-drop, take-append-le, take_more_set}
use Rattle.std.proofs.lemmas.List.Folds.{concat-append}
use Rattle.std.proofs.lemmas.Option.{slice_get_within, get_or_from_slice_get}
use Rattle.bytes.proofs.Ranges.{take-append_past}
use Rattle.amqp_link_payloads.proofs.PositionLemmas.{concat_push, concat_next}

-- the bytes of some first pieces, and of all others
concat_parts : (xss : List (List ℕ)) (i : ℕ) → concat xss ≡ concat (take i xss) ++ concat (drop i xss)
concat_parts xss i = ap concat (sym (take-append-drop i xss)) ∙ concat-append (take i xss) (drop i xss)

-- a cut between two pieces
pub cut_between : (xss : List (List ℕ)) (i n r : ℕ) → length (concat (take i xss)) + r ≡ n → r ≤ 0
    → concat (take i xss) ≡ take n (concat xss)
cut_between xss i n r size none =
    sym (ap (take n) (concat_parts xss i)
    ∙ take-append_past (concat (take i xss)) (concat (drop i xss)) 0 n (omega arith)
    ∙ append-nil (concat (take i xss)))

-- what a loop that counts the bytes of whole pieces finds
pub counted_next : (xss : List (List ℕ)) (i r n m : ℕ) (xs : List ℕ) → i < length xss → xs ≡ get_or xss i xs
    → length (concat (take i xss)) + r ≡ n → m ≡ length xs → m ≤ r → length (concat (take (i + 1) xss)) + (r - m) ≡ n
counted_next xss i r n m xs lt is size long le =
    omega (arith, ap length (concat_next xss i xs lt is), length-append (concat (take i xss)) xs)

-- a cut within a piece
pub cut_within : (xss new : List (List ℕ)) (i n r : ℕ) (piece front : List ℕ)
    → IsSomeAnd (slice_get xss i) (λ p. r ≤ length p) → length (concat (take i xss)) + r ≡ n
    → piece ≡ get_or xss i piece → front ≡ slice_range piece 0 r → new ≡ take (i + 1) (set xss i front)
    → concat new ≡ take n (concat xss)
cut_within xss new i n r piece front some size is cut items = with_piece (slice_get xss i) refl some
  where
    with_piece : (o : Option (List ℕ)) → slice_get xss i ≡ o → IsSomeAnd o (λ p. r ≤ length p) → concat new ≡ take n (concat xss)
    with_piece None e h = absurd h
    with_piece (Some p) e h =
        let lt : i < length xss = slice_get_within xss i p e in
        let same : piece ≡ p = is ∙ get_or_from_slice_get xss i p piece e in
        let fits : r ≤ length piece = subst (λ q. r ≤ length q) (sym same) h in
        let rest = concat (drop (i + 1) xss) in
        let left : concat new ≡ concat (take i xss) ++ take r piece
        = ap concat items ∙ ap concat (take_more_set xss i front lt) ∙ concat_push (take i xss) front
        ∙ ap (λ t. concat (take i xss) ++ t) (cut ∙ front_of piece r) in
        let parts : concat xss ≡ concat (take i xss) ++ (piece ++ rest)
        = concat_parts xss (i + 1) ∙ ap (λ t. t ++ rest) (concat_next xss i piece lt is)
        ∙ append_assoc (concat (take i xss)) piece rest in
        left ∙ sym (ap (take n) parts
        ∙ take-append_past (concat (take i xss)) (piece ++ rest) r n (sym size)
        ∙ ap (λ t. concat (take i xss) ++ t) (take-append-le r piece rest fits))
      where
        front_of : (xs : List ℕ) (k : ℕ) → slice_range xs 0 k ≡ take k xs
        front_of xs k = ap (λ j. take j xs) (let e : k - 0 ≡ k = omega arith in e)
