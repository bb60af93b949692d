-- The position, as one more byte comes.
use Rattle.std.proofs.Common.{◌≡◌, ℕ, ◌+◌, ◌-◌, ◌<◌, ◌≤◌, List, [], ◌∷◌, ◌++◌, length, get_or, take, drop, append_assoc, sym, ap, ◌∙◌, arith, length-append, zero, suc}
use Rattle.std.proofs.lemmas.List.{length_push, get_or_push, take_more, append-nil}
use Rattle.std.specs.List.{concat}
use Rattle.amqp_link_payloads.specs.Header.{header_len}
use Rattle.amqp_link_payloads.specs.Position.{starts, position}
use Rattle.amqp_link_payloads.proofs.StartsLemmas.{starts_some, start_within, last_start}

pub last_within : (P : List ℕ) → last_start P + header_len (drop (last_start P) P) ≤ length P
last_within P = let some : 0 < length (starts P) = starts_some P in start_within P (length (starts P) - 1) (omega arith)

pub pair_same : (a b c d : ℕ) → a ≡ c → b ≡ d → ◌≡◌ {A = ℕ × ℕ} (a, b) (c, d)
pair_same a b c d e f = cc

-- from the starts of the longer list
pub position_push : (F : List ℕ) (b n : ℕ) → starts (F ++ b ∷ []) ≡ starts F ++ n ∷ []
    → position (F ++ b ∷ []) ≡ ((position F).0 + 1, length F + 1 - n)
position_push F b n e =
    let some : 0 < length (starts F) = starts_some F in
    let count : length (starts (F ++ b ∷ [])) ≡ length (starts F) + 1 = ap length e ∙ length_push (starts F) n in
    let last : last_start (F ++ b ∷ []) ≡ n
    = ap (λ xs. get_or xs (length xs - 1) 0) e ∙ get_or_push (starts F) n 0 (length (starts F ++ n ∷ []) - 1) (omega (arith, length_push (starts F) n)) in
    pair_same _ _ _ _ (omega arith) (omega (arith, length_push F b))

pub position_stay : (F G : List ℕ) → starts (F ++ G) ≡ starts F → position (F ++ G) ≡ ((position F).0, (position F).1 + length G)
position_stay F G e =
    let last : last_start (F ++ G) ≡ last_start F = ap (λ xs. get_or xs (length xs - 1) 0) e in
    pair_same _ _ _ _ (ap (λ xs. length xs - 1) e) (omega (arith, length-append F G, last_within F))

-- a loop over the bytes that follow F reads one more
pub front_next : (F xs : List ℕ) (i : ℕ) → i < length xs → (F ++ take i xs) ++ get_or xs i 0 ∷ [] ≡ F ++ take (i + 1) xs
front_next F xs i lt = append_assoc F (take i xs) (get_or xs i 0 ∷ []) ∙ ap (λ t. F ++ t) (sym (take_more xs i 0 lt))

-- one more piece
pub concat_push : (xss : List (List ℕ)) (xs : List ℕ) → concat (xss ++ xs ∷ []) ≡ concat xss ++ xs
concat_push [] xs = append-nil xs
concat_push (ys ∷ xss) xs = ap (λ t. ys ++ t) (concat_push xss xs) ∙ sym (append_assoc ys (concat xss) xs)

-- a loop over pieces reads one more
pub concat_next : (xss : List (List ℕ)) (i : ℕ) (xs : List ℕ) → i < length xss → xs ≡ get_or xss i xs
    → concat (take (i + 1) xss) ≡ concat (take i xss) ++ xs
concat_next xss i xs lt is =
    ap concat (take_more xss i xs lt) ∙ concat_push (take i xss) (get_or xss i xs) ∙ ap (λ t. concat (take i xss) ++ t) (sym is)

-- and finds no more bytes than there are
pub concat_within : (xss : List (List ℕ)) (i : ℕ) (xs : List ℕ) → i < length xss
    → length (concat (take i xss)) + length (get_or xss i xs) ≤ length (concat xss)
concat_within [] i xs lt = absurd (omega arith)
concat_within (ys ∷ xss) zero xs lt = omega (arith, length-append ys (concat xss))
concat_within (ys ∷ xss) (suc i) xs lt =
    omega (arith, length-append ys (concat xss), length-append ys (concat (take i xss)), concat_within xss i xs (omega arith))
