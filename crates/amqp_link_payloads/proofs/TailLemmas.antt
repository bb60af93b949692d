-- The last bytes of those that were read, and the header that ends in the next one.
use Rattle.std.proofs.Common.{◌≡◌, ℕ, zero, suc, ◌+◌, ◌-◌, ◌<◌, ◌≤◌, List, [], ◌∷◌, ◌++◌, length, get_or, take, drop, replicate, refl, sym, ap, ◌∙◌, inl, inr, arith, append_assoc, true, false}
use Rattle.std.proofs.lemmas.Bool.{cases_lt}
use Rattle.std.proofs.lemmas.List.{length_push, length-append, length-replicate, length-drop, length-take-le, drop-drop, drop_at, drop-append-le, drop-take, get_or-drop, get_or-take, get_or_append_left, get_or-replicate, take_more}
use Rattle.std.proofs.Math.Seq.{take-add}
use Rattle.amqp_link_payloads.specs.declared.position.scan.Tail.{Tail}
use Rattle.amqp_link_payloads.specs.Header.{header_len, may_end, ending}
use Rattle.amqp_link_payloads.specs.Position.{starts}
use Rattle.amqp_link_payloads.specs.Scan.{IsNext}
use Rattle.amqp_link_payloads.specs.Tail.{EndsAt, IsTailOf, recent}
use Rattle.amqp_link_payloads.proofs.HeaderLemmas.{ends_small, ends_large, ends_none, ending_case, ending_never, header_lengths, header_first, header_whole}
use Rattle.amqp_link_payloads.proofs.StartsLemmas.{starts_old}
use Rattle.amqp_link_payloads.proofs.PositionLemmas.{front_next}

pub nothing_read : (t : Tail) → t.last ≡ replicate 9 0xff → t.is_new ≡ true → IsTailOf t []
unfolding recent
nothing_read t l n = record { last_is = l; new_is = n }

-- ---- the window of F and one more byte

abbrev pub window : ℕ → List ℕ → ℕ → List ℕ
window m F b = recent m F ++ b ∷ []

window_is : (m : ℕ) (F : List ℕ) (b : ℕ) → window m F b ≡ drop (length F) (replicate m 0xff ++ (F ++ b ∷ []))
unfolding recent
window_is m F b =
    let fits : length F ≤ length (replicate m 0xff ++ F) = omega (arith, length-append (replicate m 0xff) F) in
    sym (drop-append-le (length F) (replicate m 0xff ++ F) (b ∷ []) fits)
    ∙ ap (drop (length F)) (append_assoc (replicate m 0xff) F (b ∷ []))

-- the last bytes of a list stand in the window
window_at : (m : ℕ) (F : List ℕ) (b n j : ℕ) → n + m ≡ length F + j → drop n (F ++ b ∷ []) ≡ drop j (window m F b)
window_at m F b n j e =
    sym (ap (drop j) (window_is m F b)
    ∙ drop-drop j (length F) (replicate m 0xff ++ (F ++ b ∷ []))
    ∙ ap (λ k. drop k (replicate m 0xff ++ (F ++ b ∷ []))) (let f : length F + j ≡ m + n = omega arith in f)
    ∙ sym (drop-drop n m (replicate m 0xff ++ (F ++ b ∷ [])))
    ∙ ap (drop n) (drop_at (replicate m 0xff) (F ++ b ∷ []) m (length-replicate m 0xff)))

-- before the first byte the window is blank
blank_at : (m : ℕ) (F : List ℕ) (b j : ℕ) → length F + j < m → get_or (drop j (window m F b)) 0 0 ≡ 0xff
blank_at m F b j lt =
    ap (λ xs. get_or (drop j xs) 0 0) (window_is m F b)
    ∙ get_or-drop j (drop (length F) (replicate m 0xff ++ (F ++ b ∷ []))) 0 0
    ∙ get_or-drop (length F) (replicate m 0xff ++ (F ++ b ∷ [])) (j + 0) 0
    ∙ get_or_append_left (replicate m 0xff) (F ++ b ∷ []) 0 (length F + (j + 0)) (omega (arith, length-replicate {A = ℕ} m 0xff))
    ∙ get_or-replicate m (length F + (j + 0)) 0xff 0 (omega arith)

-- a header in the window that ends where the window ends
window_end : (F : List ℕ) (b j h : ℕ) → j + h ≡ 10 → 0 < h → header_len (drop j (window 9 F b)) ≡ h
    → (n : ℕ) × EndsAt (F ++ b ∷ []) n × (n + h ≡ length F + 1)
window_end F b j h at some e = elim (cases_lt (length F + j) 9) [
  | inl short ↦ absurd (omega (arith, blank_at 9 F b j short, header_first (drop j (window 9 F b)) (omega arith)))
  | inr long ↦
      let same : header_len (drop (length F + j - 9) (F ++ b ∷ [])) ≡ header_len (drop j (window 9 F b))
      = ap header_len (window_at 9 F b (length F + j - 9) j (omega arith)) in
      (length F + j - 9, record { whole = omega arith; ends = omega (arith, length_push F b) }, omega arith)
]

pub window_ends : (F : List ℕ) (b : ℕ) → 0 < ending (window 9 F b)
    → (n : ℕ) × EndsAt (F ++ b ∷ []) n × (n + ending (window 9 F b) ≡ length F + 1)
window_ends F b lt = elim (ending_case (window 9 F b)) [
  | ends_small e is ↦
      let found = window_end F b 7 3 refl (omega arith) e in
      (found.0, found.1, omega (arith, found.2, is))
  | ends_large _ e is ↦
      let found = window_end F b 0 10 refl (omega arith) e in
      (found.0, found.1, omega (arith, found.2, is))
  | ends_none _ _ is ↦ absurd (omega arith)
]

-- a header that ends in the new byte is in the window
pub window_has : (F : List ℕ) (b n : ℕ) → EndsAt (F ++ b ∷ []) n → 0 < ending (window 9 F b)
window_has F b n at = elim (header_lengths (drop n (F ++ b ∷ []))) [
  | inl none ↦ absurd (omega (arith, at.whole))
  | inr some ↦ elim some [
    | inl three ↦
        let here : header_len (drop 7 (window 9 F b)) ≡ 3
        = sym (ap header_len (window_at 9 F b n 7 (omega (arith, at.ends, length_push F b)))) ∙ three in
        elim (ending_case (window 9 F b)) [
          | ends_small e is ↦ omega (arith, is)
          | ends_large not_small e is ↦ omega (arith, is)
          | ends_none not_small _ is ↦ absurd (not_small here)
        ]
    | inr ten ↦
        let here : header_len (window 9 F b) ≡ 10
        = sym (ap header_len (window_at 9 F b n 0 (omega (arith, at.ends, length_push F b)))) ∙ ten in
        elim (ending_case (window 9 F b)) [
          | ends_small e is ↦ omega (arith, is)
          | ends_large _ e is ↦ omega (arith, is)
          | ends_none _ not_large is ↦ absurd (not_large here)
        ]
  ]
]

-- ---- more bytes

-- the last m bytes once others have followed
pub recent_append : (m : ℕ) (F xs : List ℕ) → recent m (F ++ xs) ≡ drop (length xs) (recent m F ++ xs)
unfolding recent
recent_append m F xs =
    let fits : length F ≤ length (replicate m 0xff ++ F) = omega (arith, length-append (replicate m 0xff) F) in
    ap (λ k. drop k (replicate m 0xff ++ (F ++ xs))) (length-append F xs)
    ∙ ap (drop (length F + length xs)) (sym (append_assoc (replicate m 0xff) F xs))
    ∙ sym (drop-drop (length xs) (length F) ((replicate m 0xff ++ F) ++ xs))
    ∙ ap (drop (length xs)) (drop-append-le (length F) (replicate m 0xff ++ F) xs fits)

pub length-recent : (m : ℕ) (F : List ℕ) → length (recent m F) ≡ m
unfolding recent
length-recent m F = length-drop (length F) (replicate m 0xff ++ F)
    ∙ omega (arith, length-append (replicate m 0xff) F, length-replicate {A = ℕ} m 0xff)

-- of m bytes or more that followed, they alone
pub recent_block : (m : ℕ) (F xs : List ℕ) → m ≤ length xs → recent m (F ++ xs) ≡ drop (length xs - m) xs
recent_block m F xs le =
    recent_append m F xs
    ∙ ap (λ k. drop k (recent m F ++ xs)) (let sum : length xs ≡ m + (length xs - m) = omega arith in sum)
    ∙ sym (drop-drop (length xs - m) m (recent m F ++ xs))
    ∙ ap (drop (length xs - m)) (drop_at (recent m F) xs m (length-recent m F))

-- ---- the last three of ten bytes, and all of them, as slices

pub last_three : (xs : List ℕ) (i : ℕ) → 9 ≤ i → take (i + 1 - (i - 2)) (drop (i - 2) xs) ≡ drop 7 (take 10 (drop (i - 9) xs))
last_three xs i nine =
    sym (drop-take 7 3 (drop (i - 9) xs)
    ∙ ap (take 3) (drop-drop 7 (i - 9) xs)
    ∙ ap (λ k. take 3 (drop k xs)) (let sum : i - 9 + 7 ≡ i - 2 = omega arith in sum)
    ∙ ap (λ k. take k (drop (i - 2) xs)) (let sum : 3 ≡ i + 1 - (i - 2) = omega arith in sum))

pub last_ten : (xs : List ℕ) (i : ℕ) → 9 ≤ i → take (i + 1 - (i - 9)) (drop (i - 9) xs) ≡ take 10 (drop (i - 9) xs)
last_ten xs i nine = ap (λ k. take k (drop (i - 9) xs)) (let sum : i + 1 - (i - 9) ≡ 10 = omega arith in sum)

-- ---- the bytes of a scan, which begin with the last nine of F

-- those before i
abbrev pub before : List ℕ → List ℕ → ℕ → List ℕ
before F bytes i = F ++ take (i - 9) (drop 9 bytes)

-- one more
pub before_next : (F bytes : List ℕ) (i : ℕ) → 9 ≤ i → i < length bytes → before F bytes i ++ get_or bytes i 0 ∷ [] ≡ before F bytes (i + 1)
before_next F bytes i nine lt =
    let rest : length (drop 9 bytes) ≡ length bytes - 9 = length-drop 9 bytes in
    let here : get_or bytes i 0 ≡ get_or (drop 9 bytes) (i - 9) 0
    = ap (λ k. get_or bytes k 0) (let sum : i ≡ 9 + (i - 9) = omega arith in sum) ∙ sym (get_or-drop 9 bytes (i - 9) 0) in
    ap (λ b. before F bytes i ++ b ∷ []) here
    ∙ front_next F (drop 9 bytes) (i - 9) (omega arith)
    ∙ ap (λ k. F ++ take k (drop 9 bytes)) (let sum : i - 9 + 1 ≡ i + 1 - 9 = omega arith in sum)

-- the ten bytes that end at i are the window there
pub window_read : (F bytes : List ℕ) (i : ℕ) → IsNext F bytes → 9 ≤ i → i < length bytes
    → take 10 (drop (i - 9) bytes) ≡ window 9 (before F bytes i) (get_or bytes i 0)
window_read F bytes i next nine lt =
    let k : ℕ = i - 9 in
    let ys : List ℕ = drop 9 bytes in
    let rest : length ys ≡ length bytes - 9 = length-drop 9 bytes in
    let left : length (drop k bytes) ≡ length bytes - k = length-drop k bytes in
    let size : length (take k ys) ≡ k = length-take-le k ys (omega arith) in
    let nine_last : recent 9 (before F bytes i) ≡ take 9 (drop k bytes)
    = recent_append 9 F (take k ys)
    ∙ ap (λ xs. drop (length (take k ys)) (xs ++ take k ys)) (sym next.last)
    ∙ ap (drop (length (take k ys))) (sym (take-add 9 k bytes))
    ∙ ap (λ n. drop n (take (9 + k) bytes)) size
    ∙ ap (λ n. drop k (take n bytes)) (let sum : 9 + k ≡ k + 9 = omega arith in sum)
    ∙ drop-take k 9 bytes in
    let here : get_or (drop k bytes) 9 0 ≡ get_or bytes i 0
    = get_or-drop k bytes 9 0 ∙ ap (λ n. get_or bytes n 0) (let sum : k + 9 ≡ i = omega arith in sum) in
    take_more (drop k bytes) 9 0 (omega arith)
    ∙ ap (λ b. take 9 (drop k bytes) ++ b ∷ []) here
    ∙ ap (λ xs. xs ++ get_or bytes i 0 ∷ []) (sym nine_last)

-- where the quick test fails, no header ends
pub none_read : (F bytes : List ℕ) (i : ℕ) → IsNext F bytes → 9 ≤ i → i < length bytes
    → ending (take 10 (drop (i - 9) bytes)) ≡ 0 → (n : ℕ) → EndsAt (before F bytes i ++ get_or bytes i 0 ∷ []) n → ⊥
none_read F bytes i next nine lt none n at =
    omega (arith, window_has (before F bytes i) (get_or bytes i 0) n at, ap ending (window_read F bytes i next nine lt))

pub quick_none : (bytes : List ℕ) (i : ℕ) → 9 ≤ i → may_end (get_or bytes (i - 2) 0) (get_or bytes i 0) ≡ false
    → ending (take 10 (drop (i - 9) bytes)) ≡ 0
quick_none bytes i nine never =
    let k : ℕ = i - 9 in
    let first : get_or (take 10 (drop k bytes)) 7 0 ≡ get_or bytes (i - 2) 0
    = get_or-take 10 (drop k bytes) 7 0 (omega arith) ∙ get_or-drop k bytes 7 0
    ∙ ap (λ n. get_or bytes n 0) (let sum : k + 7 ≡ i - 2 = omega arith in sum) in
    let last : get_or (take 10 (drop k bytes)) 9 0 ≡ get_or bytes i 0
    = get_or-take 10 (drop k bytes) 9 0 (omega arith) ∙ get_or-drop k bytes 9 0
    ∙ ap (λ n. get_or bytes n 0) (let sum : k + 9 ≡ i = omega arith in sum) in
    ending_never (take 10 (drop k bytes))
    (ap (λ b. may_end b (get_or (take 10 (drop k bytes)) 9 0)) first ∙ ap (may_end (get_or bytes (i - 2) 0)) last ∙ never)

-- a header that ends is past the first byte of all
first_blank : (F ys : List ℕ) (k : ℕ) → get_or (F ++ ys) 0 0xff ≡ 0xff → get_or (F ++ take k ys) 0 0xff ≡ 0xff
first_blank (x ∷ F) ys k e = e
first_blank [] ys zero e = refl
first_blank [] [] (suc k) e = refl
first_blank [] (y ∷ ys) (suc k) e = e

past_blank : (G : List ℕ) (n : ℕ) → get_or G 0 0xff ≡ 0xff → EndsAt G n → 1 ≤ n
past_blank G (suc n) blank at = omega arith
past_blank [] zero blank at = absurd (omega (arith, at.whole, header_whole []))
past_blank (x ∷ G) zero blank at = absurd (omega (arith, header_first (x ∷ G) at.whole, blank))

pub past_first : (F bytes : List ℕ) (i n : ℕ) → IsNext F bytes → 9 ≤ i → i < length bytes
    → EndsAt (before F bytes i ++ get_or bytes i 0 ∷ []) n → 1 ≤ n
past_first F bytes i n next nine lt at =
    past_blank (before F bytes i ++ get_or bytes i 0 ∷ []) n
    (ap (λ G. get_or G 0 0xff) (before_next F bytes i nine lt) ∙ first_blank F (drop 9 bytes) (i + 1 - 9) next.blank) at

-- bytes in which no header ends bring no start
pub starts_kept : (F bytes : List ℕ) (i m : ℕ) → IsNext F bytes → 9 ≤ i → i + m ≤ length bytes
    → ((j : ℕ) → i ≤ j → j < i + m → ending (take 10 (drop (j - 9) bytes)) ≡ 0)
    → starts (before F bytes (i + m)) ≡ starts (before F bytes i)
starts_kept F bytes i zero next nine le none = ap (λ k. starts (before F bytes k)) (let sum : i + 0 ≡ i = omega arith in sum)
starts_kept F bytes i (suc m) next nine le none =
    let last : i + m < length bytes = omega arith in
    ap (λ k. starts (before F bytes k)) (let sum : i + suc m ≡ i + m + 1 = omega arith in sum)
    ∙ ap starts (sym (before_next F bytes (i + m) (omega arith) last))
    ∙ starts_old (before F bytes (i + m)) (get_or bytes (i + m) 0)
    (λ n pos at. none_read F bytes (i + m) next (omega arith) last (none (i + m) (omega arith) (omega arith)) n at)
    ∙ starts_kept F bytes i m next nine (omega arith) (λ j lo hi. none j lo (omega arith))

-- they are the next ones
pub before_more : (F bytes : List ℕ) (i m : ℕ) → 9 ≤ i → before F bytes i ++ take m (drop (i - 9) (drop 9 bytes)) ≡ before F bytes (i + m)
before_more F bytes i m nine =
    append_assoc F (take (i - 9) (drop 9 bytes)) (take m (drop (i - 9) (drop 9 bytes)))
    ∙ ap (λ ys. F ++ ys) (sym (take-add (i - 9) m (drop 9 bytes)))
    ∙ ap (λ k. F ++ take k (drop 9 bytes)) (let sum : i - 9 + m ≡ i + m - 9 = omega arith in sum)

-- where the quick test fails in a slice of bytes, none of them ends a header
pub block_none : (bytes : List ℕ) (i m j : ℕ) → 9 ≤ i → i ≤ j → j < i + m → i + m ≤ length bytes
    → ((k : ℕ) → 2 ≤ k → k < length (take (m + 2) (drop (i - 2) bytes))
    → may_end (get_or (take (m + 2) (drop (i - 2) bytes)) (k - 2) 0) (get_or (take (m + 2) (drop (i - 2) bytes)) k 0) ≡ false)
    → ending (take 10 (drop (j - 9) bytes)) ≡ 0
block_none bytes i m j nine lo hi le never =
    let k : ℕ = j - i + 2 in
    let slice : List ℕ = take (m + 2) (drop (i - 2) bytes) in
    let size : length slice ≡ m + 2 = length-take-le (m + 2) (drop (i - 2) bytes) (omega (arith, length-drop (i - 2) bytes)) in
    let first : get_or slice (k - 2) 0 ≡ get_or bytes (j - 2) 0
    = get_or-take (m + 2) (drop (i - 2) bytes) (k - 2) 0 (omega arith) ∙ get_or-drop (i - 2) bytes (k - 2) 0
    ∙ ap (λ n. get_or bytes n 0) (let sum : i - 2 + (k - 2) ≡ j - 2 = omega arith in sum) in
    let last : get_or slice k 0 ≡ get_or bytes j 0
    = get_or-take (m + 2) (drop (i - 2) bytes) k 0 (omega arith) ∙ get_or-drop (i - 2) bytes k 0
    ∙ ap (λ n. get_or bytes n 0) (let sum : i - 2 + k ≡ j = omega arith in sum) in
    quick_none bytes j (omega arith)
    (sym (ap (λ b. may_end b (get_or slice k 0)) first ∙ ap (may_end (get_or bytes (j - 2) 0)) last) ∙ never k (omega arith) (omega arith))
