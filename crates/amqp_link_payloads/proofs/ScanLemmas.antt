-- What a scan keeps, as bytes follow.
use Rattle.std.proofs.Common.{◌≡◌, ℕ, ◌+◌, ◌-◌, ◌<◌, ◌≤◌, List, [], ◌∷◌, ◌++◌, length, get_or, take, drop, sym, ap, ◌∙◌, subst, arith, append_assoc}
use Rattle.std.proofs.lemmas.List.{append-nil, length-append, length-take-le, length-drop}
use Rattle.amqp_link_payloads.specs.Header.{ending}
use Rattle.amqp_link_payloads.specs.Position.{starts}
use Rattle.amqp_link_payloads.specs.Scan.{Keeps, IsNext}
use Rattle.amqp_link_payloads.specs.Tail.{EndsAt}
use Rattle.amqp_link_payloads.proofs.StartsLemmas.{starts_old}
use Rattle.amqp_link_payloads.proofs.TailLemmas.{before, before_next, before_more, none_read, starts_kept, window, window_read, window_ends, past_first}

module _ {S : Type 0} (has : S → List ℕ → ℕ → Type 0) (s : S) where
  pub kept_at_once : (F : List ℕ) (n : ℕ) → Keeps has s F n → has s F n
  kept_at_once F n keeps =
      subst (λ k. has s F k) (let none : n + 0 ≡ n = omega arith in none)
      (subst (λ G. has s G (n + 0)) (append-nil F) (keeps [] (ap starts (append-nil F))))

  pub kept_more : (F xs : List ℕ) (n : ℕ) → Keeps has s F n → starts (F ++ xs) ≡ starts F → Keeps has s (F ++ xs) (n + length xs)
  kept_more F xs n keeps same = λ ys more.
      let whole : F ++ (xs ++ ys) ≡ (F ++ xs) ++ ys = sym (append_assoc F xs ys) in
      subst (λ k. has s ((F ++ xs) ++ ys) k) (let sum : n + length (xs ++ ys) ≡ n + length xs + length ys = omega (arith, length-append xs ys) in sum)
      (subst (λ G. has s G (n + length (xs ++ ys))) whole (keeps (xs ++ ys) (ap starts whole ∙ more ∙ same)))

  pub kept_as : (F G : List ℕ) (n m : ℕ) → F ≡ G → n ≡ m → Keeps has s F n → Keeps has s G m
  kept_as F G n m e f keeps = subst (λ k. Keeps has s G k) f (subst (λ H. Keeps has s H n) e keeps)

  -- a byte in which no header ends
  pub kept_byte : (F bytes : List ℕ) (i n m : ℕ) → IsNext F bytes → 9 ≤ i → i < length bytes → n + 1 ≡ m
      → ending (take 10 (drop (i - 9) bytes)) ≡ 0 → Keeps has s (before F bytes i) n → Keeps has s (before F bytes (i + 1)) m
  kept_byte F bytes i n m next nine lt sum none keeps =
      kept_as (before F bytes i ++ get_or bytes i 0 ∷ []) (before F bytes (i + 1)) (n + 1) m (before_next F bytes i nine lt) sum
      (kept_more (before F bytes i) (get_or bytes i 0 ∷ []) n keeps
      (starts_old (before F bytes i) (get_or bytes i 0) (λ k pos at. none_read F bytes i next nine lt none k at)))

  -- a block in which none does
  pub kept_block : (F bytes : List ℕ) (i m n k : ℕ) → IsNext F bytes → 9 ≤ i → i + m ≤ length bytes → n + m ≡ k
      → ((j : ℕ) → i ≤ j → j < i + m → ending (take 10 (drop (j - 9) bytes)) ≡ 0)
      → Keeps has s (before F bytes i) n → Keeps has s (before F bytes (i + m)) k
  kept_block F bytes i m n k next nine le sum none keeps =
      let xs : List ℕ = take m (drop (i - 9) (drop 9 bytes)) in
      let size : length xs ≡ m = length-take-le m (drop (i - 9) (drop 9 bytes))
      (omega (arith, length-drop (i - 9) (drop 9 bytes), length-drop 9 bytes)) in
      let whole : before F bytes i ++ xs ≡ before F bytes (i + m) = before_more F bytes i m nine in
      kept_as (before F bytes i ++ xs) (before F bytes (i + m)) (n + length xs) k whole (omega (arith, size))
      (kept_more (before F bytes i) xs n keeps (ap starts whole ∙ starts_kept F bytes i m next nine le none))

-- a byte in which a header ends
pub found_at : (F bytes : List ℕ) (i h : ℕ) → IsNext F bytes → 9 ≤ i → i < length bytes → h ≡ ending (take 10 (drop (i - 9) bytes)) → 0 < h
    → (n : ℕ) × (1 ≤ n) × EndsAt (before F bytes i ++ get_or bytes i 0 ∷ []) n × (n + h ≡ length (before F bytes i) + 1)
found_at F bytes i h next nine lt is some =
    let same : h ≡ ending (window 9 (before F bytes i) (get_or bytes i 0)) = is ∙ ap ending (window_read F bytes i next nine lt) in
    let found = window_ends (before F bytes i) (get_or bytes i 0) (omega arith) in
    (found.0, past_first F bytes i found.0 next nine lt found.1, found.1, omega (arith, found.2))
