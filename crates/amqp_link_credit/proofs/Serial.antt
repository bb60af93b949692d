-- The laws of sdiff.
use Rattle.std.proofs.Common.{◌≡◌, refl, ℕ, ◌+◌, ◌-◌, ◌*◌, ◌/◌, ◌%◌, ◌^◌, ◌<◌, ◌≤◌, arith, Bool, true, false, cond}
use Rattle.std.specs.Prelude.{ℤ, pos, ◌+ℤ◌, ◌-ℤ◌, nat_lt}
use borrow.Author.Differences.{up, down, ints}
use Rattle.std.proofs.lemmas.Bool.Decides.{nat_tests}
use Rattle.amqp_link_state.specs.Counts.{sdiff, granted}

-- x is a - b, but for a multiple of 2^32
pub record IsAhead (a b : ℕ) (x : ℤ) : Type 0 where
  pub over : ℕ
  pub under : ℕ
  pub equal : a + down x + 4294967296 * over ≡ b + up x + 4294967296 * under

signed : ℕ → ℤ
signed d = cond (nat_lt d (2 ^ 31)) (pos d) (pos d -ℤ pos (2 ^ 32))

pub record InRange (x : ℤ) : Type 0 where
  pub least : down x ≤ up x + 2147483648
  pub most : up x < down x + 2147483648

signed_range : (d : ℕ) → d < 2 ^ 32 → (b : Bool) → nat_lt d (2 ^ 31) ≡ b → InRange (cond b (pos d) (pos d -ℤ pos (2 ^ 32)))
signed_range d h true e = record { least = omega arith; most = grind (arith, nat_tests) }
signed_range d h false e = let low : 2 ^ 31 ≤ d = grind (arith, nat_tests) in record { least = omega (arith, ints); most = omega (arith, ints) }

pub sdiff_range : (a b : ℕ) → InRange (sdiff a b)
sdiff_range a b = signed_range ((a + (2 ^ 32 - b % 2 ^ 32)) % 2 ^ 32) (omega arith) (nat_lt ((a + (2 ^ 32 - b % 2 ^ 32)) % 2 ^ 32) (2 ^ 31)) refl

ahead_by : (a b q d k r : ℕ) → a + (2 ^ 32 - r) ≡ 2 ^ 32 * q + d → b ≡ 2 ^ 32 * k + r → r < 2 ^ 32 → (t : Bool) → IsAhead a b (cond t (pos d) (pos d -ℤ pos (2 ^ 32)))
ahead_by a b q d k r e f h true = record { over = k + 1; under = q; equal = omega arith }
ahead_by a b q d k r e f h false = record { over = k + 1; under = q + 1; equal = omega (arith, ints) }

pub sdiff_ahead : (a b : ℕ) → b ≤ 2 ^ 32 → IsAhead a b (sdiff a b)
sdiff_ahead a b h =
    let n = a + (2 ^ 32 - b % 2 ^ 32) in
    ahead_by a b (n / 2 ^ 32) (n % 2 ^ 32) (b / 2 ^ 32) (b % 2 ^ 32) (omega arith) (omega arith) (omega arith) (nat_lt (n % 2 ^ 32) (2 ^ 31))

-- two such numbers in the range are one
one_number : (a b : ℕ) (x y : ℤ) → IsAhead a b x → IsAhead a b y → InRange x → InRange y → x ≡ y
one_number a b x y p q r s = omega (arith, ints)

pub sdiff_is : (a b : ℕ) (x : ℤ) → b ≤ 2 ^ 32 → IsAhead a b x → InRange x → sdiff a b ≡ x
sdiff_is a b x h p r = one_number a b (sdiff a b) x (sdiff_ahead a b h) p (sdiff_range a b) r

pub sdiff_self : (a : ℕ) → a ≤ 2 ^ 32 → sdiff a a ≡ pos 0
sdiff_self a h = sdiff_is a a (pos 0) h (record { over = 0; under = 0; equal = refl }) (record { least = omega arith; most = omega arith })

-- from a count that has moved
ahead_from : (a b c : ℕ) (x y z : ℤ) → IsAhead a b x → IsAhead c b y → z +ℤ y ≡ x → IsAhead a c z
ahead_from a b c x y z p q e = record { over = p.over + q.under; under = p.under + q.over; equal = omega (arith, ints) }

pub sdiff_from : (a b c : ℕ) (z : ℤ) → b ≤ 2 ^ 32 → c ≤ 2 ^ 32 → z +ℤ sdiff c b ≡ sdiff a b → InRange z → sdiff a c ≡ z
sdiff_from a b c z h k e r = sdiff_is a c z k (ahead_from a b c (sdiff a b) (sdiff c b) z (sdiff_ahead a b h) (sdiff_ahead c b h) e) r

-- n later
ahead_later : (a b n : ℕ) (x z : ℤ) → IsAhead a b x → z ≡ x +ℤ pos n → IsAhead ((a + n) % 2 ^ 32) b z
ahead_later a b n x z p e = record { over = p.over + (a + n) / 2 ^ 32; under = p.under; equal = omega (arith, ints) }

pub sdiff_later : (a b n : ℕ) (z : ℤ) → b ≤ 2 ^ 32 → z ≡ sdiff a b +ℤ pos n → InRange z → sdiff ((a + n) % 2 ^ 32) b ≡ z
sdiff_later a b n z h e r = sdiff_is ((a + n) % 2 ^ 32) b z h (ahead_later a b n (sdiff a b) z (sdiff_ahead a b h) e) r

-- a grant that is neither below nothing nor too much
pub granted_is : (count grant own n : ℕ) → pos n ≡ pos grant +ℤ sdiff count own → n < 2 ^ 32 → granted count grant own ≡ n
granted_is count grant own n e h = omega (arith, ints)
