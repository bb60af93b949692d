-- The serial difference, by cases.
use Rattle.std.proofs.Common.{◌≡◌, ℕ, ◌+◌, ◌-◌, ◌%◌, ◌^◌, ◌<◌, ◌≤◌, ℤ, pos, negsuc, ◌-ℤ◌, nat_lt, cond, sym, ap, ◌∙◌, subst, suc, inl, inr, arith}
use Rattle.std.proofs.lemmas.Bool.{lt-ltb, le-ltb, cases_lt}
use Rattle.amqp_link_state.specs.Counts.{sdiff}
use Rattle.amqp_link_state.specs.Serial.{IsSerialDifference}

-- the distance from b up to a
abbrev up : ℕ → ℕ → ℕ
up a b = (a + (2 ^ 32 - b % 2 ^ 32)) % 2 ^ 32

up-small : (a b : ℕ) → up a b < 2 ^ 32
up-small a b = omega arith

up-reaches : (a b : ℕ) → (b + up a b) % 2 ^ 32 ≡ a % 2 ^ 32
up-reaches a b = omega arith

up-back : (a b : ℕ) → b % 2 ^ 32 ≡ (a + (2 ^ 32 - up a b)) % 2 ^ 32
up-back a b = omega arith

up-only : (a b d : ℕ) → d < 2 ^ 32 → (b + d) % 2 ^ 32 ≡ a % 2 ^ 32 → d ≡ up a b
up-only a b d lt is = omega arith

up-only_back : (a b d : ℕ) → d < 2 ^ 31 → b % 2 ^ 32 ≡ (a + (d + 1)) % 2 ^ 32 → up a b + (d + 1) ≡ 2 ^ 32
up-only_back a b d lt is = omega arith

-- a distance below 2^32, read as a signed number
abbrev signed : ℕ → ℤ
signed d = cond (nat_lt d (2 ^ 31)) (pos d) (pos d -ℤ pos (2 ^ 32))

signed-low : (d : ℕ) → d < 2 ^ 31 → signed d ≡ pos d
signed-low d lt = ap (λ b. cond b (pos d) (pos d -ℤ pos (2 ^ 32))) (lt-ltb d (2 ^ 31) lt)

signed-high : (d : ℕ) → 2 ^ 31 ≤ d → d < 2 ^ 32 → signed d ≡ negsuc (2 ^ 32 - (d + 1))
signed-high d le lt =
    ap (λ b. cond b (pos d) (pos d -ℤ pos (2 ^ 32))) (le-ltb d (2 ^ 31) le)
    ∙ ap (λ b. cond b (negsuc (2 ^ 32 - suc d)) (pos (d - 2 ^ 32))) (lt-ltb d (2 ^ 32) lt)
    ∙ ap negsuc (omega arith)

pub sdiff_is_nearest : (a b : ℕ) → IsSerialDifference a b (sdiff a b)
sdiff_is_nearest a b = elim (cases_lt (up a b) (2 ^ 31)) [
  | inl lt ↦ subst (IsSerialDifference a b) (sym (signed-low (up a b) lt)) (lt, up-reaches a b)
  | inr le ↦
      let small = up-small a b in
      subst (IsSerialDifference a b) (sym (signed-high (up a b) le small)) (omega (arith, small, le), omega (arith, small, le, up-back a b))
]

pub nearest_is_sdiff : (a b : ℕ) (z : ℤ) → IsSerialDifference a b z → z ≡ sdiff a b
nearest_is_sdiff a b (pos d) h = sym (signed-low d h.0) ∙ ap signed (up-only a b d (omega (arith, h.0)) h.1)
nearest_is_sdiff a b (negsuc d) h =
    let small = up-small a b in
    let whole = up-only_back a b d h.0 h.1 in
    ap negsuc (omega (arith, whole)) ∙ sym (signed-high (up a b) (omega (arith, whole, h.0)) small)
