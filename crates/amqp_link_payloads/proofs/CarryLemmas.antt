-- What is kept of bytes that arrive in pieces, as one more byte or block is read.
use Rattle.std.proofs.Common.{◌≡◌, ℕ, ◌<◌, ◌≤◌, ◌^◌, ◌++◌, ◌||◌, Bool, true, false, List, [], ◌∷◌, length, refl, ap, ◌∙◌, inl, inr, arith}
use Rattle.std.specs.Prelude.{nat_le}
use Rattle.std.proofs.lemmas.Bool.{or_parts}
use Rattle.std.proofs.lemmas.Bool.Decides.{nat_tests}
use Rattle.std.proofs.lemmas.List.{append-nil, length-append}
use Rattle.amqp_link_payloads.specs.Position.{position}
use Rattle.amqp_link_payloads.specs.Sections.{is_too_long}
use Rattle.amqp_link_payloads.proofs.FrontLemmas.{before_append}

-- no byte takes a section away
pub sections_rise : (F G : List ℕ) → (position F).0 ≤ (position (F ++ G)).0
sections_rise F [] = omega (arith, ap (λ P. (position P).0) (append-nil F))
sections_rise F (b ∷ G) = elim (before_append F b G) [ inl more ↦ omega arith | inr same ↦ omega arith ]

-- ---- what cannot be counted

le_true : (m n : ℕ) → m ≤ n → nat_le m n ≡ true
le_true m n h = grind (arith, nat_tests)

le_false : (m n : ℕ) → n < m → nat_le m n ≡ false
le_false m n h = grind (arith, nat_tests)

or_true : (a : Bool) → (a || true) ≡ true
or_true true = refl
or_true false = refl

pub many_bytes : (F : List ℕ) → 2 ^ 64 ≤ length F → is_too_long F ≡ true
many_bytes F h = ap (λ b. b || nat_le (2 ^ 32) (position F).0) (le_true (2 ^ 64) (length F) h)

pub many_sections : (F : List ℕ) → 2 ^ 32 ≤ (position F).0 → is_too_long F ≡ true
many_sections F h = ap (λ b. nat_le (2 ^ 64) (length F) || b) (le_true (2 ^ 32) (position F).0 h) ∙ or_true (nat_le (2 ^ 64) (length F))

pub not_long : (F : List ℕ) → length F < 2 ^ 64 → (position F).0 < 2 ^ 32 → is_too_long F ≡ false
not_long F bytes sections = rw (le_false (2 ^ 64) (length F) bytes, le_false (2 ^ 32) (position F).0 sections) refl

-- a front of what can be counted can be counted
pub front_not_long : (F G : List ℕ) → is_too_long (F ++ G) ≡ false → is_too_long F ≡ false
front_not_long F G h =
    let both = or_parts (nat_le (2 ^ 64) (length (F ++ G))) (nat_le (2 ^ 32) (position (F ++ G)).0) h in
    not_long F (grind (arith, nat_tests, length-append F G, both.0)) (grind (arith, nat_tests, sections_rise F G, both.1))
