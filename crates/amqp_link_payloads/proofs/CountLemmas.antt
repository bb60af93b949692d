-- What is counted of bytes, as a start or a piece ends.
use Rattle.std.proofs.Common.{◌≡◌, ℕ, ◌+◌, ◌-◌, ◌<◌, ◌≤◌, ◌^◌, List, [], ◌∷◌, ◌++◌, length, refl, sym, ap, ◌∙◌, inl, inr, arith, Some, None}
use Rattle.std.proofs.lemmas.Bool.{cases_lt, lt-ltb, le-ltb}
use Rattle.amqp_link_payloads.specs.declared.position.counts.Counts.{Counts}
use Rattle.amqp_link_payloads.specs.declared.position.scan.Tail.{Tail}
use Rattle.amqp_link_payloads.specs.declared.position.sections.Sections.{Sections}
use Rattle.amqp_link_payloads.specs.Counts.{HasCounted, number_below}
use Rattle.amqp_link_payloads.specs.Position.{starts, position}
use Rattle.amqp_link_payloads.specs.Scan.{Keeps}
use Rattle.amqp_link_payloads.specs.Sections.{HasRead}
use Rattle.amqp_link_payloads.specs.Tail.{EndsAt, IsTailOf, blanked}
use Rattle.amqp_link_payloads.proofs.BlankLemmas.{position_blanked}
use Rattle.amqp_link_payloads.proofs.StartsLemmas.{starts_new}
use Rattle.amqp_link_payloads.proofs.PositionLemmas.{position_push, position_stay}
use Rattle.amqp_link_payloads.proofs.ScanLemmas.{kept_at_once}

pub counted_before : (c : Counts) (F : List ℕ) → c.from ≡ 0 → c.number ≡ number_below (2 ^ 32) (position F).0
    → c.offset ≡ number_below (2 ^ 64) (position F).1 → HasCounted c F 0
counted_before c F from number offset = record {
  number_is = number;
  from_within = omega arith;
  since = omega arith;
  offset_is = offset ∙ ap (number_below (2 ^ 64)) (let all : (position F).1 ≡ (position F).1 - (0 - c.from) = omega arith in all);
}

-- bytes that bring no start
pub counted_passed : (c : Counts) (F xs : List ℕ) (at : ℕ) → HasCounted c F at → starts (F ++ xs) ≡ starts F
    → HasCounted c (F ++ xs) (at + length xs)
counted_passed c F xs at has same =
    let grown : position (F ++ xs) ≡ ((position F).0, (position F).1 + length xs) = position_stay F xs same in
    let more : (position (F ++ xs)).1 ≡ (position F).1 + length xs = ap (λ p. p.1) grown in
    let since : (position F).1 - (at - c.from) ≡ (position (F ++ xs)).1 - (at + length xs - c.from)
    = omega (arith, has.from_within, has.since) in
    record {
      number_is = has.number_is ∙ ap (λ p. number_below (2 ^ 32) p.0) (sym grown);
      from_within = omega (arith, has.from_within);
      since = omega (arith, has.from_within, has.since);
      offset_is = has.offset_is ∙ ap (number_below (2 ^ 64)) since;
    }

-- a byte in which a start's header ends
pub counted_new : (c d : Counts) (F : List ℕ) (b n h at : ℕ) → HasCounted c F at → 1 ≤ n → EndsAt (F ++ b ∷ []) n
    → n + h ≡ length F + 1 → h < 2 ^ 64 → d.number ≡ number_below (2 ^ 32) ((position F).0 + 1) → d.offset ≡ Some h
    → d.from ≡ at + 1 → HasCounted d (F ++ b ∷ []) (at + 1)
counted_new c d F b n h at has pos ends size fits number offset from =
    let moved : position (F ++ b ∷ []) ≡ ((position F).0 + 1, length F + 1 - n)
    = position_push F b n (starts_new F b n pos ends) in
    let far : (position (F ++ b ∷ [])).1 ≡ length F + 1 - n = ap (λ p. p.1) moved in
    let here : h ≡ (position (F ++ b ∷ [])).1 - (at + 1 - d.from) = omega (arith, size, far, from) in
    record {
      number_is = number ∙ ap (λ p. number_below (2 ^ 32) p.0) (sym moved);
      from_within = omega (arith, from);
      since = omega (arith, from);
      offset_is = offset ∙ sym (rw (lt-ltb h (2 ^ 64) fits)) ∙ ap (number_below (2 ^ 64)) here;
    }

-- the end of a piece
pub counted_after : (c : Counts) (F : List ℕ) (n m : ℕ) → HasCounted c F n → m ≡ n - c.from
    → number_below (2 ^ 64) ((position F).1 - (n - c.from) + m) ≡ number_below (2 ^ 64) (position F).1
counted_after c F n m has is =
    ap (number_below (2 ^ 64)) (let sum : (position F).1 - (n - c.from) + m ≡ (position F).1 = omega (arith, has.since, is) in sum)

-- before the next piece, of bytes with a blank in place of the first
pub counted_all : (c : Counts) (F : List ℕ) → Keeps HasCounted c (blanked F) 0
    → (c.number ≡ number_below (2 ^ 32) (position F).0) × (c.offset ≡ number_below (2 ^ 64) (position F).1)
counted_all c F keeps =
    let has : HasCounted c (blanked F) 0 = kept_at_once HasCounted c (blanked F) 0 keeps in
    let all : (position (blanked F)).1 - (0 - c.from) ≡ (position (blanked F)).1 = omega (arith, has.from_within) in (
      has.number_is ∙ ap (λ p. number_below (2 ^ 32) p.0) (position_blanked F),
      has.offset_is ∙ ap (number_below (2 ^ 64)) all ∙ ap (λ p. number_below (2 ^ 64) p.1) (position_blanked F),
    )

-- before the first byte
pub nothing_counted : (c : Counts) → ((F : List ℕ) → Some 0 ≡ number_below (2 ^ 32) (position F).0 → Some 0 ≡ number_below (2 ^ 64) (position F).1
    → Keeps HasCounted c F 0) → Keeps HasCounted c [] 0
unfolding starts
nothing_counted c new = new [] refl refl

pub nothing_there : (0 ≡ (position []).0) × (0 ≡ (position []).1)
unfolding starts
nothing_there = (refl, refl)

-- ---- a number that is known only below a bound

pub below_some : (bound k n : ℕ) → number_below bound k ≡ Some n → (k < bound) × (k ≡ n)
below_some bound k n e = elim (cases_lt k bound) [
  | inl lt ↦ (lt, known (rw (lt-ltb k bound lt) at e))
  | inr past ↦ absurd (never (rw (le-ltb k bound past) at e))
]
  where
    known : Some k ≡ Some n → k ≡ n
    known h = cc

    never : None ≡ Some n → ⊥
    never h = cc

pub below_none : (bound k : ℕ) → number_below bound k ≡ None → bound ≤ k
below_none bound k e = elim (cases_lt k bound) [
  | inl lt ↦ absurd (never (rw (lt-ltb k bound lt) at e))
  | inr past ↦ past
]
  where
    never : Some k ≡ None → ⊥
    never h = cc

-- ---- one more piece of those that are read

pub counted_next : (s : Sections) (before : Counts) (read : Tail × Counts) (F piece : List ℕ) → HasRead s F
    → ((G : List ℕ) → Some s.number ≡ number_below (2 ^ 32) (position G).0 → Some s.offset ≡ number_below (2 ^ 64) (position G).1
    → Keeps HasCounted before G 0)
    → ((aim : ℕ) (G : List ℕ) → IsTailOf s.tail G → Keeps HasCounted before (blanked G) 0
    → IsTailOf read.0 (G ++ piece) × Keeps HasCounted read.1 (blanked (G ++ piece)) 0)
    → IsTailOf read.0 (F ++ piece)
    × ((read.1.number ≡ number_below (2 ^ 32) (position (F ++ piece)).0) × (read.1.offset ≡ number_below (2 ^ 64) (position (F ++ piece)).1))
counted_next s before read F piece has new reads =
    let same : position (blanked F) ≡ position F = position_blanked F in
    let number : Some s.number ≡ number_below (2 ^ 32) (position (blanked F)).0
    = sym (rw (lt-ltb s.number (2 ^ 32) s.number_fits))
    ∙ ap (number_below (2 ^ 32)) has.number_is ∙ ap (λ p. number_below (2 ^ 32) p.0) (sym same) in
    let fits : s.offset < 2 ^ 64 = omega (arith, has.offset_is, has.length_is, s.length_fits) in
    let offset : Some s.offset ≡ number_below (2 ^ 64) (position (blanked F)).1
    = sym (rw (lt-ltb s.offset (2 ^ 64) fits))
    ∙ ap (number_below (2 ^ 64)) has.offset_is ∙ ap (λ p. number_below (2 ^ 64) p.1) (sym same) in
    let done = reads 0 F has.tail_is (new (blanked F) number offset) in
    (done.0, counted_all read.1 (F ++ piece) done.1)
