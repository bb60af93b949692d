-- Halving the entries of an attach until it fits, step by step.
use Rattle.std.proofs.Common.{◌≡◌, ℕ, zero, suc, ◌*◌, ◌/◌, ◌^◌, ◌<◌, ◌≤◌, ◌==◌, Bool, true, false, [], ◌∷◌, take, length, Some, None, refl, sym, ap, subst, ◌∙◌, arith, if◌then◌else◌, ◌⊎◌, inl, inr}
use Rattle.std.specs.Prelude.{option_map}
use Rattle.std.proofs.Math.Nat.{div-div-eq-div-mul, pow-suc, one-le-pow, pow-le-pow_right, div-lt_iff_lt-mul, div-eq_of_lt, div-one}
use Rattle.std.proofs.lemmas.List.{take-take}
use borrow.Author.Count.{below_more}
use Rattle.amqp_link_types.specs.declared.types.attach.Attach.{Attach}
use Rattle.amqp_link_types.proofs.SizeLemmas.{attach_len-marked}
use Rattle.amqp_link_endpoint.specs.Attaching.{States, with_entries, FitsFrame, NeverFitsFrame}

-- as far as the halving has come: `count` entries are left
pub record Halved (attach : Attach) (entries : States) (frame count : ℕ) (now : Attach) : Type 0 where
  pub halvings : ℕ
  pub left : count ≡ length entries / 2 ^ halvings
  pub sent : now ≡ with_entries attach entries halvings
  pub least : (i : ℕ) → i < halvings → ¬ FitsFrame (with_entries attach entries i) frame

-- the first `count` of them, marked
abbrev pub kept : ℕ → Attach → Attach
kept count sent = record sent { unsettled = option_map (take count) sent.unsettled; incomplete_unsettled = true }

-- what one halving more leaves
half_again : (n j : ℕ) → n / 2 ^ suc j ≡ n / 2 ^ j / 2
half_again n j = ap (λ k. n / k) (pow-suc 2 j) ∙ sym (div-div-eq-div-mul n (2 ^ j) 2)

-- taking fewer of what was taken
kept_entries : (es : States) (b : Bool) (m n : ℕ) → m ≤ n
    → option_map (take m) (if b then None else Some (take n es)) ≡ (if b then None else Some (take m es))
kept_entries es true m n h = refl
kept_entries es false m n h = ap Some (take-take m n es h)

-- one halving more of what is sent
kept-with_entries : (attach : Attach) (entries : States) (j : ℕ)
    → kept (length entries / 2 ^ suc j) (with_entries attach entries j) ≡ with_entries attach entries (suc j)
kept-with_entries attach entries j =
    let less : length entries / 2 ^ suc j ≤ length entries / 2 ^ j = omega (arith, half_again (length entries) j) in
    ap (λ u. record attach { unsettled = u; incomplete_unsettled = true })
    (kept_entries entries (length entries == 0) (length entries / 2 ^ suc j) (length entries / 2 ^ j) less)

-- what holds below j and at j
below_suc : (P : ℕ → Type 0) (j : ℕ) → ((i : ℕ) → i < j → P i) → P j → (i : ℕ) → i < suc j → P i
below_suc P j below here i h = below_more P j below here i (omega arith)

-- where that is too large, half of it is the next step
pub Halved-next : {attach : Attach} {entries : States} {frame count : ℕ} {sent : Attach}
    → Halved attach entries frame count sent → ¬ FitsFrame sent frame
    → Halved attach entries frame (count / 2) (kept (count / 2) sent)
Halved-next {attach} {entries} {frame} {count} {sent} h large =
    let e : count / 2 ≡ length entries / 2 ^ suc h.halvings = ap (λ k. k / 2) h.left ∙ sym (half_again (length entries) h.halvings) in
    record {
      halvings = suc h.halvings;
      left = e;
      sent = rw (e, h.sent) (kept-with_entries attach entries h.halvings);
      least = below_suc (λ i. ¬ FitsFrame (with_entries attach entries i) frame) h.halvings h.least (rw h.sent at large);
    }

-- ---- where none is left

below_or_from : (i j : ℕ) → (i < j) ⊎ (j ≤ i)
below_or_from i zero = inr (omega arith)
below_or_from zero (suc j) = inl (omega arith)
below_or_from (suc i) (suc j) = elim (below_or_from i j) [ inl h ↦ inl (omega arith) | inr h ↦ inr (omega arith) ]

-- no more are left by more halvings
none_on : (n i j : ℕ) → 0 ≡ n / 2 ^ j → j ≤ i → n / 2 ^ i ≡ 0
none_on n i j none from =
    let some : 1 ≤ 2 ^ j = one-le-pow j 2 (omega arith) in
    let below : n < 1 * 2 ^ j = (div-lt_iff_lt-mul {k = 2 ^ j} {x = n} {y = 1} (omega arith)).0 (omega arith) in
    let more : 2 ^ j ≤ 2 ^ i = pow-le-pow_right {n = 2} (omega arith) {i = j} {j = i} from in
    div-eq_of_lt {n = n} {m = 2 ^ i} (omega arith)

-- no more fit by more halvings, where none is left
never_from : (attach : Attach) (entries : States) (frame : ℕ) (i j : ℕ) → 0 ≡ length entries / 2 ^ j → j ≤ i
    → ¬ FitsFrame (with_entries attach entries j) frame → ¬ FitsFrame (with_entries attach entries i) frame
never_from attach entries frame zero zero none from large = large
never_from attach [] frame (suc i) zero none from large =
    λ f. large (record { within = omega (arith, attach_len-marked (record attach { unsettled = None }), f.within) })
never_from attach (e ∷ es) frame (suc i) zero none from large = absurd (omega (arith, div-one (length (e ∷ es))))
never_from attach entries frame zero (suc j) none from large = absurd (omega arith)
never_from attach entries frame (suc i) (suc j) none from large =
    let same : length entries / 2 ^ suc i ≡ length entries / 2 ^ suc j = none_on (length entries) (suc i) (suc j) none from ∙ none in
    λ f. large (subst (λ n. FitsFrame (record attach { unsettled = if length entries == 0 then None else Some (take n entries); incomplete_unsettled = true }) frame) same f)

-- so none fits: neither fewer halvings nor more
never : (attach : Attach) (entries : States) (frame : ℕ) (j : ℕ) → 0 ≡ length entries / 2 ^ j
    → ((i : ℕ) → i < j → ¬ FitsFrame (with_entries attach entries i) frame)
    → ¬ FitsFrame (with_entries attach entries j) frame
    → (i : ℕ) → ¬ FitsFrame (with_entries attach entries i) frame
never attach entries frame j none least large i =
    elim (below_or_from i j) [ inl h ↦ least i h | inr h ↦ never_from attach entries frame i j none h large ]

pub Halved-never : {attach : Attach} {entries : States} {frame : ℕ} {sent : Attach}
    → Halved attach entries frame 0 sent → ¬ FitsFrame sent frame → NeverFitsFrame attach entries frame
Halved-never {attach} {entries} {frame} {sent} h large = record {
  none = never attach entries frame h.halvings h.left h.least (rw h.sent at large);
}
