-- A walk over a list that gives one fate after the other.
use Rattle.std.proofs.Common.{◌≡◌, ◌∙◌, sym, ap, false, List, [], ◌∷◌, refl, ℕ, zero, suc, ◌+◌, ◌<◌, ◌≤◌, map, drop, length, get_or, drop-cons, add-one, arith}
use Rattle.amqp_link_types.specs.Entries.{Tag, Entries}
use Rattle.amqp_link_ledger.specs.declared.fate.Fate.{Fate}
use Rattle.amqp_link_ledger.specs.Fates.{Records, is_pending_fate, with_fates}
use Rattle.amqp_link_ledger.proofs.FateLemmas.{one_by_one, with_fates-none}

module _ {X : Type 0} where
  -- the pair at the index, and the others
  pub front : (list : List X) (i : ℕ) (e : X) → i < length list → e ≡ get_or list i e → drop i list ≡ e ∷ drop (i + 1) list
  front list i e within at =
      drop-cons list i e within ∙ ap (λ n. get_or list i e ∷ drop n list) (sym (add-one i)) ∙ ap (λ x. x ∷ drop (i + 1) list) (sym at)

  pub none_after : (list : List X) (i : ℕ) → length list ≤ i → drop i list ≡ []
  none_after [] zero h = refl
  none_after [] (suc i) h = refl
  none_after (x ∷ list) zero h = absurd (omega arith)
  none_after (x ∷ list) (suc i) h = none_after list i (omega arith)

module _ {X : Type 0} (fate_of : X → Fate) (final : (x : X) → is_pending_fate (fate_of x) ≡ false) where
  -- the fates that a list gives
  abbrev pub given_by : Entries X → Entries Fate
  given_by list = map (λ e. (e.0, fate_of e.1)) list

  -- one pair's fate is given, and the others are still to be given
  pub given_next : (list : Entries X) (i : ℕ) (e : Tag × X) (now next aim : Records) → i < length list → e ≡ get_or list i e
      → next ≡ with_fates ((e.0, fate_of e.1) ∷ []) now → with_fates (given_by (drop i list)) now ≡ aim → with_fates (given_by (drop (i + 1) list)) next ≡ aim
  given_next list i e now next aim within at step left =
      ap (with_fates (given_by (drop (i + 1) list))) step
      ∙ sym (one_by_one e.0 (fate_of e.1) (given_by (drop (i + 1) list)) now (final e.1))
      ∙ sym (ap (λ l. with_fates (given_by l) now) (front list i e within at))
      ∙ left

  -- past the last pair all are given
  pub given_all : (list : Entries X) (i : ℕ) (now aim : Records) → length list ≤ i → with_fates (given_by (drop i list)) now ≡ aim → now ≡ aim
  given_all list i now aim past left =
      sym (with_fates-none now) ∙ sym (ap (λ l. with_fates (given_by l) now) (none_after list i past)) ∙ left

-- of two lists side by side the items at the index, and the others
module _ {X : Type 0} (list : Entries X) (i : ℕ) (e : Tag × X) (within : i < length list) (at : e ≡ get_or list i e) (x : X) (rest : List X)
    (same : x ∷ rest ≡ map (λ e. e.1) (drop i list)) where
  beside : x ∷ rest ≡ e.1 ∷ map (λ e. e.1) (drop (i + 1) list)
  beside = same ∙ ap (map (λ e. e.1)) (front list i e within at)

  pub beside_first : x ≡ e.1
  beside_first = let h = beside in cc

  pub beside_others : rest ≡ map (λ e. e.1) (drop (i + 1) list)
  beside_others = let h = beside in cc
