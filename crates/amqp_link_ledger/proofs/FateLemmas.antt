-- Fates that are given to the pending registrations of tags, one after the other and all at once.
use Rattle.std.proofs.Common.{◌≡◌, ◌∙◌, sym, ap, true, false, cond, [], ◌∷◌, refl, ℕ, zero, suc, Option, Some, None, slice_get, slice_set, arith}
use Rattle.std.specs.Prelude.{bytes_eq}
use Rattle.std.proofs.lemmas.Slice.Eq.{bytes_eq-Decides}
use Rattle.amqp_link_types.specs.Entries.{Tag, Entries, entry_at}
use Rattle.amqp_link_ledger.specs.declared.fate.Fate.{Fate}
use Rattle.amqp_link_ledger.specs.declared.fate.Fate.TheVariants.{Pending, Withdrawn, HandedOut, Resolved, Released}
use Rattle.amqp_link_ledger.specs.Fates.{Records, is_pending_fate, fate_given, with_fates}
use Rattle.amqp_link_ledger.proofs.ListSteps.{some_is, some_is_none, false_true, entry_at-first}

-- a fate that has moved stays
pub moved-kept : (o : Option Fate) (fate : Fate) → is_pending_fate fate ≡ false → fate_given o fate ≡ fate
moved-kept None fate h = refl
moved-kept (Some given) Pending h = absurd (false_true h refl)
moved-kept (Some given) Withdrawn h = refl
moved-kept (Some given) HandedOut h = refl
moved-kept (Some given) (Resolved outcome) h = refl
moved-kept (Some given) Released h = refl

pub moved-not_pending : (o : Option Fate) (fate : Fate) → (fate ≡ Pending → ⊥) → fate_given o fate ≡ fate
moved-not_pending o Pending n = absurd (n refl)
moved-not_pending o Withdrawn n = moved-kept o Withdrawn refl
moved-not_pending o HandedOut n = moved-kept o HandedOut refl
moved-not_pending o (Resolved outcome) n = moved-kept o (Resolved outcome) refl
moved-not_pending o Released n = moved-kept o Released refl

-- what is not pending
pub pending_is : (fate : Fate) → is_pending_fate fate ≡ true → fate ≡ Pending
pending_is Pending h = refl
pending_is Withdrawn h = absurd (false_true refl h)
pending_is HandedOut h = absurd (false_true refl h)
pending_is (Resolved outcome) h = absurd (false_true refl h)
pending_is Released h = absurd (false_true refl h)

-- the records depend on the look-ups alone
pub with_fates-ext : (given other : Entries Fate) (records : Records) → ((tag : Tag) → entry_at given tag ≡ entry_at other tag) → with_fates given records ≡ with_fates other records
with_fates-ext given other [] same = refl
with_fates-ext given other (r ∷ records) same =
    ap (λ o. (r.0, fate_given o r.1) ∷ with_fates given records) (same r.0)
    ∙ ap (λ l. (r.0, fate_given (entry_at other r.0) r.1) ∷ l) (with_fates-ext given other records same)

-- where nothing is given nothing changes
pub with_fates-none : (records : Records) → with_fates [] records ≡ records
with_fates-none [] = refl
with_fates-none (r ∷ records) = ap (λ l. r ∷ l) (with_fates-none records)

-- a tag's fate is given first, the others after it
moved-twice : (o : Option Fate) (first fate : Fate) → is_pending_fate first ≡ false → fate_given (Some first) fate ≡ fate_given o (fate_given (Some first) fate)
moved-twice o first Pending h = sym (moved-kept o first h)
moved-twice o first Withdrawn h = sym (moved-kept o Withdrawn refl)
moved-twice o first HandedOut h = sym (moved-kept o HandedOut refl)
moved-twice o first (Resolved outcome) h = sym (moved-kept o (Resolved outcome) refl)
moved-twice o first Released h = sym (moved-kept o Released refl)

-- the tag is pending at this number alone
abbrev pub IsPendingAt : Tag → Records → ℕ → Type 0
IsPendingAt tag records n = (slice_get records n ≡ Some (tag, Pending))
    × ((m : ℕ) (r : Tag × Fate) → slice_get records m ≡ Some r → r.0 ≡ tag → r.1 ≡ Pending → m ≡ n)

-- the tag is pending nowhere
abbrev pub IsNowhere : Tag → Records → Type 0
IsNowhere tag records = (m : ℕ) (r : Tag × Fate) → slice_get records m ≡ Some r → r.0 ≡ tag → r.1 ≡ Pending → ⊥

pub no_first : (n : ℕ) → suc n ≡ 0 → ⊥
no_first n h = omega (arith, h)

pub one_less : (m n : ℕ) → suc m ≡ suc n → m ≡ n
one_less m n h = omega (arith, h)

module _ (tag : Tag) (fate : Fate) where
  one_first : (given : Entries Fate) (r : Tag × Fate) → is_pending_fate fate ≡ false → fate_given (entry_at ((tag, fate) ∷ given) r.0) r.1 ≡ fate_given (entry_at given r.0) (fate_given (entry_at ((tag, fate) ∷ []) r.0) r.1)
  one_first given r is =
      elim (bytes_eq r.0 tag) as (λ b. fate_given (cond b (Some fate) (entry_at given r.0)) r.1 ≡ fate_given (entry_at given r.0) (fate_given (cond b (Some fate) None) r.1)) [
        | true ↦ moved-twice (entry_at given r.0) fate r.1 is
        | false ↦ refl
      ]

  -- so that fates are given one after the other
  pub one_by_one : (given : Entries Fate) (records : Records) → is_pending_fate fate ≡ false → with_fates ((tag, fate) ∷ given) records ≡ with_fates given (with_fates ((tag, fate) ∷ []) records)
  one_by_one given [] is = refl
  one_by_one given (r ∷ records) is =
      ap (λ f. (r.0, f) ∷ with_fates ((tag, fate) ∷ given) records) (one_first given r is)
      ∙ ap (λ l. (r.0, fate_given (entry_at given r.0) (fate_given (entry_at ((tag, fate) ∷ []) r.0) r.1)) ∷ l) (one_by_one given records is)

  head_stays : (r : Tag × Fate) → (r.0 ≡ tag → r.1 ≡ Pending → ⊥) → fate_given (entry_at ((tag, fate) ∷ []) r.0) r.1 ≡ r.1
  head_stays r n =
      elim (bytes_eq r.0 tag) as (λ b. (bytes_eq r.0 tag ≡ b) → fate_given (cond b (Some fate) None) r.1 ≡ r.1) [
        | true ↦ λ h. moved-not_pending (Some fate) r.1 (n ((bytes_eq-Decides r.0 tag).0 h))
        | false ↦ λ h. refl
      ] refl

  -- a tag that is not pending moves nothing
  pub untouched : (records : Records) → IsNowhere tag records → with_fates ((tag, fate) ∷ []) records ≡ records
  untouched [] none = refl
  untouched (r ∷ records) none = ap (λ f. (r.0, f) ∷ with_fates ((tag, fate) ∷ []) records) (head_stays r (none 0 r refl)) ∙ ap (λ l. r ∷ l) (untouched records (λ m s at. none (suc m) s at))

  -- the fate of a pending tag is set at its number
  pub set_at : (records : Records) (n : ℕ) → IsPendingAt tag records n → with_fates ((tag, fate) ∷ []) records ≡ slice_set records n (tag, fate)
  set_at [] n k = absurd (some_is_none (sym k.0))
  set_at (r ∷ records) zero k =
      let is : r ≡ (tag, Pending) = some_is k.0 in
      ap (λ (r : Tag × Fate). (r.0, fate_given (entry_at ((tag, fate) ∷ []) r.0) r.1) ∷ with_fates ((tag, fate) ∷ []) records) is
      ∙ ap (λ o. (tag, fate_given o Pending) ∷ with_fates ((tag, fate) ∷ []) records) (entry_at-first tag fate [])
      ∙ ap (λ l. (tag, fate) ∷ l) (untouched records (λ m s at same pending. no_first m (k.1 (suc m) s at same pending)))
  set_at (r ∷ records) (suc n) k =
      ap (λ f. (r.0, f) ∷ with_fates ((tag, fate) ∷ []) records) (head_stays r (λ same pending. no_first n (sym (k.1 0 r refl same pending))))
      ∙ ap (λ l. r ∷ l) (set_at records n (k.0, λ m s at same pending. one_less m n (k.1 (suc m) s at same pending)))
