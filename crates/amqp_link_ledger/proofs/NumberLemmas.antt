-- What the index of the numbers shows of the records, and what keeps it.
use Rattle.std.proofs.Common.{◌≡◌, ◌∙◌, sym, ap, true, false, cond, [], ◌∷◌, refl, ℕ, ◌<◌, length, length-append, Option, Some, None, is_some, slice_get, slice_set, arith, if◌then◌else◌}
use native.Mathlib.Decide.{ℕ_discrete, dec_lt}
use Rattle.std.specs.Prelude.{bytes_eq}
use Rattle.std.proofs.lemmas.Option.{slice_get_within}
use Rattle.amqp_link_types.specs.Entries.{Tag, Entries, entry_at}
use Rattle.amqp_link_ledger.specs.declared.fate.Fate.{Fate}
use Rattle.amqp_link_ledger.specs.declared.fate.Fate.TheVariants.{Pending}
use Rattle.amqp_link_ledger.specs.Fates.{Records, is_pending_fate, registered, with_fates, pending_count, IsNumbered}
use Rattle.amqp_link_ledger.proofs.ListSteps.{some_is, some_is_none, false_true, by_test, tag_is, is_tag, get_set_same, get_set_other, get_push_old, get_push_new}
use Rattle.amqp_link_ledger.proofs.FateLemmas.{IsPendingAt, IsNowhere, untouched, set_at}
use Rattle.amqp_link_ledger.proofs.CountLemmas.{count-nowhere, count-pending_at}

module _ (records : Records) (numbers : Entries ℕ) (h : IsNumbered records numbers) where
  -- ---- what it shows

  pub pending_at : (tag : Tag) (n : ℕ) → entry_at numbers tag ≡ Some n → IsPendingAt tag records n
  pending_at tag n e = (
    h.stands tag n e,
    λ m r at same pending. some_is (sym (h.found tag m (at ∙ (λ i. Some (same i, pending i)))) ∙ e),
  )

  pub nowhere : (tag : Tag) → entry_at numbers tag ≡ None → IsNowhere tag records
  nowhere tag e = λ m r at same pending. some_is_none (sym (h.found tag m (at ∙ (λ i. Some (same i, pending i)))) ∙ e)

  pub set_is : (tag : Tag) (n : ℕ) (fate : Fate) → entry_at numbers tag ≡ Some n → slice_set records n (tag, fate) ≡ with_fates ((tag, fate) ∷ []) records
  set_is tag n fate e = sym (set_at tag fate records n (pending_at tag n e))

  pub untouched_is : (tag : Tag) (fate : Fate) → entry_at numbers tag ≡ None → records ≡ with_fates ((tag, fate) ∷ []) records
  untouched_is tag fate e = sym (untouched tag fate records (nowhere tag e))

  pub count_from_number : (tag : Tag) → pending_count tag records ≡ (if is_some (entry_at numbers tag) then 1 else 0)
  count_from_number tag = by (entry_at numbers tag) refl
    where
      by : (o : Option ℕ) → entry_at numbers tag ≡ o → pending_count tag records ≡ (if is_some o then 1 else 0)
      by None e = count-nowhere tag records (nowhere tag e)
      by (Some n) e = count-pending_at tag records n (pending_at tag n e)

  pub numberless : (tag : Tag) → pending_count tag records ≡ 0 → entry_at numbers tag ≡ None
  numberless tag free = by (entry_at numbers tag) (sym (count_from_number tag) ∙ free)
    where
      by : (o : Option ℕ) → ◌≡◌ {A = ℕ} (if is_some o then 1 else 0) 0 → o ≡ None
      by None e = refl
      by (Some n) e = absurd (omega (arith, e))

  -- ---- what keeps it

  -- the fate of a numbered registration is set, and the number goes
  module _ (tag : Tag) (numbers2 : Entries ℕ)
      (now : (other : Tag) → entry_at numbers2 other ≡ (if bytes_eq tag other then None else entry_at numbers other)) where
    at_other : (other : Tag) → bytes_eq tag other ≡ false → entry_at numbers2 other ≡ entry_at numbers other
    at_other other e = now other ∙ ap (λ b. cond b None (entry_at numbers other)) e

    at_same : (other : Tag) → bytes_eq tag other ≡ true → entry_at numbers2 other ≡ None
    at_same other e = now other ∙ ap (λ b. cond b None (entry_at numbers other)) e

    pub IsNumbered-set : (n : ℕ) (fate : Fate) → entry_at numbers tag ≡ Some n → is_pending_fate fate ≡ false → IsNumbered (slice_set records n (tag, fate)) numbers2
    IsNumbered-set n fate e over = record {
      stands = λ other k here. by_test (bytes_eq tag other)
          (λ y. absurd (some_is_none (sym here ∙ at_same other y)))
          (λ y.
          let there = h.stands other k (sym (at_other other y) ∙ here) in
          get_set_other records n k done (λ z. false_true y (another other k there z)) ∙ there);
      found = λ other k here. elim (ℕ_discrete k n) [
        | yes z ↦ absurd (false_true over (ap (λ (r : Tag × Fate). is_pending_fate r.1) (some_is (sym (get_set_same records n (tag, Pending) done at) ∙ ap (slice_get (slice_set records n done)) (sym z) ∙ here))))
        | no apart ↦
            let there = sym (get_set_other records n k done apart) ∙ here in
            by_test (bytes_eq tag other)
            (λ y. absurd (apart (some_is (sym (h.found other k there) ∙ ap (entry_at numbers) (sym (tag_is tag other y)) ∙ e))))
            (λ y. at_other other y ∙ h.found other k there)
      ];
    }
      where
        done : Tag × Fate
        done = (tag, fate)

        at : slice_get records n ≡ Some (tag, Pending)
        at = h.stands tag n e

        another : (other : Tag) (k : ℕ) → slice_get records k ≡ Some (other, Pending) → k ≡ n → bytes_eq tag other ≡ true
        another other k there z = is_tag tag other (ap (λ (r : Tag × Fate). r.0) (some_is (sym at ∙ ap (slice_get records) (sym z) ∙ there)))

  -- a number is put beside a new registration of a tag that has none
  pub IsNumbered-registered : (tag : Tag) (numbers2 : Entries ℕ) → entry_at numbers tag ≡ None
      → ((other : Tag) → entry_at numbers2 other ≡ (if bytes_eq tag other then Some (length records) else entry_at numbers other))
      → IsNumbered (registered tag records) numbers2
  IsNumbered-registered tag numbers2 free now = record {
    stands = λ other k here. by_test (bytes_eq tag other)
        (λ y. ap (slice_get all) (some_is (sym here ∙ at_same other y)) ∙ get_push_new records (tag, Pending) ∙ ap (λ t. Some (t, Pending)) (tag_is tag other y))
        (λ y. let there = h.stands other k (sym (at_other other y) ∙ here) in get_push_old records k (tag, Pending) (slice_get_within records k _ there) ∙ there);
    found = λ other k here. elim (dec_lt k (length records)) [
      | yes l ↦
          let there = sym (get_push_old records k (tag, Pending) l) ∙ here in
          by_test (bytes_eq tag other)
          (λ y. absurd (some_is_none (sym (h.found other k there) ∙ ap (entry_at numbers) (sym (tag_is tag other y)) ∙ free)))
          (λ y. at_other other y ∙ h.found other k there)
      | no n ↦
          let within : k < length all = slice_get_within all k _ here in
          let last : length records ≡ k = omega (arith, n, length-append records ((tag, Pending) ∷ []), within) in
          let one : tag ≡ other = ap (λ (r : Tag × Fate). r.0) (some_is (sym (get_push_new records (tag, Pending)) ∙ ap (slice_get all) last ∙ here)) in
          at_same other (is_tag tag other one) ∙ ap Some last
    ];
  }
    where
      all : Records
      all = registered tag records

      at_same : (other : Tag) → bytes_eq tag other ≡ true → entry_at numbers2 other ≡ Some (length records)
      at_same other y = now other ∙ ap (λ b. if b then Some (length records) else entry_at numbers other) y

      at_other : (other : Tag) → bytes_eq tag other ≡ false → entry_at numbers2 other ≡ entry_at numbers other
      at_other other y = now other ∙ ap (λ b. if b then Some (length records) else entry_at numbers other) y
