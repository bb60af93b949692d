-- Registrations are released: the numbers of the others stay, and what is pending.
use Rattle.std.proofs.Common.{◌≡◌, ◌∙◌, ◌+◌, ◌-◌, ◌<◌, ◌≤◌, ◌++◌, ap, arith, refl, subst, sym, ℕ, zero, suc, true, false, inl, inr, [], ◌∷◌, Option, Some, None, Result, Ok, Err, drop, length, slice_get, slice_set}
use Rattle.std.specs.Prelude.{IsSomeAnd, IsTrue, OnErr, OnOk, nat_lt, ◌^◌}
use Rattle.std.proofs.lemmas.Bool.{and_from, and_parts, cases_lt, lt-ltb, ltb-true}
use Rattle.std.proofs.lemmas.Option.{slice_get_within}
use Rattle.amqp_link_types.specs.Entries.{Tag, Entries}
use Rattle.amqp_link_ledger.specs.declared.fate.Fate.{Fate}
use Rattle.amqp_link_ledger.specs.declared.fate.Fate.TheVariants.{Pending}
use Rattle.amqp_link_ledger.specs.Fates.{IsNumbered, IsRecorded, NonePending, Records, RecordsAndRoom, after_gone, gone, is_pending_fate, is_room_for_one, pending_count, with_released}
use Rattle.amqp_link_ledger.proofs.CountLemmas.{count-skipped}
use Rattle.amqp_link_ledger.proofs.ListSteps.{false_true, some_is, some_is_none}

module _ (kept : Records) where
  pub get_gone : (r n : ℕ) → n < r → slice_get (after_gone r kept) n ≡ Some gone
  get_gone zero n h = absurd (omega arith)
  get_gone (suc r) zero h = refl
  get_gone (suc r) (suc n) h = get_gone r n (omega arith)

  pub get_from : (r n : ℕ) → r ≤ n → slice_get (after_gone r kept) n ≡ slice_get kept (n - r)
  get_from zero n h = ap (slice_get kept) (omega arith)
  get_from (suc r) zero h = absurd (omega arith)
  get_from (suc r) (suc n) h = get_from r n (omega arith) ∙ ap (slice_get kept) (omega arith)

  pub length_gone : (r : ℕ) → length (after_gone r kept) ≡ r + length kept
  length_gone zero = omega arith
  length_gone (suc r) = ap suc (length_gone r) ∙ omega arith

  pub past_kept : (r n : ℕ) → r ≤ n → length kept ≤ n - r → length (after_gone r kept) ≤ n
  past_kept r n h past = omega (arith, length_gone r, h, past)

  pub set_from : (r n : ℕ) (x : Tag × Fate) → r ≤ n → after_gone r (slice_set kept (n - r) x) ≡ slice_set (after_gone r kept) n x
  set_from zero n x h = ap (λ k. slice_set kept k x) (omega arith)
  set_from (suc r) zero x h = absurd (omega arith)
  set_from (suc r) (suc n) x h = ap (λ k. gone ∷ after_gone r (slice_set kept k x)) (omega arith) ∙ ap (λ l. gone ∷ l) (set_from r n x (omega arith))

  pub pushed : (r : ℕ) (x : Tag × Fate) → after_gone r (kept ++ x ∷ []) ≡ after_gone r kept ++ x ∷ []
  pushed zero x = refl
  pushed (suc r) x = ap (λ l. gone ∷ l) (pushed r x)

  -- what is released already changes nothing
  pub released_before : (before r : ℕ) → before ≤ r → with_released before (after_gone r kept) ≡ after_gone r kept
  released_before zero r h = by (after_gone r kept)
    where
      by : (l : Records) → with_released zero l ≡ l
      by [] = refl
      by (x ∷ l) = refl
  released_before (suc n) zero h = absurd (omega arith)
  released_before (suc n) (suc r) h = ap (λ l. gone ∷ l) (released_before n r (omega arith))

  pub dropped : (r : ℕ) → drop r (after_gone r kept) ≡ kept
  dropped zero = by kept
    where
      by : (l : Records) → drop zero l ≡ l
      by [] = refl
      by (x ∷ l) = refl
  dropped (suc r) = dropped r

-- those from a number on are left
pub released_is : (records : Records) (r : ℕ) → r ≤ length records → after_gone r (drop r records) ≡ with_released r records
released_is [] zero h = refl
released_is [] (suc r) h = absurd (omega arith)
released_is (x ∷ records) zero h = refl
released_is (x ∷ records) (suc r) h = ap (λ l. gone ∷ l) (released_is records r (omega arith))

-- one more
pub drop_next : (records : Records) (r : ℕ) (x : Tag × Fate) (left : Records) → drop r records ≡ x ∷ left → (r < length records) × (drop (suc r) records ≡ left)
drop_next [] zero x left h = absurd (cc)
drop_next [] (suc r) x left h = absurd (cc)
drop_next (y ∷ records) zero x left h = (omega arith, by records ∙ cc)
  where
    by : (l : Records) → drop zero l ≡ l
    by [] = refl
    by (z ∷ l) = refl
drop_next (y ∷ records) (suc r) x left h =
    let rest = drop_next records r x left h in
    (omega (arith, rest.0), rest.1)

-- none is left
pub released_all : (records : Records) (r before : ℕ) → drop r records ≡ [] → r ≤ length records → r ≤ before → with_released r records ≡ with_released before records
released_all [] zero zero none h le = refl
released_all [] zero (suc n) none h le = refl
released_all [] (suc r) n none h le = absurd (omega arith)
released_all (x ∷ records) zero n none h le = absurd (cc)
released_all (x ∷ records) (suc r) zero none h le = absurd (omega arith)
released_all (x ∷ records) (suc r) (suc n) none h le = ap (λ l. gone ∷ l) (released_all records r n none (omega arith) (omega arith))

-- ---- what is pending

pub none_gone : (kept : Records) (r : ℕ) → NonePending r (after_gone r kept)
none_gone kept r n x h at = sym (ap (λ (r : Tag × Fate). is_pending_fate r.1) (some_is (sym (get_gone kept r n h) ∙ at)))

pub none_next : (records : Records) (n : ℕ) (x : Tag × Fate) → NonePending n records → slice_get records n ≡ Some x → is_pending_fate x.1 ≡ false → NonePending (n + 1) records
none_next records n x none at is m y h there = elim (cases_lt m n) [
  | inl lt ↦ none m y lt there
  | inr le ↦
      let here : m ≡ n = omega (arith, h, le) in
      ap (λ (r : Tag × Fate). is_pending_fate r.1) (some_is (sym there ∙ ap (slice_get records) here ∙ at)) ∙ is
]

pub none_further : (records : Records) (n before : ℕ) → NonePending n records → length records ≤ n → NonePending before records
none_further records n before none end m y h there =
    let within : m < length records = slice_get_within records m y there in
    none m y (omega (arith, within, end)) there

-- a pending one is among those that are left
pub pending_after : (kept : Records) (r n : ℕ) → IsSomeAnd (slice_get (after_gone r kept) n) (λ x. is_pending_fate x.1 ≡ true) → r ≤ n
pending_after kept r n h = elim (cases_lt n r) [
  | inl lt ↦ absurd (false_true refl (subst (λ o. IsSomeAnd o (λ (x : Tag × Fate). is_pending_fate x.1 ≡ true)) (get_gone kept r n lt) h))
  | inr le ↦ le
]

pub pending_within : (kept : Records) (r n : ℕ) → IsSomeAnd (slice_get (after_gone r kept) n) (λ x. is_pending_fate x.1 ≡ true) → n - r < length kept
pending_within kept r n h = by (slice_get kept (n - r)) refl (subst (λ o. IsSomeAnd o (λ (x : Tag × Fate). is_pending_fate x.1 ≡ true)) (get_from kept r n (pending_after kept r n h)) h)
  where
    by : (o : Option (Tag × Fate)) → slice_get kept (n - r) ≡ o → IsSomeAnd o (λ x. is_pending_fate x.1 ≡ true) → n - r < length kept
    by None e p = absurd p
    by (Some x) e p = slice_get_within kept (n - r) x e

module _ (tag : Tag) where
  skip_both : (r s : Tag × Fate) (records others : Records) → is_pending_fate r.1 ≡ false → is_pending_fate s.1 ≡ false → pending_count tag records ≡ pending_count tag others
      → pending_count tag (r ∷ records) ≡ pending_count tag (s ∷ others)
  skip_both r s records others is too same = count-skipped tag r records is ∙ same ∙ sym (count-skipped tag s others too)

  -- those that are released were not pending
  pub count-released : (records : Records) (n : ℕ) → NonePending n records → pending_count tag (with_released n records) ≡ pending_count tag records
  count-released [] zero none = refl
  count-released [] (suc n) none = refl
  count-released (r ∷ records) zero none = refl
  count-released (r ∷ records) (suc n) none =
      skip_both gone r (with_released n records) records refl (none zero r (omega arith) refl) (count-released records n (λ m x h at. none (suc m) x (omega (arith, h)) at))

-- ---- at a number

get_released : (records : Records) (n m : ℕ) → n ≤ m → slice_get (with_released n records) m ≡ slice_get records m
get_released [] zero m h = refl
get_released [] (suc n) m h = refl
get_released (r ∷ records) zero m h = refl
get_released (r ∷ records) (suc n) zero h = absurd (omega arith)
get_released (r ∷ records) (suc n) (suc m) h = get_released records n m (omega arith)

get_released_before : (records : Records) (n m : ℕ) (x : Tag × Fate) → m < n → slice_get (with_released n records) m ≡ Some x → x ≡ gone
get_released_before [] zero m x h at = absurd (omega arith)
get_released_before [] (suc n) m x h at = absurd (some_is_none (sym at))
get_released_before (r ∷ records) zero m x h at = absurd (omega arith)
get_released_before (r ∷ records) (suc n) zero x h at = sym (some_is at)
get_released_before (r ∷ records) (suc n) (suc m) x h at = get_released_before records n m x (omega arith) at

-- a pending one stays at its number
stays_pending : (records : Records) (n m : ℕ) (tag : Tag) → NonePending n records → slice_get records m ≡ Some (tag, Pending) → slice_get (with_released n records) m ≡ Some (tag, Pending)
stays_pending records n m tag none at = elim (cases_lt m n) [
  | inl lt ↦ absurd (false_true (none m (tag, Pending) lt at) refl)
  | inr le ↦ get_released records n m le ∙ at
]

was_pending : (records : Records) (n m : ℕ) (tag : Tag) → slice_get (with_released n records) m ≡ Some (tag, Pending) → slice_get records m ≡ Some (tag, Pending)
was_pending records n m tag at = elim (cases_lt m n) [
  | inl lt ↦ absurd (false_true (ap (λ (r : Tag × Fate). is_pending_fate r.1) (get_released_before records n m (tag, Pending) lt at)) refl)
  | inr le ↦ sym (get_released records n m le) ∙ at
]

pub IsNumbered-released : (records : Records) (numbers : Entries ℕ) (n : ℕ) → IsNumbered records numbers → NonePending n records → IsNumbered (with_released n records) numbers
IsNumbered-released records numbers n h none = record {
  stands = λ tag m at. stays_pending records n m tag none (h.stands tag m at);
  found = λ tag m at. h.found tag m (was_pending records n m tag at);
}

pub IsRecorded-released : {V : Type 0} (unsettled : Entries V) (records : Records) (n : ℕ) → IsRecorded unsettled records → NonePending n records
    → IsRecorded unsettled (with_released n records)
IsRecorded-released unsettled records n h none = record { distinct = h.distinct; pending = λ tag. count-released tag records n none ∙ h.pending tag }

-- they are released, or one of them is pending
pub recorded_either_way : {V A E : Type 0} (r : Result A E) (unsettled : Entries V) (old new : RecordsAndRoom) (n : ℕ) → IsRecorded unsettled old.records
    → OnOk r (new.records ≡ with_released n old.records) → OnOk r (NonePending n old.records) → OnErr r (new ≡ old) → IsRecorded unsettled new.records
recorded_either_way (Ok a) unsettled old new n h released none left =
    subst (IsRecorded unsettled) (sym released) (IsRecorded-released unsettled old.records n h none)
recorded_either_way (Err e) unsettled old new n h released none left = subst (λ (v : RecordsAndRoom). IsRecorded unsettled v.records) (sym left) h

-- ---- room

pub room_from : (r len capacity : ℕ) → len + 1 ≤ capacity → r + len < 2 ^ 64 - 1 → IsTrue (is_room_for_one r len capacity)
room_from r len capacity room number = and_from (nat_lt len capacity) (nat_lt (r + len) (2 ^ 64 - 1)) (lt-ltb len capacity (omega (arith, room))) (lt-ltb (r + len) (2 ^ 64 - 1) number)

pub on_ok : {A E P Q : Type 0} (r : Result A E) → OnOk r P → (P → Q) → OnOk r Q
on_ok (Ok a) p f = f p
on_ok (Err e) p f = p

pub room_after : (r len s left capacity : ℕ) → left ≤ len → s + left ≡ r + len → IsTrue (is_room_for_one r len capacity) → IsTrue (is_room_for_one s left capacity)
room_after r len s left capacity fewer total has =
    let parts = and_parts (nat_lt len capacity) (nat_lt (r + len) (2 ^ 64 - 1)) has in
    let room : len < capacity = ltb-true len capacity parts.0 in
    and_from (nat_lt left capacity) (nat_lt (s + left) (2 ^ 64 - 1)) (lt-ltb left capacity (omega (arith, fewer, room))) (ap (λ n. nat_lt n (2 ^ 64 - 1)) total ∙ parts.1)
