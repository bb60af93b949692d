-- The fates of one tag, and how many of them are pending.
use Rattle.std.proofs.Common.{◌≡◌, ◌≢◌, ◌∙◌, sym, ap, true, false, cond, List, [], ◌∷◌, ◌++◌, refl, ℕ, zero, suc, ◌+◌, map, length, Some, None, length-append}
use Rattle.std.specs.Prelude.{bytes_eq, filter}
use Rattle.std.specs.List.{count_by}
use Rattle.std.proofs.lemmas.Slice.Eq.{bytes_eq-Decides}
use Rattle.std.proofs.lemmas.List.{map-append}
use Rattle.std.proofs.lemmas.List.Elements.{filter-append}
use Rattle.std.proofs.lemmas.List.Sums.{length-filter}
use Rattle.amqp_link_types.specs.Entries.{Tag, Entries, entry_at}
use Rattle.amqp_link_types.proofs.MapLemmas.{same_tag, other_tag}
use Rattle.amqp_link_ledger.specs.declared.fate.Fate.{Fate}
use Rattle.amqp_link_ledger.specs.declared.fate.Fate.TheVariants.{Pending, Withdrawn, HandedOut, Resolved, Released}
use Rattle.amqp_link_ledger.specs.Fates.{Records, fates_of, is_pending_fate, fate_given, with_fates, registered, pending_count}
use Rattle.amqp_link_ledger.proofs.ListSteps.{some_is, some_is_none, nothing_more, by_test, tag_is, is_tag}
use Rattle.amqp_link_ledger.proofs.FateLemmas.{IsPendingAt, IsNowhere, pending_is, no_first, one_less}

-- ---- the fates of a tag

pub fates-append : (tag : Tag) (xs ys : Records) → fates_of tag (xs ++ ys) ≡ fates_of tag xs ++ fates_of tag ys
fates-append tag xs ys = ap (map (λ (r : Tag × Fate). r.1)) (filter-append (λ r. bytes_eq tag r.0) xs ys) ∙ map-append (λ (r : Tag × Fate). r.1) (filter (λ r. bytes_eq tag r.0) xs) (filter (λ r. bytes_eq tag r.0) ys)

pub fates_registered : (tag : Tag) (records : Records) → fates_of tag (registered tag records) ≡ fates_of tag records ++ Pending ∷ []
fates_registered tag records = fates-append tag records ((tag, Pending) ∷ []) ∙ ap (λ b. fates_of tag records ++ map (λ (r : Tag × Fate). r.1) (cond b ((tag, Pending) ∷ []) [])) (same_tag tag)

pub fates_registered_other : (tag other : Tag) (records : Records) → other ≢ tag → fates_of other (registered tag records) ≡ fates_of other records
fates_registered_other tag other records n =
    fates-append other records ((tag, Pending) ∷ [])
    ∙ ap (λ b. fates_of other records ++ map (λ (r : Tag × Fate). r.1) (cond b ((tag, Pending) ∷ []) [])) (other_tag other tag n)
    ∙ nothing_more (fates_of other records)

-- each fate of a tag moves by what is given for the tag
pub fates_given : (tag : Tag) (given : Entries Fate) (records : Records) → fates_of tag (with_fates given records) ≡ map (fate_given (entry_at given tag)) (fates_of tag records)
fates_given tag given [] = refl
fates_given tag given (r ∷ records) =
    let fates : List (Tag × Fate) → List Fate = λ l. map (λ (r : Tag × Fate). r.1) l in
    let new = filter (λ (r : Tag × Fate). bytes_eq tag r.0) (with_fates given records) in
    let old = filter (λ (r : Tag × Fate). bytes_eq tag r.0) records in
    elim (bytes_eq tag r.0) as (λ b. (bytes_eq tag r.0 ≡ b) → fates (cond b ((r.0, fate_given (entry_at given r.0) r.1) ∷ new) new) ≡ map (fate_given (entry_at given tag)) (fates (cond b (r ∷ old) old))) [
      | true ↦ λ h.
          let same : r.0 ≡ tag = sym ((bytes_eq-Decides tag r.0).0 h) in
          ap (λ t. fate_given (entry_at given t) r.1 ∷ fates new) same ∙ ap (λ l. fate_given (entry_at given tag) r.1 ∷ l) (fates_given tag given records)
      | false ↦ λ h. fates_given tag given records
    ] refl

pub none_given : (fates : List Fate) → map (fate_given None) fates ≡ fates
none_given [] = refl
none_given (fate ∷ fates) = ap (λ l. fate ∷ l) (none_given fates)

-- ---- how many are pending

-- the count as the length of those that are pending
pub left : List Fate → List Fate
left fates = filter is_pending_fate fates

pub count_is : (tag : Tag) (records : Records) → pending_count tag records ≡ length (left (fates_of tag records))
unfolding left
count_is tag records = sym (length-filter is_pending_fate (fates_of tag records))

-- a given fate that is not pending leaves none
pub left_moved : (fate : Fate) (fates : List Fate) → is_pending_fate fate ≡ false → left (map (fate_given (Some fate)) fates) ≡ []
unfolding left
left_moved fate [] is = refl
left_moved fate (Pending ∷ fates) is = ap (λ b. cond b (fate ∷ filter is_pending_fate (map (fate_given (Some fate)) fates)) (filter is_pending_fate (map (fate_given (Some fate)) fates))) is ∙ left_moved fate fates is
left_moved fate (Withdrawn ∷ fates) is = left_moved fate fates is
left_moved fate (HandedOut ∷ fates) is = left_moved fate fates is
left_moved fate (Resolved outcome ∷ fates) is = left_moved fate fates is
left_moved fate (Released ∷ fates) is = left_moved fate fates is

pub count-registered : (tag : Tag) (records : Records) → pending_count tag (registered tag records) ≡ pending_count tag records + 1
unfolding left
count-registered tag records =
    count_is tag (registered tag records)
    ∙ ap (λ l. length (filter is_pending_fate l)) (fates_registered tag records)
    ∙ ap length (filter-append is_pending_fate (fates_of tag records) (Pending ∷ []))
    ∙ length-append (left (fates_of tag records)) (Pending ∷ [])
    ∙ ap (λ n. n + 1) (sym (count_is tag records))

pub count-registered_other : (tag other : Tag) (records : Records) → other ≢ tag → pending_count other (registered tag records) ≡ pending_count other records
count-registered_other tag other records n = ap (count_by is_pending_fate) (fates_registered_other tag other records n)

pub count-given : (tag : Tag) (given : Entries Fate) (records : Records) (fate : Fate) → entry_at given tag ≡ Some fate → is_pending_fate fate ≡ false → pending_count tag (with_fates given records) ≡ 0
count-given tag given records fate at is =
    count_is tag (with_fates given records)
    ∙ ap (λ l. length (left l)) (fates_given tag given records ∙ ap (λ o. map (fate_given o) (fates_of tag records)) at)
    ∙ ap length (left_moved fate (fates_of tag records) is)

pub count-not_given : (tag : Tag) (given : Entries Fate) (records : Records) → entry_at given tag ≡ None → pending_count tag (with_fates given records) ≡ pending_count tag records
count-not_given tag given records at =
    ap (count_by is_pending_fate) (fates_given tag given records ∙ ap (λ o. map (fate_given o) (fates_of tag records)) at ∙ none_given (fates_of tag records))

-- ---- the count, and where the tag is pending

-- a record in front of the others
module _ (tag : Tag) (r : Tag × Fate) (records : Records) where
  front_skipped : (r.0 ≡ tag → r.1 ≡ Pending → ⊥) → left (fates_of tag (r ∷ records)) ≡ left (fates_of tag records)
  unfolding left
  front_skipped n =
      elim (bytes_eq tag r.0) as (λ b. (bytes_eq tag r.0 ≡ b) → left (map (λ (r : Tag × Fate). r.1) (cond b (r ∷ filter (λ r. bytes_eq tag r.0) records) (filter (λ r. bytes_eq tag r.0) records))) ≡ left (fates_of tag records)) [
        | true ↦ λ h. by_test (is_pending_fate r.1)
            (λ p. absurd (n (sym (tag_is tag r.0 h)) (pending_is r.1 p)))
            (λ p. ap (λ b. cond b (r.1 ∷ left (fates_of tag records)) (left (fates_of tag records))) p)
        | false ↦ λ h. refl
      ] refl

  front_counted : r.0 ≡ tag → r.1 ≡ Pending → left (fates_of tag (r ∷ records)) ≡ r.1 ∷ left (fates_of tag records)
  unfolding left
  front_counted same pending =
      ap (λ b. left (map (λ (r : Tag × Fate). r.1) (cond b (r ∷ filter (λ r. bytes_eq tag r.0) records) (filter (λ r. bytes_eq tag r.0) records)))) (is_tag tag r.0 (sym same))
      ∙ ap (λ b. cond b (r.1 ∷ left (fates_of tag records)) (left (fates_of tag records))) (ap is_pending_fate pending)

none_left : (tag : Tag) (records : Records) → IsNowhere tag records → left (fates_of tag records) ≡ []
unfolding left
none_left tag [] none = refl
none_left tag (r ∷ records) none = front_skipped tag r records (none 0 r refl) ∙ none_left tag records (λ m s at. none (suc m) s at)

pub count-nowhere : (tag : Tag) (records : Records) → IsNowhere tag records → pending_count tag records ≡ 0
count-nowhere tag records none = count_is tag records ∙ ap length (none_left tag records none)

one_left : (tag : Tag) (records : Records) (n : ℕ) → IsPendingAt tag records n → length (left (fates_of tag records)) ≡ 1
one_left tag [] n k = absurd (some_is_none (sym k.0))
one_left tag (r ∷ records) zero k =
    let is : r ≡ (tag, Pending) = some_is k.0 in
    ap length (front_counted tag r records (ap (λ r. r.0) is) (ap (λ r. r.1) is))
    ∙ ap (λ l. length (r.1 ∷ l)) (none_left tag records (λ m s at same pending. no_first m (k.1 (suc m) s at same pending)))
one_left tag (r ∷ records) (suc n) k =
    ap length (front_skipped tag r records (λ same pending. no_first n (sym (k.1 0 r refl same pending))))
    ∙ one_left tag records n (k.0, λ m s at same pending. one_less m n (k.1 (suc m) s at same pending))

pub count-pending_at : (tag : Tag) (records : Records) (n : ℕ) → IsPendingAt tag records n → pending_count tag records ≡ 1
count-pending_at tag records n k = count_is tag records ∙ one_left tag records n k

-- a record that is not pending counts for nothing
left_skip : (tag : Tag) (r : Tag × Fate) (records : Records) → is_pending_fate r.1 ≡ false → left (fates_of tag (r ∷ records)) ≡ left (fates_of tag records)
unfolding left
left_skip tag r records is =
    let others = filter (λ (r : Tag × Fate). bytes_eq tag r.0) records in
    let fates : Records → List Fate = λ l. map (λ (r : Tag × Fate). r.1) l in
    elim (bytes_eq tag r.0) as (λ b. filter is_pending_fate (fates (cond b (r ∷ others) others)) ≡ filter is_pending_fate (fates others)) [
      | true ↦ ap (λ b. cond b (r.1 ∷ filter is_pending_fate (fates others)) (filter is_pending_fate (fates others))) is
      | false ↦ refl
    ]

pub count-skipped : (tag : Tag) (r : Tag × Fate) (records : Records) → is_pending_fate r.1 ≡ false → pending_count tag (r ∷ records) ≡ pending_count tag records
count-skipped tag r records is = count_is tag (r ∷ records) ∙ ap length (left_skip tag r records is) ∙ sym (count_is tag records)
