-- How far each delivery has come, of what a pair keeps of it.
use Rattle.std.proofs.Common.{◌≡◌, ◌∙◌, sym, ap, subst, refl, ℕ, ◌<◌, cond, [], ◌∷◌, length, map, true, false, Option, Some, None, arith}
use Rattle.std.specs.Prelude.{if◌then◌else◌, is_some, option_map, option_and_then, position}
use Rattle.std.specs.List.{IsDistinct, swap_remove}
use Rattle.std.specs.Map.{keys_of}
use Rattle.std.specs.Option.{option_map_or}
use Rattle.std.specs.Str.{bytes_eq}
use Rattle.indexmap.proofs.SetLemmas.{map-swap_remove}
use Rattle.amqp_link_types.specs.Entries.{Tag, Entries, IsMap, entry_at, with_entry, without_entry}
use Rattle.amqp_link_worlds.specs.declared.progress.Progress.{Progress}
use Rattle.amqp_link_worlds.proofs.EntriesOf.{entry_at-map, keys-map}
use Rattle.amqp_link_pair.specs.HandingOut.{held_in}
use Rattle.amqp_link_worlds.specs.Steps.{after_withdrawal}
use Rattle.amqp_link_pair.specs.Keeping.{progress_of, withdrawn_of, without_withdrawn}
use Rattle.amqp_link_pair.specs.declared.deliveries.Kept.{Kept}

abbrev pub progress_in : Option Kept → Option Progress
progress_in kept = option_map (λ (k : Kept). k.progress) kept

-- that of a tag
pub progress_at : (kept : Entries Kept) (tag : Tag) → entry_at (progress_of kept) tag ≡ progress_in (entry_at kept tag)
progress_at kept tag = entry_at-map (λ _ (k : Kept). k.progress) kept tag

-- what is held of it
held_of : (o : Option Kept) → option_and_then (λ (p : Progress). p.held) (progress_in o) ≡ held_in o
held_of None = refl
held_of (Some k) = refl

pub held_of_kept : (kept : Entries Kept) (tag : Tag) → option_and_then (λ (p : Progress). p.held) (entry_at (progress_of kept) tag) ≡ held_in (entry_at kept tag)
held_of_kept kept tag = ap (option_and_then (λ (p : Progress). p.held)) (progress_at kept tag) ∙ held_of (entry_at kept tag)

-- nothing is kept of a tag of which there is no progress
nothing_in : (o : Option Kept) → progress_in o ≡ None → o ≡ None
nothing_in None h = refl
nothing_in (Some k) h = cc

pub nothing_kept : (kept : Entries Kept) (tag : Tag) → entry_at (progress_of kept) tag ≡ None → entry_at kept tag ≡ None
nothing_kept kept tag h = nothing_in (entry_at kept tag) (sym (progress_at kept tag) ∙ h)

-- and something of one of which there is some
something_in : (o : Option Kept) (p : Progress) → progress_in o ≡ Some p → (k : Kept) × (o ≡ Some k) × (k.progress ≡ p)
something_in None p h = absurd (cc)
something_in (Some k) p h = let same : k.progress ≡ p = cc in (k, refl, same)

pub something_kept : (kept : Entries Kept) (tag : Tag) (p : Progress) → entry_at (progress_of kept) tag ≡ Some p
    → (k : Kept) × (entry_at kept tag ≡ Some k) × (k.progress ≡ p)
something_kept kept tag p h = something_in (entry_at kept tag) p (sym (progress_at kept tag) ∙ h)

pub known_at : (kept : Entries Kept) (tag : Tag) (k : Kept) → entry_at kept tag ≡ Some k → entry_at (progress_of kept) tag ≡ Some k.progress
known_at kept tag k h = progress_at kept tag ∙ ap progress_in h

-- after a put
pub progress_of-put : (kept : Entries Kept) (tag : Tag) (k : Kept) → progress_of (with_entry kept tag k) ≡ with_entry (progress_of kept) tag k.progress
progress_of-put [] tag k = refl
progress_of-put (e ∷ kept) tag k =
    elim (bytes_eq tag e.0) as (λ b. progress_of (cond b ((e.0, k) ∷ kept) (e ∷ with_entry kept tag k))
    ≡ cond b ((e.0, k.progress) ∷ progress_of kept) ((e.0, e.1.progress) ∷ with_entry (progress_of kept) tag k.progress)) [
      | true ↦ refl
      | false ↦ ap (λ l. (e.0, e.1.progress) ∷ l) (progress_of-put kept tag k)
    ]

-- after a removal
pub progress_of-removed : (kept : Entries Kept) (tag : Tag) → progress_of (without_entry kept tag) ≡ without_entry (progress_of kept) tag
progress_of-removed [] tag = refl
progress_of-removed (e ∷ kept) tag =
    let es : Entries Kept = e ∷ kept in
    let f : Tag × Kept → Tag × Progress = λ e. (e.0, e.1.progress) in
    let keys : keys_of (progress_of es) ≡ keys_of es = keys-map (λ _ (k : Kept). k.progress) es in
    let some : 0 < length es = omega arith in
    let each : (o : Option ℕ) → map f (option_map_or (λ i. swap_remove es i e) o es) ≡ option_map_or (λ i. swap_remove (map f es) i (f e)) o (map f es) =
    λ o. elim o as (λ o. map f (option_map_or (λ i. swap_remove es i e) o es) ≡ option_map_or (λ i. swap_remove (map f es) i (f e)) o (map f es)) [
      | None ↦ refl
      | Some i ↦ map-swap_remove f es i e some
    ] in
    each (position (bytes_eq tag) (keys_of es))
    ∙ ap (λ ks. option_map_or (λ i. swap_remove (map f es) i (f e)) (position (bytes_eq tag) ks) (map f es)) (sym keys)

-- the tags are as distinct
pub IsMap-kept : (kept : Entries Kept) → IsMap (progress_of kept) → IsMap kept
IsMap-kept kept h = subst (IsDistinct bytes_eq) (keys-map (λ _ (k : Kept). k.progress) kept) h

-- after a withdrawal
pub progress_of-withdrawn : (kept : Entries Kept) (tag : Tag) (k : Kept) → progress_of (without_withdrawn tag k kept) ≡ after_withdrawal (progress_of kept) tag k.progress
progress_of-withdrawn kept tag k =
    elim (is_some k.progress.held) as (λ b. progress_of (if b then with_entry kept tag (withdrawn_of k) else without_entry kept tag)
    ≡ (if b then with_entry (progress_of kept) tag (record k.progress { withdrawn = true }) else without_entry (progress_of kept) tag)) [
      | true ↦ progress_of-put kept tag (withdrawn_of k)
      | false ↦ progress_of-removed kept tag
    ]
