-- Each registration keeps its number and its tag, and a fate that has moved stays.
use Rattle.std.proofs.Common.{◌∙◌, sym, ap, List, [], ◌∷◌, refl, map}
use Rattle.std.specs.Prelude.{option_map}
use Rattle.std.proofs.lemmas.Option.{slice_get-map, slice_get_within}
use Rattle.amqp_link_types.specs.Entries.{Tag, Entries, entry_at}
use Rattle.amqp_link_ledger.specs.declared.fate.Fate.{Fate}
use Rattle.amqp_link_ledger.specs.declared.fate.Fate.TheVariants.{Pending, Withdrawn, HandedOut, Resolved}
use Rattle.amqp_link_ledger.specs.Fates.{Records, Change, Enters, Withdraws, HandsOut, Resolves, after, after_all, fate_given, with_fates, registered, MovesOnce}
use Rattle.amqp_link_ledger.proofs.ListSteps.{get_push_old}
use Rattle.amqp_link_ledger.proofs.FateLemmas.{moved-not_pending}

pub MovesOnce-refl : (records : Records) → MovesOnce records records
MovesOnce-refl records = λ n r at. (r.1, at, λ h. refl)

pub MovesOnce-trans : (a b c : Records) → MovesOnce a b → MovesOnce b c → MovesOnce a c
MovesOnce-trans a b c first second = λ n r at.
    let x = first n r at in
    let y = second n (r.0, x.0) x.1 in
    (y.0, y.1, λ h. y.2 (λ p. h (sym (x.2 h) ∙ p)) ∙ x.2 h)

MovesOnce-registered : (tag : Tag) (records : Records) → MovesOnce records (registered tag records)
MovesOnce-registered tag records = λ n r at. (r.1, get_push_old records n (tag, Pending) (slice_get_within records n r at) ∙ at, λ h. refl)

pub MovesOnce-given : (given : Entries Fate) (records : Records) → MovesOnce records (with_fates given records)
MovesOnce-given given records = λ n r at. (
  fate_given (entry_at given r.0) r.1,
  slice_get-map (λ (r : Tag × Fate). (r.0, fate_given (entry_at given r.0) r.1)) records n ∙ ap (option_map (λ (r : Tag × Fate). (r.0, fate_given (entry_at given r.0) r.1))) at,
  moved-not_pending (entry_at given r.0) r.1,
)

pub MovesOnce-after : (change : Change) (records : Records) → MovesOnce records (after change records)
MovesOnce-after (Enters tag) records = MovesOnce-registered tag records
MovesOnce-after (Withdraws tag) records = MovesOnce-given ((tag, Withdrawn) ∷ []) records
MovesOnce-after (HandsOut list) records = MovesOnce-given (map (λ d. (d.0, HandedOut)) list) records
MovesOnce-after (Resolves outcomes) records = MovesOnce-given (map (λ o. (o.0, Resolved o.1)) outcomes) records

pub MovesOnce-after_all : (changes : List Change) (records : Records) → MovesOnce records (after_all changes records)
MovesOnce-after_all [] records = MovesOnce-refl records
MovesOnce-after_all (change ∷ changes) records =
    MovesOnce-trans records (after change records) (after_all (change ∷ changes) records) (MovesOnce-after change records) (MovesOnce-after_all changes (after change records))
