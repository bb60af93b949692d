-- What keeps a ledger's pending registrations those of its endpoint's unsettled deliveries.
use Rattle.std.proofs.Common.{◌≡◌, ◌∙◌, sym, ap, false, [], ◌∷◌, ◌++◌, refl, map, Option, Some, None, is_some, if◌then◌else◌}
use Rattle.std.proofs.lemmas.List.{map-append}
use Rattle.std.proofs.lemmas.Cmp.{nat_list_eq_equiv}
use Rattle.indexmap.proofs.MapLemmas.{absent_before}
use Rattle.amqp_link_types.specs.Entries.{Tag, Entries, entry_at, with_entry, IsMap}
use Rattle.amqp_link_types.proofs.MapLemmas.{put-absent}
use Rattle.amqp_link_ledger.specs.declared.fate.Fate.TheVariants.{Pending}
use Rattle.amqp_link_ledger.specs.Fates.{Records, Enters, after, pending_count, registered, IsRecorded}
use Rattle.amqp_link_ledger.proofs.RecordLemmas.{IsRecorded-enters}

pub none_from : {A : Type 0} (o : Option A) → is_some o ≡ false → o ≡ None
none_from None h = refl
none_from (Some a) h = absurd (cc)

module _ {V : Type 0} (m : Entries V) (records : Records) (tag : Tag) (h : IsRecorded m records) where
  -- no registration of a tag is pending that the map has not
  pub free_from : entry_at m tag ≡ None → pending_count tag records ≡ 0
  free_from absent = h.pending tag ∙ ap (λ o. if is_some o then 1 else 0) absent

  -- an entry has entered under this tag, and is registered
  pub entered : (left : Entries V) (now : Records) (v : V) → is_some (entry_at m tag) ≡ false → left ≡ with_entry m tag v → now ≡ after (Enters tag) records → IsRecorded left now
  entered left now v absent put registers = rw (put, registers) (IsRecorded-enters m records tag v h (none_from (entry_at m tag) absent))

-- ---- the registrations of a list of pairs, one after the other

module _ {V : Type 0} (done left : Entries V) (e : Tag × V) (is : IsMap (done ++ e ∷ left)) where
  pub absent_at : entry_at done e.0 ≡ None
  absent_at = absent_before nat_list_eq_equiv done left e is

  pub pending_next : (now next : Records) → now ≡ map (λ e. (e.0, Pending)) done → next ≡ registered e.0 now → next ≡ map (λ e. (e.0, Pending)) (done ++ e ∷ [])
  pending_next now next before step =
      step ∙ ap (λ l. l ++ (e.0, Pending) ∷ []) before ∙ sym (map-append (λ (e : Tag × V). (e.0, Pending)) done (e ∷ []))

  pub recorded_next : (now next : Records) → IsRecorded done now → next ≡ registered e.0 now → IsRecorded (done ++ e ∷ []) next
  recorded_next now next before step =
      rw (← put-absent done e.0 e.1 absent_at, step) (IsRecorded-enters done now e.0 e.1 before absent_at)
