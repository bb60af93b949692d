-- What keeps a ledger's pending registrations those of its endpoint's unsettled deliveries, where deliveries
-- are disposed of.
use Rattle.std.proofs.Common.{◌≡◌, ◌∙◌, sym, ap, subst, Bool, true, false, cond, List, [], ◌∷◌, refl, Option, Some, None, is_some, if◌then◌else◌, Ok}
use Rattle.std.specs.Prelude.{bytes_eq, option_map}
use Rattle.std.specs.List.{IsDistinct, list_any}
use Rattle.std.specs.Map.{keys_of}
use Rattle.std.specs.Option.{option_to_list}
use Rattle.std.proofs.lemmas.Map.Made.{is_some-lookup}
use Rattle.amqp_link_types.specs.declared.delivery.UnsettledMessage.{UnsettledMessage}
use Rattle.amqp_link_types.specs.declared.types.definitions.Error.{Error}
use Rattle.amqp_link_types.specs.declared.types.delivery_state.DeliveryState.{DeliveryState}
use Rattle.amqp_link_types.specs.Entries.{Tag, Entries, entry_at, without_entry, changed_at}
use Rattle.amqp_link_types.proofs.MapLemmas.{IsMap-removed, entry_at-removed}
use Rattle.amqp_link_dispositions.specs.Ending.{does_end, message_with_state, ended_by, map_after_receiver_disposition, all_closed}
use Rattle.amqp_link_ledger.specs.Fates.{Records, Resolves, after, IsRecorded}
use Rattle.amqp_link_ledger.proofs.ListSteps.{by_test, tag_is, entry_at-map, is_some-option_map}
use Rattle.amqp_link_ledger.proofs.RecordLemmas.{IsRecorded-changed, IsRecorded-resolves, IsRecorded-resolves_all, resolves-none}

-- states change in place
module _ {V : Type 0} (f : V → V) (ts : List Tag) where
  tag_stays : (b : Bool) (e : Tag × V) → (cond b (e.0, f e.1) e).0 ≡ e.0
  tag_stays true e = refl
  tag_stays false e = refl

  keys-changed : (es : Entries V) → keys_of (changed_at f ts es) ≡ keys_of es
  keys-changed [] = refl
  keys-changed (e ∷ es) =
      ap (λ k. k ∷ keys_of (changed_at f ts es)) (tag_stays (list_any (λ t. bytes_eq t e.0) ts) e)
      ∙ ap (λ l. e.0 ∷ l) (keys-changed es)

  pub recorded-changed : (m : Entries V) (records : Records) → IsRecorded m records → IsRecorded (changed_at f ts m) records
  recorded-changed m records h =
      IsRecorded-changed m (changed_at f ts m) records h (subst (IsDistinct bytes_eq) (sym (keys-changed m)) h.distinct)
      (λ tag. is_some-lookup (bytes_eq tag) (changed_at f ts m)
      ∙ ap (list_any (bytes_eq tag)) (keys-changed m)
      ∙ sym (is_some-lookup (bytes_eq tag) m))

-- a removal of a tag that is not there
module _ {V : Type 0} (m : Entries V) (records : Records) (h : IsRecorded m records) (tag : Tag) (absent : entry_at m tag ≡ None) where
  none_gone : (other : Tag) → is_some (entry_at (without_entry m tag) other) ≡ is_some (entry_at m other)
  none_gone other =
      ap is_some (entry_at-removed m tag other h.distinct)
      ∙ by_test (bytes_eq tag other)
      (λ y. ap (λ b. is_some (cond b None (entry_at m other))) y ∙ sym (ap is_some (ap (entry_at m) (sym (tag_is tag other y)) ∙ absent)))
      (λ n. ap (λ b. is_some (cond b None (entry_at m other))) n)

  recorded-none_gone : IsRecorded (without_entry m tag) records
  recorded-none_gone = IsRecorded-changed m (without_entry m tag) records h (IsMap-removed m tag h.distinct) none_gone

module _ (m : Entries UnsettledMessage) (records : Records) (h : IsRecorded m records) where
  -- the receiver states something of a delivery
  pub recorded-answered : (settled : Bool) (state : Option DeliveryState) (tag : Tag)
      → IsRecorded (map_after_receiver_disposition settled state tag m) (after (Resolves (option_to_list (ended_by settled state tag m))) records)
  recorded-answered settled state tag = by (does_end settled state) (entry_at m tag) refl
    where
      by : (b : Bool) (o : Option UnsettledMessage) → entry_at m tag ≡ o
          → IsRecorded (if b then without_entry m tag else changed_at (message_with_state state) (tag ∷ []) m)
          (after (Resolves (option_to_list (if b then option_map (λ message. (tag, Ok state)) o else None))) records)
      by false o e = rw (resolves-none records) (recorded-changed (message_with_state state) (tag ∷ []) m records h)
      by true None e = rw (resolves-none records) (recorded-none_gone m records h tag e)
      by true (Some message) e = IsRecorded-resolves m records h ((tag, Ok state) ∷ [])

  -- the link is closed
  pub recorded-closed : (why : Option Error) → IsRecorded {V = UnsettledMessage} [] (after (Resolves (all_closed why m)) records)
  recorded-closed why =
      IsRecorded-resolves_all m records h UnsettledMessage (all_closed why m)
      (λ tag there. ap is_some (entry_at-map _ m tag) ∙ is_some-option_map _ (entry_at m tag) ∙ there)
