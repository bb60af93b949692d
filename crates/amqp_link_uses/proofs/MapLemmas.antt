-- What a caller knows of an unsettled map after a change of one tag, by the lemmas that `amqp_link` passes on.
use Rattle.std.proofs.Common.{◌≡◌, ◌≢◌, Some}
use Rattle.amqp_link.proofs.UnsettledMaps.{IsMap-put, IsMap-removed, entry_at-put, entry_at-put_other}
use Rattle.amqp_link.specs.Entries.{Tag, Entries, IsMap, entry_at, with_entry, without_entry}

module _ {V : Type 0} (m : Entries V) (tag : Tag) (v : V) (is : IsMap m) where
  -- the tags stay distinct, the tag has the entry that was put, and another has what it had
  pub after_put : (other : Tag) → other ≢ tag
      → IsMap (with_entry m tag v) × (entry_at (with_entry m tag v) tag ≡ Some v) × (entry_at (with_entry m tag v) other ≡ entry_at m other)
  after_put other apart = (IsMap-put m tag v is, entry_at-put m tag v, entry_at-put_other m tag other v apart)

  -- the tags stay distinct once an entry is removed
  pub after_removal : IsMap (without_entry m tag)
  after_removal = IsMap-removed m tag is
