-- Deliveries that a user lists by delivery id and tag, and the lists that follow from it.
use Rattle.std.specs.Prelude.{ℕ, not, List, [], ◌∷◌, map, filter, is_some}
use Rattle.std.specs.Str.{bytes_eq}
use Rattle.amqp_link_runs.specs.Order.{sorted_by}
use Rattle.amqp_link_types.specs.Deliveries.{Info}
use Rattle.amqp_link_types.specs.Entries.{Tag, Entries, entry_at}

-- their tags, sorted by id; those of one id as they are listed
abbrev pub tags_in_order : List (ℕ × Tag) → List Tag
tags_in_order listed = map (λ pair. pair.1) (sorted_by (λ pair. pair.0) listed)

-- each tag once, at its first place
abbrev pub firsts : List Tag → List Tag
firsts [] = []
firsts (t ∷ ts) = t ∷ filter (λ u. not (bytes_eq t u)) (firsts ts)

-- those of the infos whose deliveries have an entry, sorted by id
abbrev pub kept_in_order : {V : Type 0} → Entries V → List Info → List Info
kept_in_order es infos = sorted_by (λ info. info.delivery_id) (filter (λ info. is_some (entry_at es info.delivery_tag)) infos)
