use Rattle.std.proofs.Common.{ap, ◌∙◌, sym, Some, slice_get}
use Rattle.std.proofs.lemmas.Map.Made.{lookup_key_same}
use Rattle.std.proofs.lemmas.Slice.Eq.{bytes_eq-Decides}
use Rattle.amqp_link_types.proofs.types.unsettled_map.UnsettledMap.get_full.Goals as goal

pub returns-clause-found : goal.returns-clause-found
returns-clause-found g c =
    let found = c.in_ok-index.ensures in
    let same = lookup_key_same bytes_eq-Decides c.args.tag.now _ c.in_ok-index.field-0-1.now (sym found.key) in
    ap (λ es. slice_get es c.in_ok-index.index) (sym c.self.view_is) ∙ found.entry
    ∙ ap (λ tag. Some (tag, c.in_ok-index.value.now)) (sym same)
