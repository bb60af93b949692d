use Rattle.std.proofs.Common.{rules, ◌≡◌, Some, None, ap, ◌∙◌, sym}
use Rattle.amqp_link_types.specs.Entries.{entry_at}
use Rattle.amqp_link_types.proofs.EntriesLemmas.{changed-absent, changed-present}
use Rattle.amqp_link_types.proofs.types.unsettled_map.UnsettledMap.set_state.Goals as goal

pub returns-in_default : goal.returns-in_default
returns-in_default g c =
    let none : entry_at c.args.self.now c.args.tag.now ≡ None = search rules in
    rw (c.get_mut.follows.holds-at-none, c.self.view_is) (sym (changed-absent _ c.args.self.now c.args.tag.now none))

pub returns : goal.returns
returns g c =
    let found : entry_at c.args.self.now c.args.tag.now ≡ Some c.in-Some.place.now = search rules in
    let written = (c.get_mut.follows.holds c.set_state.new.self).0 in
    rw (written, ← c.self.view_is)
    (changed-present _ c.self.inside.map.entries c.args.tag.now c.in-Some.place.now c.set_state.new.self c.get_mut.ensures.unique
    (ap (λ es. entry_at es c.args.tag.now) c.self.view_is ∙ found) c.set_state.ensures)
