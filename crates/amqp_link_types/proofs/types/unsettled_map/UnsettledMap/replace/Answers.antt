use Rattle.std.proofs.Common.{rules, ◌≡◌, Some, ap, ◌∙◌}
use Rattle.amqp_link_types.specs.Entries.{entry_at}
use Rattle.amqp_link_types.proofs.EntriesLemmas.{with_entry-present}
use Rattle.amqp_link_types.proofs.types.unsettled_map.UnsettledMap.replace.Goals as goal

pub returns-clause-put : goal.returns-clause-put
returns-clause-put g c =
    let found : entry_at c.args.self.now c.args.tag.now ≡ Some c.in-Some.place.now = search rules in
    let written = (c.get_mut.follows.holds c.replace.new.dest).0 in
    rw (written, c.replace.ensures.after, ← c.self.view_is)
    (with_entry-present c.self.inside.map.entries c.args.tag.now c.in-Some.place.now c.args.value (ap (λ es. entry_at es c.args.tag.now) c.self.view_is ∙ found))
