use Rattle.std.proofs.Common.{rules, ◌≡◌, ◌∙◌, Some, ap}
use Rattle.amqp_link_types.specs.Entries.{entry_at, with_entry}
use Rattle.amqp_link_pair.proofs.KeptLemmas.{put_in_place}
use Rattle.amqp_link_pair.proofs.deliveries.Deliveries.set.Goals as goal

pub returns : goal.returns
returns c =
    let known : entry_at c.args.self.now c.args.tag.now ≡ Some c.in-Some.place.now = search rules in
    put_in_place c.self.inside.entries.entries _ _ _ c.replace.new.dest _ c.self.view_is known (c.get_mut.follows.holds c.replace.new.dest).0
    ∙ ap (with_entry c.args.self.now c.args.tag.now) c.replace.ensures.after
