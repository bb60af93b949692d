use Rattle.std.proofs.Common.{rules, ◌≡◌, Some}
use Rattle.amqp_link_types.specs.Entries.{entry_at}
use Rattle.amqp_link_pair.proofs.KeptLemmas.{put_in_place, received_in, left_in}
use Rattle.amqp_link_pair.proofs.deliveries.Deliveries.receive.Goals as goal

pub returns-clause-done : goal.returns-clause-done
returns-clause-done c =
    let known : entry_at c.args.self.now c.args.tag.now ≡ Some c.in-Some.kept.now = search rules in
    let put = put_in_place c.self.inside.entries.entries _ _ _ c.receive.new.self _ c.self.view_is known (c.get_mut.follows.holds c.receive.new.self).0 in
    received_in _ _ _ _ _ _ _ known put c.receive.result c.args.id c.args.frame.now c.receive.ensures.done c.receive.ensures.place c.receive.ensures.whole c.receive.ensures.report

pub returns-clause-left : goal.returns-clause-left
returns-clause-left c =
    let known : entry_at c.args.self.now c.args.tag.now ≡ Some c.in-Some.kept.now = search rules in
    let put = put_in_place c.self.inside.entries.entries _ _ _ c.receive.new.self _ c.self.view_is known (c.get_mut.follows.holds c.receive.new.self).0 in
    left_in _ _ _ _ _ _ _ known put c.receive.result c.receive.ensures.left
