use Rattle.std.proofs.Common.{rules, ◌≡◌, Some}
use Rattle.amqp_link_types.specs.Entries.{entry_at}
use Rattle.amqp_link_pair.proofs.KeptLemmas.{put_in_place, given_in, not_given_in}
use Rattle.amqp_link_pair.proofs.deliveries.Deliveries.hand_out.Goals as goal

pub returns-clause-done : goal.returns-clause-done
returns-clause-done g c =
    let known : entry_at c.args.self.now c.args.tag.now ≡ Some c.in-Some.kept.now = search rules in
    let put = put_in_place c.self.inside.entries.entries _ _ _ c.hand_out.new.self _ c.self.view_is known (c.get_mut.follows.holds c.hand_out.new.self).0 in
    given_in _ _ _ _ _ _ _ known put _ c.hand_out.result c.hand_out.ensures.done

pub returns-clause-left : goal.returns-clause-left
returns-clause-left g c =
    let known : entry_at c.args.self.now c.args.tag.now ≡ Some c.in-Some.kept.now = search rules in
    let put = put_in_place c.self.inside.entries.entries _ _ _ c.hand_out.new.self _ c.self.view_is known (c.get_mut.follows.holds c.hand_out.new.self).0 in
    not_given_in _ _ _ _ _ _ _ known put c.hand_out.result c.hand_out.ensures.left
