use Rattle.std.proofs.Common.{◌≡◌, Some, ap, rules}
use Rattle.amqp_link_types.specs.Entries.{entry_at}
use Rattle.amqp_link_inbox.proofs.KeptLemmas.{put_in_place}
use Rattle.amqp_link_inbox.proofs.StoreLemmas.{taken_or_same}
use Rattle.amqp_link_inbox.specs.Taking.{has_taken}
use Rattle.amqp_link_inbox.proofs.deliveries.Deliveries.take.Goals as goal

pub returns-clause-entries : goal.returns-clause-entries
returns-clause-entries g c =
    let kept = c.in-Some.kept.now in
    let entries = c.args.self.now.entries in
    let known : entry_at entries c.args.tag.now ≡ Some kept = search rules in
    let after = record kept { contents = c.take_held.new.self } in
    taken_or_same (has_taken c.take_held.result) entries _ c.args.tag.now kept c.take_held.new.self known c.take_held.ensures.after
    (put_in_place c.self.inside.entries.entries entries c.args.tag.now kept after _ (ap (λ s. s.entries) c.self.view_is) known (c.get_mut.follows.holds after).0)
