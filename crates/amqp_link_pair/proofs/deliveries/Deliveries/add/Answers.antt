use Rattle.std.proofs.Common.{◌≡◌, Some, rules}
use Rattle.amqp_link_types.specs.Entries.{entry_at, with_entry}
use Rattle.amqp_link_pair.proofs.KeptLemmas.{put_back_same}
use Rattle.amqp_link_pair.proofs.deliveries.Deliveries.add.Goals as goal

pub returns-in-Some-clause-present : goal.returns-in-Some-clause-present
returns-in-Some-clause-present c =
    let put : c.insert.new.self.entries ≡ with_entry c.args.self.now c.args.tag.now c.new_delivery.result = search rules in
    let known : entry_at c.args.self.now c.args.tag.now ≡ Some c.in-Some.before = search rules in
    λ e. put_back_same c.args.self.now _ c.set.new.self c.args.tag.now c.in-Some.before c.new_delivery.result known put c.set.ensures
