use Rattle.std.proofs.Common.{rules, ◌≡◌, ◌∙◌, Some, ap}
use Rattle.amqp_link_types.specs.Entries.{entry_at, with_entry}
use Rattle.amqp_link_pair.specs.Keeping.{withdrawn_of}
use Rattle.amqp_link_pair.proofs.KeptLemmas.{put_in_place}
use Rattle.amqp_link_pair.proofs.deliveries.Deliveries.mark_withdrawn.Goals as goal

pub returns : goal.returns
returns c = λ kept found.
    let known : entry_at c.args.self.now c.args.tag.now ≡ Some c.in-Some.kept.now = search rules in
    let same : c.in-Some.kept.now ≡ kept = cc in
    let after = withdrawn_of c.in-Some.kept.now in
    put_in_place c.self.inside.entries.entries _ _ _ after _ c.self.view_is known (c.get_mut.follows.holds after).0
    ∙ ap (λ k. with_entry c.args.self.now c.args.tag.now (withdrawn_of k)) same
