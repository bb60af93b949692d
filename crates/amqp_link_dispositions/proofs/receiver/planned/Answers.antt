use Rattle.std.proofs.Common.{◌≡◌, ◌∙◌, ap, map, subst, rules}
use Rattle.std.specs.List.{filter}
use Rattle.std.specs.Prelude.{not}
use Rattle.amqp_link_dispositions.specs.Changes.{StateChange}
use Rattle.amqp_link_dispositions.specs.Groups.{AreGroups, numbered}
use Rattle.amqp_link_dispositions.specs.Keeping.{is_settled_one, tags_of}
use Rattle.amqp_link_dispositions.proofs.receiver.planned.Goals as goal

pub returns-clause-frames : goal.returns-clause-frames
returns-clause-frames c = record {
  groups = c.in_ok-groups.groups.items;
  are_groups = subst (λ infos. AreGroups (map numbered infos) c.in_ok-groups.groups.items) c.in_ok-kept.ensures (search rules);
  each = search rules;
}

pub returns-clause-changes : goal.returns-clause-changes
returns-clause-changes c =
    let parts : map (λ tag. tag.now) c.in_ok-settled.open.items
    ≡ tags_of (filter (λ info. not (is_settled_one c.args.how.given c.args.how.own info)) (map (λ info. info.now) c.in_ok-kept.kept.items)) = search rules in
    let all : map {B = StateChange} (λ change. (change.0.now, change.1)) c.in_ok-changes.changes.items
    ≡ map {B = StateChange} (λ tag. (tag, c.args.state.now)) (map (λ tag. tag.now) c.in_ok-settled.open.items) = search rules in
    all ∙ ap (map {B = StateChange} (λ tag. (tag, c.args.state.now)))
    (parts ∙ ap (λ infos. tags_of (filter (λ info. not (is_settled_one c.args.how.given c.args.how.own info)) infos)) c.in_ok-kept.ensures)
