use Rattle.std.proofs.Common.{rules, ◌≡◌, ◌∙◌, ap, map, refl, Some}
use Rattle.std.specs.List.{filter}
use Rattle.std.specs.Prelude.{not}
use Rattle.amqp_link_types.specs.Entries.{without_entries, changed_at}
use Rattle.amqp_link_dispositions.specs.Changes.{StateChange, with_states}
use Rattle.amqp_link_dispositions.specs.Keeping.{is_settled_one, tags_of}
use Rattle.amqp_link_dispositions.specs.Listed.{kept_in_order}
use Rattle.amqp_link_dispositions.proofs.ListLemmas.{with_states_same}
use Rattle.amqp_link_dispositions.proofs.receiver.dispose_all.Goals as goal

-- the states are set first, then the settled deliveries are taken out
pub returns-clause-after : goal.returns-clause-after
returns-clause-after c =
    let is_gone = is_settled_one c.args.how.given c.args.how.own in
    let kept = kept_in_order c.args.unsettled.now c.args.infos.now in
    let es = c.args.unsettled.now in
    let gone : map (λ tag. tag.now) c.in_ok-frames.settled.items ≡ tags_of (filter is_gone kept) = search rules in
    let changes : map {B = StateChange} (λ change. (change.0.now, change.1)) c.in_ok-frames.changes.items
    ≡ map {B = StateChange} (λ tag. (tag, c.args.state)) (tags_of (filter (λ info. not (is_gone info)) kept)) = search rules in
    let step : c.set_each.new.unsettled ≡ with_states (λ _ state. state) es (map {B = StateChange} (λ change. (change.0.now, change.1)) c.in_ok-frames.changes.items) = search rules in
    let last : c.remove_all.new.unsettled ≡ without_entries c.set_each.new.unsettled (map (λ tag. tag.now) c.in_ok-frames.settled.items) = search rules in
    let set : c.set_each.new.unsettled ≡ changed_at (λ _. Some c.args.state) (tags_of (filter (λ info. not (is_gone info)) kept)) es =
    step
    ∙ ap (with_states (λ _ state. state) es) changes
    ∙ with_states_same (λ _ state. state) es c.args.state (tags_of (filter (λ info. not (is_gone info)) kept)) (λ v. refl) in
    last
    ∙ ap (λ m. without_entries m (map (λ tag. tag.now) c.in_ok-frames.settled.items)) set
    ∙ ap (without_entries (changed_at (λ _. Some c.args.state) (tags_of (filter (λ info. not (is_gone info)) kept)) es)) gone
