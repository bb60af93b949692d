use Rattle.std.proofs.Common.{◌∙◌, sym, ap, map, refl}
use Rattle.amqp_link_dispositions.specs.Changes.{with_states}
use Rattle.amqp_link_dispositions.specs.Ending.{message_with_state, disposed}
use Rattle.amqp_link_dispositions.proofs.ListLemmas.{with_states_same}
use Rattle.amqp_link_dispositions.proofs.sender.dispose_sorted.Goals as goal

pub returns-clause-after : goal.returns-clause-after
returns-clause-after c =
    let tags = map (λ tag. tag.now) c.args.tags.now in
    let es = c.args.unsettled.now in
    c.set_each.ensures
    ∙ ap (with_states (λ message state. message_with_state state message) es) c.in_ok-changes.ensures
    ∙ with_states_same (λ message state. message_with_state state message) es c.args.state tags (λ v. refl)
    ∙ ap (λ b. disposed b c.args.state tags es) (sym c.if-settled.false)
