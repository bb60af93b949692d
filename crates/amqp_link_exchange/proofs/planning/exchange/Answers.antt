use Rattle.std.proofs.Common.{◌≡◌, ◌∙◌, ◌≤◌, ap, sym, subst, ◌++◌, length, arith}
use Rattle.std.specs.List.{filter_map}
use Rattle.amqp_link_types.specs.Entries.{Entries}
use Rattle.amqp_link_core.specs.declared.resumption.ResumingDelivery.{ResumingDelivery}
use Rattle.amqp_link_exchange.specs.Exchanges.{resolutions, to_resume, to_return}
use Rattle.amqp_link_exchange.specs.Plans.{Planned, resumed_by, ended_by_steps, resumed_count}
use Rattle.amqp_link_exchange.proofs.PlanLemmas.{plan_is_able, resolved_by-plan, within_counts}
use Rattle.amqp_link_exchange.proofs.planning.exchange.Goals as goal

pub resolve_each-requires-clause-able : goal.resolve_each-requires-clause-able
resolve_each-requires-clause-able c = rw (ap (λ (p : Planned). p.steps) c.plan.view_is) (plan_is_able c.args.own c.requires.0 c.args.plan.steps c.requires.1.steps)

pub append-requires : goal.append-requires
append-requires c =
    let items : c.resolve_each.new.list.items ≡ resumed_by c.args.own c.plan.inside.steps.items =
    c.resolve_each.ensures.list ∙ ap (λ l. l ++ resumed_by c.args.own c.plan.inside.steps.items) c.plan.invariant.0 in
    let fits : length c.resolve_each.new.list.items ≤ resumed_count c.plan.inside.steps.items =
    subst (λ l. length l ≤ resumed_count c.plan.inside.steps.items) (sym items) (within_counts c.args.own c.plan.inside.steps.items).0 in
    omega (arith, fits, c.resolve_each.ensures.capacity, c.plan.invariant.2)

pub returns-clause-list : goal.returns-clause-list
returns-clause-list c = λ remote plan.
    c.from.ensures ∙ c.append.ensures
    ∙ ap (λ l. l ++ c.plan.inside.aborts.items) (c.resolve_each.ensures.list ∙ ap (λ l. l ++ resumed_by c.args.own c.plan.inside.steps.items) c.plan.invariant.0)
    ∙ ap (λ (p : Planned). resumed_by c.args.own p.steps ++ p.aborts) c.plan.view_is
    ∙ ap (λ l. filter_map to_resume l ++ c.args.plan.aborts) (resolved_by-plan c.args.own remote c.args.plan.steps plan.steps)
    ∙ ap (λ (l : Entries ResumingDelivery). filter_map to_resume (resolutions c.args.own remote) ++ l) plan.aborts

pub returns-clause-outcomes : goal.returns-clause-outcomes
returns-clause-outcomes c = λ remote plan.
    c.resolve_each.ensures.outcomes ∙ ap (λ l. l ++ ended_by_steps c.args.own c.plan.inside.steps.items) c.plan.invariant.1
    ∙ ap (λ (p : Planned). ended_by_steps c.args.own p.steps) c.plan.view_is
    ∙ ap (λ l. filter_map to_return l) (resolved_by-plan c.args.own remote c.args.plan.steps plan.steps)
