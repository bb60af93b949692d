use Rattle.std.proofs.Common.{rules, ◌≡◌, ◌∙◌, ap, sym, length, map, Err}
use Rattle.std.specs.List.{filter_map}
use Rattle.amqp_link_types.specs.Entries.{entry_at}
use Rattle.amqp_link_exchange.specs.Exchanges.{to_return}
use Rattle.amqp_link_exchange.specs.Plans.{Planned, IsStepFor, ended_by_steps}
use Rattle.amqp_link_exchange.proofs.PlanLemmas.{Pairwise-length, resolved_by-plan}
use Rattle.amqp_link_exchange.proofs.planning.ExchangePlan.copies_of_outcomes.Goals as goal

pub copies_by-requires : goal.copies_by-requires
copies_by-requires c =
    ap length c.as_slice.ensures.value ∙ ap (λ (p : Planned). length p.steps) c.self.view_is
    ∙ Pairwise-length (λ e s. IsStepFor e (entry_at c.requires.0 e.0) s) c.args.own.now c.args.self.now.steps c.requires.1.steps ∙ sym (ap length c.pairs.ensures)

pub returns-in_err-copies-clause-memory : goal.returns-in_err-copies-clause-memory
returns-in_err-copies-clause-memory c =
    let out : c.from_residual.result ≡ Err c.in_err-copies.field-0.0 = search rules in
    rw (out) (λ remote plan none. c.in_err-copies.ensures.memory
    (ap (λ l. ended_by_steps l c.as_slice.result.now) c.pairs.ensures
    ∙ ap (λ l. ended_by_steps c.args.own.now l) (c.as_slice.ensures.value ∙ ap (λ (p : Planned). p.steps) c.self.view_is)
    ∙ ap (filter_map to_return) (resolved_by-plan c.args.own.now remote c.args.self.now.steps plan.steps)
    ∙ none))

pub returns-clause-copies : goal.returns-clause-copies
returns-clause-copies c = λ remote plan.
    c.in_ok-copies.ensures.copies
    ∙ ap (λ l. map (λ ended. ended.1) (ended_by_steps l c.as_slice.result.now)) c.pairs.ensures
    ∙ ap (λ l. map (λ ended. ended.1) (ended_by_steps c.args.own.now l)) (c.as_slice.ensures.value ∙ ap (λ (p : Planned). p.steps) c.self.view_is)
    ∙ ap (λ l. map (λ ended. ended.1) (filter_map to_return l)) (resolved_by-plan c.args.own.now remote c.args.self.now.steps plan.steps)
