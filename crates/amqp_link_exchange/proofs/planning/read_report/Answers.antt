use Rattle.std.proofs.Common.{◌∙◌, Some, ap, sym, subst, arith}
use Rattle.amqp_link_core.specs.Resuming.{IsPlannedFor, does_carry_tag}
use Rattle.amqp_link_exchange.specs.Plans.{IsProgress}
use Rattle.amqp_link_exchange.proofs.PlanLemmas.{progress-unknown, progress-known, within, found}
use Rattle.amqp_link_exchange.proofs.planning.read_report.Goals as goal

pub returns-in_default-clause-read : goal.returns-in_default-clause-read
returns-in_default-clause-read c = λ left remote p.
    subst (λ l. IsProgress c.args.own.now (record { steps = c.args.steps.now.items; aborts = l }) left remote) (sym c.in_ok-push.ensures.items)
    (progress-unknown c.args.own.now c.args.steps.now.items c.args.aborts.now.items c.args.tag c.args.state left remote p c.in_default.ensures.missing)

pub set_step-requires : goal.set_step-requires
set_step-requires c = omega (arith, within c.args.own.now c.in-Some.index _ c.in-Some.ensures.found)

pub returns-clause-read : goal.returns-clause-read
returns-clause-read c = λ left remote p.
    subst (λ l. IsProgress c.args.own.now (record { steps = l; aborts = c.args.aborts.now.items }) left remote) (sym c.set_step.ensures)
    (progress-known c.args.own.now c.args.steps.now.items c.args.aborts.now.items c.args.tag c.args.state left remote p
    c.in-Some.index c.in-Some.entry.now c.step_of.result c.requires.distinct c.in-Some.ensures.found
    (found c.args.own.now c.in-Some.index c.args.tag c.in-Some.entry.now c.requires.distinct c.in-Some.ensures.found)
    (record {
      planned = subst (λ q. IsPlannedFor q c.in-Some.entry.now (Some c.args.state)) (sym c.step_of.ensures.plan) c.in_ok-plan.ensures.planned;
      tag = λ h. c.step_of.ensures.tag (ap does_carry_tag (sym c.step_of.ensures.plan) ∙ h);
    }))
