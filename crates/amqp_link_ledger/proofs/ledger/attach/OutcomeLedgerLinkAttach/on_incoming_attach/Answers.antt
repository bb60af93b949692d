use Rattle.std.proofs.Common.{refl, sym, subst, ap, Err}
use Rattle.amqp_link_ledger.proofs.ExchangeLemmas.{step_refused, kept_refused, unsettled-left, taken_by_plan}
use Rattle.amqp_link_sender.proofs.AttachLemmas.{keeps_shown}
use Rattle.amqp_link_sender.specs.SenderAttaches.{IsAttachPlan}
use Rattle.amqp_link_sender.specs.Senders.{Sender}
use Rattle.amqp_link_ledger.proofs.ledger.attach.OutcomeLedgerLinkAttach.on_incoming_attach.Goals as goal

pub returns-in-Err-clause-step : goal.returns-in-Err-clause-step
returns-in-Err-clause-step g c =
    rw (← c.self.view_is, c.in-Err.ensures.left)
    (step_refused g.T.LinkTarget.admitted g.T.VerifyTargetArchetype.refused_by_sender c.self.inside.link c.args.attach c.in-Err.refused c.in-Err.ensures.refused (λ is. c.in-Err.ensures.memory (ap Err is)) _ refl)

pub returns-in-Err-clause-no_step : goal.returns-in-Err-clause-no_step
returns-in-Err-clause-no_step g c =
    rw (← c.self.view_is, c.in-Err.ensures.left)
    (kept_refused g.T.LinkTarget.admitted g.T.VerifyTargetArchetype.refused_by_sender c.self.inside.link c.args.attach c.in-Err.refused c.in-Err.ensures.refused (λ is. c.in-Err.ensures.memory (ap Err is)) c.self.inside.registrations.records _ refl)

pub returns-in-Err-clause-terms : goal.returns-in-Err-clause-terms
returns-in-Err-clause-terms g c =
    rw (← c.self.view_is)
    (keeps_shown g.T.LinkTarget.sent_as g.T.LinkTarget.admitted g.T.VerifyTargetArchetype.refused_by_sender c.in-Err.refused c.self.inside.link _ c.args.attach c.in-Err.ensures.left)

pub invariant_of-self-in-Err : goal.invariant_of-self-in-Err
invariant_of-self-in-Err g c =
    rw (
      c.in-Err.ensures.left,
      unsettled-left g.T.LinkTarget.admitted g.T.VerifyTargetArchetype.refused_by_sender c.self.inside.link c.args.attach c.in-Err.refused,
    )
    c.self.invariant

pub returns-in_ok-take_planned-in-Ok-clause-taken : goal.returns-in_ok-take_planned-in-Ok-clause-taken
returns-in_ok-take_planned-in-Ok-clause-taken g c =
    let at = c.args.attach in
    let kept = c.in-Ok.ensures.same in
    let planned = subst (λ (l : Sender g.row.T.Denot). IsAttachPlan g.T.LinkTarget.admitted l at c.in-Ok.plan) (sym kept) c.in-Ok.ensures.planned in
    rw (← c.self.view_is, ← kept)
    (taken_by_plan g.T.LinkTarget.admitted _ c.take_planned.new.self at c.in-Ok.plan c.in_ok-take_planned-in-Ok.field-0.0 c.in_ok-take_planned-in-Ok.field-0.1.items
    planned
    (c.in_ok-take_planned-in-Ok.ensures.taken at planned)
    (c.in_ok-take_planned-in-Ok.ensures.exchange at planned)
    (c.in_ok-take_planned-in-Ok.ensures.outcomes at planned))
