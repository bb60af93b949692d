use Rattle.std.proofs.Common.{◌∙◌, ap, sym, subst}
use Rattle.amqp_link_endpoint.specs.AttachFields.{remote_entries}
use Rattle.amqp_link_exchange.specs.Exchanges.{deliveries_to_resume}
use Rattle.amqp_link_sender.specs.SenderAttaches.{IsAttachPlan}
use Rattle.amqp_link_ledger.specs.Exchanging.{deliveries_in}
use Rattle.amqp_link_ledger.specs.Fates.{HandsOut, Resolves, after}
use Rattle.amqp_link_ledger.specs.Ledgers.{Ledger}
use Rattle.amqp_link_ledger.proofs.ExchangeLemmas.{recorded-exchanged, deliveries_in-exchange}
use Rattle.amqp_link_ledger.proofs.ledger.OutcomeLedger.take_planned.Goals as goal

pub invariant_of-self : goal.invariant_of-self
invariant_of-self g c =
    let attach = c.requires.0 in
    let planned = subst (λ (l : Ledger g.row.T.Denot). IsAttachPlan g.T.LinkTarget.admitted l.link attach c.args.plan) (sym c.self.view_is) c.requires.1 in
    let m = c.self.inside.link.unsettled in
    let remote = remote_entries attach in
    rw (
      c.commit_incoming_attach-exchange.ensures.taken attach planned,
      c.hand_out.ensures.records,
      c.deliveries_of.ensures,
      c.commit_incoming_attach-exchange.ensures.exchange attach planned,
      deliveries_in-exchange c.args.plan.next m remote,
      c.resolve_all.ensures.records,
      c.as_slice.ensures.value,
      c.commit_incoming_attach-exchange.ensures.outcomes attach planned,
    )
    (recorded-exchanged m c.self.inside.registrations.records c.self.invariant remote)

pub returns-clause-taken : goal.returns-clause-taken
returns-clause-taken g c = λ attach plan.
    let planned = subst (λ (l : Ledger g.row.T.Denot). IsAttachPlan g.T.LinkTarget.admitted l.link attach c.args.plan) (sym c.self.view_is) plan in
    let m = c.self.inside.link.unsettled in
    let remote = remote_entries attach in
    let link = c.commit_incoming_attach-exchange.ensures.taken attach planned in
    let outcomes = c.as_slice.ensures.value ∙ c.commit_incoming_attach-exchange.ensures.outcomes attach planned in
    let list = c.deliveries_of.ensures ∙ ap deliveries_in (c.commit_incoming_attach-exchange.ensures.exchange attach planned) ∙ deliveries_in-exchange c.args.plan.next m remote in
    let records =
    c.hand_out.ensures.records
    ∙ ap (λ l. after (HandsOut l) c.resolve_all.new.self.records) list
    ∙ ap (after (HandsOut (deliveries_to_resume m remote))) (c.resolve_all.ensures.records ∙ ap (λ o. after (Resolves o) c.self.inside.registrations.records) outcomes) in
    rw (← c.self.view_is) (cc)
