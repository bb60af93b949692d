use Rattle.std.proofs.Common.{◌∙◌, ap}
use Rattle.amqp_link_ledger.specs.Fates.{Resolves, after}
use Rattle.amqp_link_ledger.proofs.ExchangeLemmas.{illegal_if, recorded-given_up, resolved_if}
use Rattle.amqp_link_ledger.proofs.ledger.attach.OutcomeLedgerLinkAttach.send_attach.Goals as goal

pub resolve_illegal-requires : goal.resolve_illegal-requires
resolve_illegal-requires g c =
    rw (c.as_slice.ensures.value, c.in_ok-frame.ensures.ended) (illegal_if c.args.is_reattaching c.self.inside.link.unsettled)

pub invariant_of-self-2 : goal.invariant_of-self-2
invariant_of-self-2 g c =
    rw (ap (λ link. link.unsettled) c.in_ok-frame.ensures.after, c.resolve_illegal.ensures.records, c.as_slice.ensures.value, c.in_ok-frame.ensures.ended)
    (recorded-given_up c.args.is_reattaching c.self.inside.link.unsettled c.self.inside.registrations.records c.self.invariant)

pub returns-clause-after : goal.returns-clause-after
returns-clause-after g c =
    let records = c.resolve_illegal.ensures.records
    ∙ ap (λ l. after (Resolves l) c.self.inside.registrations.records) (c.as_slice.ensures.value ∙ c.in_ok-frame.ensures.ended)
    ∙ resolved_if c.args.is_reattaching c.self.inside.link.unsettled c.self.inside.registrations.records in
    let link = c.in_ok-frame.ensures.after in
    rw (← c.self.view_is) cc
