use Rattle.std.proofs.Common.{◌≡◌, rules}
use Rattle.std.specs.Option.{option_to_list}
use Rattle.amqp_link_dispositions.specs.Ending.{ended_by}
use Rattle.amqp_link_ledger.specs.Fates.{Resolves, after}
use Rattle.amqp_link_ledger.proofs.DisposeLemmas.{recorded-answered}
use Rattle.amqp_link_ledger.proofs.ledger.OutcomeLedger.on_incoming_disposition.Goals as goal

pub invariant_of-self : goal.invariant_of-self
invariant_of-self g c =
    let before = c.self.inside.registrations.records in
    let unsettled = c.self.inside.link.unsettled in
    let resolves : c.resolve_if_ended.new.registrations.records ≡ after (Resolves (option_to_list (ended_by c.args.settled c.args.state c.args.delivery_tag.now unsettled))) before = search rules in
    rw (c.on_incoming_disposition-answer.ensures.after, resolves)
    (recorded-answered unsettled before c.self.invariant c.args.settled c.args.state c.args.delivery_tag.now)
