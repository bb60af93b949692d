use Rattle.std.proofs.Common.{◌≡◌, rules}
use Rattle.amqp_link_dispositions.specs.Ending.{all_closed}
use Rattle.amqp_link_ledger.specs.Fates.{Resolves, after}
use Rattle.amqp_link_ledger.proofs.DisposeLemmas.{recorded-closed}
use Rattle.amqp_link_ledger.proofs.ledger.OutcomeLedger.fail_pending_unsettled.Goals as goal

pub invariant_of-self : goal.invariant_of-self
invariant_of-self g c =
    let before = c.self.inside.registrations.records in
    let unsettled = c.self.inside.link.unsettled in
    let resolves : c.resolve_all.new.self.records ≡ after (Resolves (all_closed c.args.detach.now.error unsettled)) before = search rules in
    rw (c.in-Ok.ensures.after, resolves)
    (recorded-closed unsettled before c.self.invariant c.args.detach.now.error)
