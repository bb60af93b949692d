use Rattle.std.proofs.Common.{◌≡◌, ◌&&◌, true, false, rules}
use Rattle.amqp_link_dispositions.specs.Ending.{all_closed}
use Rattle.amqp_link_ledger.specs.Fates.{Resolves, after}
use Rattle.amqp_link_ledger.proofs.RecordLemmas.{resolves-none}
use Rattle.amqp_link_ledger.proofs.DisposeLemmas.{recorded-closed}
use Rattle.amqp_link_ledger.proofs.ledger.OutcomeLedger.on_incoming_detach.Goals as goal

pub returns-then-not-is_closing-clause-records : goal.returns-then-not-is_closing-clause-records
returns-then-not-is_closing-clause-records g c =
    let no : (c.args.remote_initiated && c.args.detach.now.closed) ≡ false = search rules in
    rw (no, resolves-none c.args.self.now.records) (search rules)

pub invariant_of-self-in-Ok : goal.invariant_of-self-in-Ok
invariant_of-self-in-Ok g c =
    let before = c.self.inside.registrations.records in
    let unsettled = c.self.inside.link.unsettled in
    let yes : (c.args.remote_initiated && c.args.detach.now.closed) ≡ true = search rules in
    let resolves : c.resolve_all.new.self.records ≡ after (Resolves (all_closed c.args.detach.now.error unsettled)) before = search rules in
    rw (c.in-Ok.ensures.after, yes, resolves)
    (recorded-closed unsettled before c.self.invariant c.args.detach.now.error)
