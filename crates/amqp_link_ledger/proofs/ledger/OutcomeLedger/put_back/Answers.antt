use Rattle.std.proofs.Common.{◌≡◌, ap, rules, is_some, false}
use Rattle.amqp_link_types.specs.Entries.{entry_at}
use Rattle.amqp_link_ledger.specs.Fates.{Enters, after}
use Rattle.amqp_link_ledger.proofs.LedgerLemmas.{entered}
use Rattle.amqp_link_ledger.proofs.ledger.OutcomeLedger.put_back.Goals as goal

pub invariant_of-self-in-Ok-put_back : goal.invariant_of-self-in-Ok-put_back
invariant_of-self-in-Ok-put_back g c =
    let absent : is_some (entry_at c.self.inside.link.unsettled c.args.tag) ≡ false = search rules in
    let registers : c.register.new.self.records ≡ after (Enters c.args.tag) c.self.inside.registrations.records = search rules in
    entered c.self.inside.link.unsettled c.self.inside.registrations.records c.args.tag c.self.invariant _ _ c.args.entry
    absent (ap (λ s. s.unsettled) c.in-Ok-put_back.ensures.registered) registers
