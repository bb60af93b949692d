use Rattle.amqp_link_ledger.proofs.RecordLemmas.{IsRecorded-withdraws}
use Rattle.amqp_link_ledger.proofs.ledger.OutcomeLedger.withdraw.Goals as goal

pub invariant_of-self : goal.invariant_of-self
invariant_of-self g c =
    rw (c.withdraw-entry.ensures.after, c.withdraw.ensures.records)
    (IsRecorded-withdraws _ _ c.self.invariant c.args.tag.now)
