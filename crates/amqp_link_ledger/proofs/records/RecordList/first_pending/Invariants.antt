use Rattle.amqp_link_ledger.specs.Fates.{NonePending}
use Rattle.amqp_link_ledger.proofs.records.RecordList.first_pending.Given as goal

-- none before the number is pending
abbrev pub invariant-loop-number : goal.invariant-loop-number
invariant-loop-number l = NonePending l.number l.self.records
