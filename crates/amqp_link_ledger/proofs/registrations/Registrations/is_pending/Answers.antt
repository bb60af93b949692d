use Rattle.amqp_link_ledger.proofs.NumberLemmas.{count_from_number}
use Rattle.amqp_link_ledger.proofs.registrations.Registrations.is_pending.Goals as goal

pub returns : goal.returns
returns c = rw (← c.self.view_is, c.has_number.ensures) (count_from_number _ _ c.self.invariant c.args.tag.now)
