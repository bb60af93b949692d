use Rattle.std.proofs.Common.{sym}
use Rattle.amqp_link_ledger.proofs.RecordLemmas.{resolves-none}
use Rattle.amqp_link_ledger.proofs.ledger.incoming.resolve_if_ended.Goals as goal

pub returns-in-None : goal.returns-in-None
returns-in-None c = rw c.in-None.is (sym (resolves-none c.args.registrations.now.records))
