use Rattle.amqp_link_ledger.proofs.MoveLemmas.{MovesOnce-after_all}
use Rattle.amqp_link_ledger.proofs.laws.fates_move_once.Goals as goal

pub returns : goal.returns
returns c = MovesOnce-after_all
