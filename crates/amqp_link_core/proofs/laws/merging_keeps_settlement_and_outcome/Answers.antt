use Rattle.amqp_link_core.proofs.MergeLemmas.{settled_by_some, terminal_kept}
use Rattle.amqp_link_core.proofs.laws.merging_keeps_settlement_and_outcome.Goals as goal

pub returns : goal.returns
returns c = record { settled = settled_by_some; outcome = terminal_kept }
