use Rattle.amqp_link_worlds.proofs.RunLemmas.{MovesOnce-run, FatesMoveOnce-run}
use Rattle.amqp_link_worlds.proofs.laws.fates_move_once_in_a_run.Goals as goal

pub returns-clause-there : goal.returns-clause-there
returns-clause-there g c = λ decoded. MovesOnce-run decoded

pub returns-clause-made : goal.returns-clause-made
returns-clause-made g c = λ decoded. FatesMoveOnce-run decoded
