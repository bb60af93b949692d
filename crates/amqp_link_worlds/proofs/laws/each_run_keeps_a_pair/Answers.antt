use Rattle.amqp_link_worlds.proofs.RunLemmas.{IsWorld-steps, IsWorld-run}
use Rattle.amqp_link_worlds.proofs.laws.each_run_keeps_a_pair.Goals as goal

pub returns-clause-step : goal.returns-clause-step
returns-clause-step g c = λ decoded. IsWorld-steps decoded

pub returns-clause-run : goal.returns-clause-run
returns-clause-run g c = λ decoded. IsWorld-run decoded

pub returns-clause-events : goal.returns-clause-events
returns-clause-events g c = λ decoded old new events answers finished k r. IsWorld-run decoded old new r.moments k r.steps
