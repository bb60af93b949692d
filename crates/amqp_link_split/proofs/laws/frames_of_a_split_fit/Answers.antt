use Rattle.amqp_link_split.proofs.FitLemmas.{they_fit}
use Rattle.amqp_link_split.proofs.laws.frames_of_a_split_fit.Goals as goal

pub returns : goal.returns
returns c = they_fit
