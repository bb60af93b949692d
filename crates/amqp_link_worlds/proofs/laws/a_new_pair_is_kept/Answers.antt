use Rattle.amqp_link_worlds.proofs.WorldLemmas.{IsWorld-new}
use Rattle.amqp_link_worlds.proofs.laws.a_new_pair_is_kept.Goals as goal

pub returns : goal.returns
returns c = IsWorld-new
