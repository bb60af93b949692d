use Rattle.amqp_link_worlds.proofs.WorldLemmas.{attach_returns_none, attach_list_is}
use Rattle.amqp_link_worlds.proofs.laws.an_attach_hands_out_each_delivery_once.Goals as goal

pub returns-clause-outcomes : goal.returns-clause-outcomes
returns-clause-outcomes c = attach_returns_none

pub returns-clause-listed : goal.returns-clause-listed
returns-clause-listed c = attach_list_is
