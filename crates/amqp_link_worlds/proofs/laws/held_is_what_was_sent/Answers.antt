use Rattle.amqp_link_worlds.proofs.SentLemmas.{registered_by_send, step_keeps_registered, whole_is_registered, run_holds_what_was_sent}
use Rattle.amqp_link_worlds.proofs.laws.held_is_what_was_sent.Goals as goal

pub returns-clause-sent : goal.returns-clause-sent
returns-clause-sent g c = registered_by_send

pub returns-clause-stays : goal.returns-clause-stays
returns-clause-stays g c = λ decoded. step_keeps_registered decoded

pub returns-clause-whole : goal.returns-clause-whole
returns-clause-whole g c = whole_is_registered

pub returns-clause-run : goal.returns-clause-run
returns-clause-run g c = λ decoded. run_holds_what_was_sent decoded
