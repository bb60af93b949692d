use Rattle.amqp_link_inbox_runs.proofs.LedgerLemmas.{fronts_come, whole_comes}
use Rattle.amqp_link_inbox_runs.proofs.laws.an_inbox_holds_what_a_ledger_sends.Goals as goal

pub returns-clause-front : goal.returns-clause-front
returns-clause-front g c = λ tag payload decoded. fronts_come c.front_and_rest_are_the_payload.ensures tag payload decoded

pub returns-clause-whole : goal.returns-clause-whole
returns-clause-whole g c = λ tag payload decoded. whole_comes c.front_and_rest_are_the_payload.ensures tag payload decoded
