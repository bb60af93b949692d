use Rattle.amqp_link_pair.proofs.EndsLemmas.{answer_allowed, together_by}
use Rattle.amqp_link_pair.proofs.ends.Ends.go_on_answered.Goals as goal

pub take-requires : goal.take-requires
take-requires c = answer_allowed c.requires.may.0 c.requires.may.1 c.args.self.now c.requires.stage c.requires.may.2 c.in-Some.attach c.in-Some.is

pub returns-clause-done : goal.returns-clause-done
returns-clause-done c = λ limit w m.
    together_by limit w c.args.self.now c.requires.stage m c.in-Some.attach c.in-Some.is c.take.new.end c.in_ok-exchange.ensures.done
    c.in_ok-exchange.exchange c.in_ok-exchange.ensures.exchanged.0 c.of.result.list c.of.ensures c.set.new.place
