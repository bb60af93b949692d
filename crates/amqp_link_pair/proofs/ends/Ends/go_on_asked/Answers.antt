use Rattle.amqp_link_pair.proofs.EndsLemmas.{done_on, refused_on, taken_by}
use Rattle.amqp_link_pair.proofs.ends.Ends.go_on_asked.Goals as goal

pub returns-clause-done : goal.returns-clause-done
returns-clause-done c = λ limit w m.
    done_on c.go_on_taken.result limit w c.args.self.now _ c.go_on_taken.new.self m
    (taken_by limit w c.args.self.now c.in-Some.attach c.set.new.place c.take.new.end c.requires.stage c.in-Some.is c.set.ensures c.in_ok-take.ensures.done m)
    (c.go_on_taken.ensures.done limit w)

pub returns-clause-left : goal.returns-clause-left
returns-clause-left c = λ limit w m.
    refused_on c.go_on_taken.result limit w c.args.self.now _ c.go_on_taken.new.self m
    (taken_by limit w c.args.self.now c.in-Some.attach c.set.new.place c.take.new.end c.requires.stage c.in-Some.is c.set.ensures c.in_ok-take.ensures.done m)
    (c.go_on_taken.ensures.left limit w)
