use Rattle.amqp_link_pair.proofs.EndsLemmas.{goes_on, done_on, refused_on, apart_asks, asked_by}
use Rattle.amqp_link_pair.proofs.ends.Ends.go_on_apart.Goals as goal

pub ask-requires-clause-can : goal.ask-requires-clause-can
ask-requires-clause-can c = apart_asks c.args.limit c.requires.may.0 c.args.self.now c.requires.stage c.requires.may.1

pub go_on_asked-requires-clause-may : goal.go_on_asked-requires-clause-may
go_on_asked-requires-clause-may c = (
  c.args.limit,
  c.requires.may.0,
  goes_on c.args.limit c.requires.may.0 c.args.self.now _ c.requires.may.1
      (asked_by c.args.limit c.requires.may.0 c.args.self.now c.in_ok-attach.attach c.set.new.place c.ask.new.ledger c.prepare_receiver.new.receiver
      c.requires.stage c.set.ensures c.in_ok-attach.ensures.sent c.in_ok-attach.ensures.done c.prepare_receiver.ensures c.requires.may.1),
)

pub returns-clause-done : goal.returns-clause-done
returns-clause-done c = λ w m.
    done_on c.go_on_asked.result c.args.limit w c.args.self.now _ c.go_on_asked.new.self m
    (asked_by c.args.limit w c.args.self.now c.in_ok-attach.attach c.set.new.place c.ask.new.ledger c.prepare_receiver.new.receiver
    c.requires.stage c.set.ensures c.in_ok-attach.ensures.sent c.in_ok-attach.ensures.done c.prepare_receiver.ensures m)
    (c.go_on_asked.ensures.done c.args.limit w)

pub returns-clause-left : goal.returns-clause-left
returns-clause-left c = λ w m.
    refused_on c.go_on_asked.result c.args.limit w c.args.self.now _ c.go_on_asked.new.self m
    (asked_by c.args.limit w c.args.self.now c.in_ok-attach.attach c.set.new.place c.ask.new.ledger c.prepare_receiver.new.receiver
    c.requires.stage c.set.ensures c.in_ok-attach.ensures.sent c.in_ok-attach.ensures.done c.prepare_receiver.ensures m)
    (c.go_on_asked.ensures.left c.args.limit w)
