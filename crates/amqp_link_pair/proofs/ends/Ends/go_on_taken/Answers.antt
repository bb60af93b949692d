use Rattle.amqp_link_pair.proofs.EndsLemmas.{can_answer, goes_on, done_on, refused_on, answered_by}
use Rattle.amqp_link_pair.proofs.ends.Ends.go_on_taken.Goals as goal

pub send_whole-requires-clause-can : goal.send_whole-requires-clause-can
send_whole-requires-clause-can c = can_answer c.requires.may.0 c.requires.may.1 c.args.self.now c.requires.stage c.requires.may.2

pub go_on_answered-requires-clause-may : goal.go_on_answered-requires-clause-may
go_on_answered-requires-clause-may c = (
  c.requires.may.0,
  c.requires.may.1,
  goes_on c.requires.may.0 c.requires.may.1 c.args.self.now _ c.requires.may.2
      (answered_by c.requires.may.0 c.requires.may.1 c.args.self.now c.in_ok-attach.attach c.set.new.place c.send_whole.new.end c.requires.stage c.set.ensures c.in_ok-attach.ensures.sent c.in_ok-attach.ensures.done c.requires.may.2),
)

pub returns-clause-done : goal.returns-clause-done
returns-clause-done c = λ limit w m.
    done_on c.go_on_answered.result limit w c.args.self.now _ c.go_on_answered.new.self m
    (answered_by limit w c.args.self.now c.in_ok-attach.attach c.set.new.place c.send_whole.new.end c.requires.stage c.set.ensures c.in_ok-attach.ensures.sent c.in_ok-attach.ensures.done m)
    (c.go_on_answered.ensures.done limit w)

pub returns-clause-left : goal.returns-clause-left
returns-clause-left c = λ limit w m.
    refused_on c.go_on_answered.result limit w c.args.self.now _ c.go_on_answered.new.self m
    (answered_by limit w c.args.self.now c.in_ok-attach.attach c.set.new.place c.send_whole.new.end c.requires.stage c.set.ensures c.in_ok-attach.ensures.sent c.in_ok-attach.ensures.done m)
    (c.go_on_answered.ensures.left limit w)
