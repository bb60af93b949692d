use Rattle.std.proofs.Common.{refl, Ok}
use Rattle.amqp_link.specs.Bodies.{whole_message}
use Rattle.amqp_link.specs.declared.pair.AnswerOf.TheVariants as answer
use Rattle.amqp_link.specs.declared.pair.Event.TheVariants as event
use Rattle.amqp_link_uses.proofs.walk.attach.Goals as goal

pub returns-clause-keeps : goal.returns-clause-keeps
returns-clause-keeps c =
    let call = c.in_ok-attach.ensures in
    λ tag payload. c.held_is_what_was_sent.ensures.stays whole_message tag payload c.args.pair.now c.attach.new.self (event.Attach 64)
    (Ok (answer.Attached c.in_ok-attach.field-0)) c.requires (call.refused, call.done) refl
