use Rattle.amqp_link_uses.proofs.ConsumerLemmas.{message_of}
use Rattle.amqp_link_uses.proofs.consumer.take_in.Goals as goal

pub returns-in-Ok-clause-whole : goal.returns-in-Ok-clause-whole
returns-in-Ok-clause-whole c =
    let old = c.args.inbox.now in
    let now = c.on_incoming_transfer.new.self in
    let arrives = c.in-Ok.ensures.arrives in
    message_of old now c.args.transfer c.args.payload c.in-Ok.came c.hand_out_if_complete.result arrives
    (c.bytes_are_those_that_came.ensures old now c.args.transfer c.args.payload c.in-Ok.came c.link.ensures.stated arrives)
    c.hand_out_if_complete.ensures.whole
