use Rattle.amqp_link_sender.specs.Senders.{delivery_of}
use Rattle.amqp_link_ledger.proofs.SendLemmas.{recorded-payload, unsettled-waiting}
use Rattle.amqp_link_ledger.proofs.ledger.OutcomeLedger.send_under.Goals as goal

pub invariant_of-self-in-Ok-Sent : goal.invariant_of-self-in-Ok-Sent
invariant_of-self-in-Ok-Sent g c =
    let sent = rw c.in-Ok-Sent.field-0-is at c.in-Ok-Sent.ensures.sent in
    let answer = rw c.in-Ok-Sent.field-0-is at c.in-Ok-Sent.ensures.refused in
    rw (c.register_unsettled.ensures, c.room_for_payload-room.ensures.records)
    (recorded-payload c.self.inside.link c.args.tag.now (delivery_of c.args.message_format c.args.settled c.args.state c.args.batchable) c.args.payload.now
    c.in-Ok-Sent.settlement c.in-Ok-Sent.frames c.send_payload_with_tag-sending.new.self sent c.args.waiting answer c.self.inside.registrations.records c.self.invariant)

pub invariant_of-self-in-Err-sending : goal.invariant_of-self-in-Err-sending
invariant_of-self-in-Err-sending g c =
    rw (c.in-Err-sending.ensures.left, unsettled-waiting c.self.inside.link c.args.waiting, c.room_for_payload-room.ensures.records) c.self.invariant
