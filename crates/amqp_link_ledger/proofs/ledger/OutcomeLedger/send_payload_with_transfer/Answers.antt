use Rattle.amqp_link_ledger.proofs.SendLemmas.{recorded-transfer}
use Rattle.amqp_link_ledger.proofs.ledger.OutcomeLedger.send_payload_with_transfer.Goals as goal

pub invariant_of-self-in-Ok-send_payload_with_transfer : goal.invariant_of-self-in-Ok-send_payload_with_transfer
invariant_of-self-in-Ok-send_payload_with_transfer g c =
    rw (c.register_unsettled.ensures, c.room_for_transfer-room.ensures.records)
    (recorded-transfer c.self.inside.link c.args.transfer c.args.payload.now c.args.message_format
    c.in-Ok-send_payload_with_transfer.settlement c.in-Ok-send_payload_with_transfer.frames.items c.send_payload_with_transfer.new.self
    c.in-Ok-send_payload_with_transfer.ensures.refused c.in-Ok-send_payload_with_transfer.ensures.sent c.self.inside.registrations.records c.self.invariant)
