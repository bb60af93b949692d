use Rattle.amqp_link_sender.specs.Senders.{payload_tests}
use Rattle.amqp_link_pair.proofs.SendLemmas.{unsettled_delivery, no_refusal, only_memory}
use Rattle.amqp_link_pair.proofs.sending.send_unsettled.Goals as goal

pub out_of_memory-requires : goal.out_of_memory-requires
out_of_memory-requires c =
    only_memory c.send_payload.result c.in-Err.error
    (payload_tests c.args.ledger.now.link unsettled_delivery c.args.payload.now)
    c.in-Err.is c.send_payload.ensures.refused (no_refusal c.args.ledger.now.link c.args.payload.now c.requires)
