use Rattle.amqp_link_sender.proofs.AttachLemmas.{keeps_shown}
use Rattle.amqp_link_sender.proofs.sender_link.attach.SenderLinkLinkAttach.on_incoming_attach.Goals as goal

pub returns-in-Err-clause-terms : goal.returns-in-Err-clause-terms
returns-in-Err-clause-terms g c =
    keeps_shown g.T.LinkTarget.sent_as _ _ c.in-Err.refused c.args.self.now _ c.args.attach c.in-Err.ensures.left
