use Rattle.std.proofs.Common.{rules}
use Rattle.amqp_link_endpoint.proofs.SentLemmas.{sends_attach}
use Rattle.amqp_link_endpoint.proofs.link_inner.LinkInner.attach_to_send.Goals as goal

pub returns-in-Ok-attach_frame-clause-sent : goal.returns-in-Ok-attach_frame-clause-sent
returns-in-Ok-attach_frame-clause-sent g c =
    sends_attach _ _ _ c.in-Some.attach _ _ c.requires.handle (search rules) c.in-Ok-attach_frame.ensures
    (c.step_of-next.ensures _ c.requires.complete c.requires.incomplete)
