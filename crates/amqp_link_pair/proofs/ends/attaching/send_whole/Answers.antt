use Rattle.std.proofs.Common.{◌∙◌, ap, false}
use Rattle.amqp_link_pair.proofs.AttachLemmas.{sends_whole, steps_to}
use Rattle.amqp_link_pair.proofs.ends.attaching.send_whole.Goals as goal

pub returns-clause-sent : goal.returns-clause-sent
returns-clause-sent g c = rw c.into_inner.ensures (sends_whole _ c.requires.can c.in-Ok.sent.0 _ c.in-Attach.attach c.in-Ok.ensures.sent c.in-Attach.is)

pub returns-clause-done : goal.returns-clause-done
returns-clause-done g c = λ next step.
    c.in-Ok.ensures.after ∙ ap (g.L.LinkAttach.attached c.args.end.now false)
    (steps_to _ c.requires.can c.in-Ok.sent.0 _ c.in-Attach.attach c.in-Ok.ensures.sent c.in-Attach.is next step)
