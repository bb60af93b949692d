use Rattle.amqp_link_uses.proofs.walk.cut_and_resume.Goals as goal

pub loop-preserved : goal.loop-preserved
loop-preserved c =
    let arrived = c.in_ok-arrive-2.ensures in
    record {
      keeps = λ tag payload h. arrived.keeps tag payload (c.loop.invariant.keeps tag payload h);
      kept = arrived.kept;
    }

pub returns-clause-keeps : goal.returns-clause-keeps
returns-clause-keeps c = λ tag payload h.
    c.loop.invariant.keeps tag payload (c.in_ok-end.ensures.keeps tag payload (c.in_ok-attach.ensures.keeps tag payload
    (c.in_ok-cut.ensures.keeps tag payload (c.in_ok-arrive.ensures.keeps tag payload h))))
