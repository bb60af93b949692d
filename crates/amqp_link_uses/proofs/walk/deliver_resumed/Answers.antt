use Rattle.amqp_link_uses.proofs.walk.deliver_resumed.Goals as goal

pub returns : goal.returns
returns c = λ sent registered. c.hand_out_and_settle.ensures sent (c.in_ok-cut_and_resume.ensures.keeps c.args.tag.now sent registered)
