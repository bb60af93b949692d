use Rattle.std.proofs.Common.{◌∙◌}
use Rattle.amqp_link_uses.proofs.walk.hand_out_and_settle.Goals as goal

pub returns-in-Ok : goal.returns-in-Ok
returns-in-Ok c = λ sent registered. c.in_ok-payload.ensures.held ∙ c.held_is_what_was_sent.ensures.whole c.args.pair.now c.args.tag.now sent c.requires registered c.in_ok-payload.ensures.whole
