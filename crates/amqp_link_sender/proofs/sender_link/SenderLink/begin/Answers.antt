use Rattle.std.proofs.Common.{subst, map}
use Rattle.amqp_link_types.specs.Frames.{payload_of}
use Rattle.amqp_link_split.specs.Split.{IsSplit}
use Rattle.amqp_link_split.proofs.FitLemmas.{they_fit}
use Rattle.amqp_link_sender.proofs.sender_link.SenderLink.begin.Goals as goal

pub returns-then-is_settled-clause-fits : goal.returns-then-is_settled-clause-fits
returns-then-is_settled-clause-fits g c =
    they_fit c.args.input_handle c.args.transfer c.args.self.now.max_frame_size c.args.payload.now c.in-Ok.frames.items c.requires.room
    (subst (λ limit. IsSplit c.args.payload.now limit (map payload_of c.in-Ok.frames.items)) c.requires.limit c.in-Ok.ensures.split) c.in-Ok.ensures.each

pub returns-clause-fits : goal.returns-clause-fits
returns-clause-fits g c =
    they_fit c.args.input_handle c.args.transfer c.args.self.now.max_frame_size c.args.payload.now c.in-Ok.frames.items c.requires.room
    (subst (λ limit. IsSplit c.args.payload.now limit (map payload_of c.in-Ok.frames.items)) c.requires.limit c.in-Ok.ensures.split) c.in-Ok.ensures.each
