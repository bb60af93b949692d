use Rattle.std.proofs.Common.{◌≡◌, rules, true, map}
use Rattle.amqp_link_types.specs.Frames.{payload_of, AreFramesOf}
use Rattle.amqp_link_split.specs.Room.{has_room, payload_limit}
use Rattle.amqp_link_split.specs.Split.{IsSplit}
use Rattle.amqp_link_split.proofs.FitLemmas.{they_fit}
use Rattle.amqp_link_sender.proofs.sender_link.SenderLink.send_unsettled_transfer.Goals as goal

pub returns-in-Ok-enter-clause-fits : goal.returns-in-Ok-enter-clause-fits
returns-in-Ok-enter-clause-fits g c =
    let room : has_room c.args.transfer c.args.self.now.max_frame_size c.args.rest.now ≡ true = search rules in
    let split : IsSplit c.args.rest.now (payload_limit c.args.transfer c.args.self.now.max_frame_size) (map payload_of c.in-Ok-frames.frames.items) = search rules in
    let each : AreFramesOf c.in-Ok.admitted.0 c.args.transfer c.in-Ok-frames.frames.items = search rules in
    they_fit c.in-Ok.admitted.0 c.args.transfer c.args.self.now.max_frame_size c.args.rest.now c.in-Ok-frames.frames.items room split each
