use Rattle.std.proofs.Common.{◌≡◌, rules, true, map}
use Rattle.amqp_link_types.specs.Frames.{payload_of, AreFramesOf}
use Rattle.amqp_link_split.specs.Room.{has_room, payload_limit}
use Rattle.amqp_link_split.specs.Split.{IsSplit}
use Rattle.amqp_link_split.proofs.FitLemmas.{they_fit}
use Rattle.amqp_link_sender.proofs.sender_link.SenderLink.send_transfer_without_modifying_unsettled_map.Goals as goal

pub returns-clause-fits : goal.returns-clause-fits
returns-clause-fits g c =
    let room : has_room c.args.transfer c.args.self.now.max_frame_size c.args.payload.now ≡ true = search rules in
    let split : IsSplit c.args.payload.now (payload_limit c.args.transfer c.args.self.now.max_frame_size) (map payload_of c.in_ok-frames.frames.items) = search rules in
    let each : AreFramesOf c.in-Some.input_handle c.args.transfer c.in_ok-frames.frames.items = search rules in
    they_fit c.in-Some.input_handle c.args.transfer c.args.self.now.max_frame_size c.args.payload.now c.in_ok-frames.frames.items room split each
