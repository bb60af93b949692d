use Rattle.std.proofs.Common.{rules, ◌≡◌, true, []}
use Rattle.amqp_link_split.specs.Room.{has_room}
use Rattle.amqp_link_sender.specs.Senders.{abort_transfer}
use Rattle.amqp_link_sender.proofs.AbortLemmas.{abort_fits}
use Rattle.amqp_link_sender.proofs.sender_link.SenderLink.send_abort.Goals as goal

pub returns-clause-fits : goal.returns-clause-fits
returns-clause-fits g c =
    let output = c.in-Some.handle in
    let tag = c.args.delivery_tag.now in
    let limit = c.args.self.now.max_frame_size in
    let room : has_room (abort_transfer output tag c.args.message_format) limit [] ≡ true = search rules in
    rw (c.payload_limit_with_tag.ensures.same, c.abort_without_tag-performative.ensures, c.in-Ok.ensures.copy, c.new-payload.ensures)
    (abort_fits output c.in-Some-input_handle.input_handle tag c.args.message_format limit room)
