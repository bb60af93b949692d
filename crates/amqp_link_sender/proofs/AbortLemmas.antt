-- The frame of an abort fits the frame limit.
use Rattle.std.proofs.Common.{◌≡◌, ℕ, ◌≤◌, true, List, [], arith}
use Rattle.std.proofs.lemmas.Bool.Decides.{nat_tests}
use Rattle.amqp_link_types.specs.declared.types.definitions.InputHandle.{InputHandle}
use Rattle.amqp_link_types.specs.declared.types.definitions.OutputHandle.{OutputHandle}
use Rattle.amqp_link_types.specs.Frames.{frame_of}
use Rattle.amqp_link_types.specs.Size.{transfer_len}
use Rattle.amqp_link_split.specs.Fitting.{frame_len, outgoing}
use Rattle.amqp_link_split.specs.Room.{has_room, worst}
use Rattle.amqp_link_split.proofs.FitLemmas.{frame_fits}
use Rattle.amqp_link_sender.specs.Senders.{abort_frame, abort_transfer}

pub abort_fits : (output : OutputHandle) (input : InputHandle) (tag : List ℕ) (message_format limit : ℕ)
    → has_room (abort_transfer output tag message_format) limit [] ≡ true → frame_len (abort_frame output input tag message_format) ≤ limit
abort_fits output input tag message_format limit room =
    let t = abort_transfer output tag message_format in
    let short : transfer_len (outgoing (frame_of input t 0 1 [])) ≤ worst t = frame_fits input t 0 1 [] in
    grind (arith, nat_tests, room, short)
