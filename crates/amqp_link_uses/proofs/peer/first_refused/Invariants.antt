use Rattle.std.proofs.Common.{◌+◌, ◌<◌, ◌^◌}
use Rattle.std.specs.Iterator.Adapters.{enumerate_source, enumerate_count}
use Rattle.std.specs.Vec.Iter.{into_iter_items, into_iter_len}
use Rattle.amqp_link_uses.specs.Peers.{state_and_handle}
use Rattle.amqp_link_uses.proofs.PeerLemmas.{IsDriven}
use Rattle.amqp_link_uses.proofs.peer.first_refused.Given as goal

abbrev pub invariant-loop-place : goal.invariant-loop-place
invariant-loop-place g l =
    let rest = enumerate_source l.place-iterator in
    let place = enumerate_count l.place-iterator in
    record {
      driven : IsDriven l.fn.frames.items (into_iter_items rest) place (state_and_handle (g.L.LinkDetach.shown l.initial.link)) (state_and_handle (g.L.LinkDetach.shown l.link));
      fits : place + into_iter_len rest < 2 ^ 64;
    }
