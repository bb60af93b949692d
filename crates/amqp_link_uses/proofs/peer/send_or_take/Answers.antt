use Rattle.amqp_link.specs.AttachFields.{next_of}
use Rattle.amqp_link.specs.LinkStates.{Call, next_state}
use Rattle.amqp_link_uses.proofs.PeerLemmas.{sent_or_stays, keeps_handle, stays_or_moves, moves_by_table}
use Rattle.amqp_link_uses.proofs.peer.send_or_take.Goals as goal

pub returns-in-SendAttach-clause-leads : goal.returns-in-SendAttach-clause-leads
returns-in-SendAttach-clause-leads g c =
    let call = c.send_attach in
    rw c.in-SendAttach.is (λ _. sent_or_stays g.L.LinkDetach.shown c.args.link.now call.new.self call.result call.ensures.sent call.ensures.shown call.ensures.left)

pub returns-in-Attach-clause-leads : goal.returns-in-Attach-clause-leads
returns-in-Attach-clause-leads g c =
    let old = c.args.link.now in
    let attach = c.in-Attach.attach in
    let call = c.on_incoming_attach in
    let now = call.new.self in
    let handle = keeps_handle g.L.LinkDetach.shown old now (g.L.LinkDetach.shown now).target attach call.result call.ensures.shown call.ensures.terms in
    rw c.in-Attach.is (λ _. stays_or_moves g.L.LinkDetach.shown old now g.L.AttachError.AttachFailure.illegal_state g.L.AttachError.AttachFailure.out_of_memory
    call.result (next_of (g.L.LinkDetach.shown old).local_state attach) handle
    call.ensures.step call.ensures.no_step call.ensures.left_out_of_memory)

pub returns-in-SendDetach-clause-leads : goal.returns-in-SendDetach-clause-leads
returns-in-SendDetach-clause-leads g c =
    let old = c.args.link.now in
    let next = next_state Call.SendDetach c.in-SendDetach.closed (g.L.LinkDetach.shown old).local_state in
    rw c.in-SendDetach.is (λ _. moves_by_table g.L.LinkDetach.shown old c.send_detach.new.self g.L.LinkDetach.moved next g.met.L.LinkDetach.shown_moved c.send_detach.ensures.after)

pub returns-in-DetachReply-clause-leads : goal.returns-in-DetachReply-clause-leads
returns-in-DetachReply-clause-leads g c =
    let old = c.args.link.now in
    let next = next_state Call.DetachReply c.in-DetachReply.detach.closed (g.L.LinkDetach.shown old).local_state in
    rw c.in-DetachReply.is (λ _. moves_by_table g.L.LinkDetach.shown old c.on_detach_reply.new.self g.L.LinkDetach.moved next g.met.L.LinkDetach.shown_moved c.on_detach_reply.ensures.after)

pub returns-in-Detach-clause-leads : goal.returns-in-Detach-clause-leads
returns-in-Detach-clause-leads g c =
    let old = c.args.link.now in
    let next = next_state Call.RemoteDetach c.in-Detach.detach.closed (g.L.LinkDetach.shown old).local_state in
    rw c.in-Detach.is (λ _. moves_by_table g.L.LinkDetach.shown old c.apply_remote_detach_outcome.new.self g.L.LinkDetach.moved next g.met.L.LinkDetach.shown_moved c.apply_remote_detach_outcome.ensures.after)
