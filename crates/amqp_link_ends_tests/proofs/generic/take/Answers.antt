use Rattle.std.proofs.Common.{ap, Err}
use Rattle.amqp_link_endpoint.specs.AttachFields.{next_of}
use Rattle.amqp_link_ends_tests.proofs.GenericLemmas.{stays_or_moves}
use Rattle.amqp_link_ends_tests.proofs.generic.take.Goals as goal

pub returns-in-Err-clause-refused : goal.returns-in-Err-clause-refused
returns-in-Err-clause-refused g c =
    let old = c.args.link.now in
    let now = c.on_incoming_attach.new.self in
    stays_or_moves g.L.AttachError.AttachFailure.illegal_state g.L.AttachError.AttachFailure.out_of_memory c.in-Err.refused old now
    (g.L.LinkDetach.shown now).local_state
    (next_of (g.L.LinkDetach.shown old).local_state c.args.attach)
    c.in-Err.ensures.step c.in-Err.ensures.no_step (λ is. c.in-Err.ensures.left_out_of_memory (ap Err is))
