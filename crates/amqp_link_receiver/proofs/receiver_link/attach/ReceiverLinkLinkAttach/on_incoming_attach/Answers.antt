use Rattle.std.proofs.Common.{rules, ◌≡◌, ap, Some, Err}
use Rattle.amqp_link_endpoint.specs.AttachFields.{next_of}
use Rattle.amqp_link_types.specs.declared.types.errors.ReceiverAttachError.TheVariants.{OutOfMemory}
use Rattle.amqp_link_receiver.proofs.AttachLemmas.{refused_by_list}
use Rattle.amqp_link_receiver.proofs.receiver_link.attach.ReceiverLinkLinkAttach.on_incoming_attach.Goals as goal

pub returns-in-Err-clause-memory : goal.returns-in-Err-clause-memory
returns-in-Err-clause-memory g c = λ is.
    let out : c.in-Err.refused ≡ OutOfMemory = cc (is, c.without_source.ensures.error) in
    let listed = c.in-Err.ensures.memory (ap Err out) in
    let moves : next_of c.args.self.now.local_state c.args.attach ≡ Some c.in-Some.next = search rules in
    let there : c.args.attach.source ≡ Some c.in-Some-source.source = search rules in
    refused_by_list g.T.LinkTarget.admitted g.T.VerifyTargetArchetype.refused_by_receiver c.args.self.now c.args.attach c.in-Some.next c.in-Some-source.source listed.0
    moves there listed.1
