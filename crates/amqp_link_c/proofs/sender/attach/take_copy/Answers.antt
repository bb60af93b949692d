use Rattle.std.proofs.Common.{rules, ◌≡◌}
use Rattle.amqp_link_c.proofs.AttachLemmas.{peer_attach}
use Rattle.amqp_link_c.proofs.sender.attach.take_copy.Goals as goal

pub returns-in-Ok-on_incoming_attach-clause-taken : goal.returns-in-Ok-on_incoming_attach-clause-taken
returns-in-Ok-on_incoming_attach-clause-taken c =
    let same : c.in-Ok.copy ≡ c.args.attach.now = search rules in
    peer_attach _ c.in-Ok.copy c.in-Ok-on_incoming_attach.exchange _ _ _ _ _ same c.list_of.ensures.list
    c.list_of.ensures.incomplete c.in-Ok-on_incoming_attach.ensures.taken.0 c.in-Ok-on_incoming_attach.ensures.taken.1.0
    c.in-Ok-on_incoming_attach.ensures.taken.1.1
