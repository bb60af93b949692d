use Rattle.std.proofs.Common.{subst}
use Rattle.std.specs.Prelude.{IfOk}
use Rattle.amqp_link_inbox.specs.Inboxes.{IsHandled, inbox_with}
use Rattle.amqp_link_inbox.proofs.HandledLemmas.{handled_if_ok, stated_if_ok}
use Rattle.amqp_link_inbox.proofs.inbox.Inbox.handle.Goals as goal

pub invariant_of-self : goal.invariant_of-self
invariant_of-self g c =
    let inside = c.self.inside in
    stated_if_ok (inbox_with inside.deliveries inside.link inside.under_way) c.args.transfer c.args.payload c.in-Some.tag
    c.receive.new.self c.receive.new.link c.receive.result c.receive.ensures.done c.receive.ensures.left c.self.invariant

pub returns-in-Some-clause-handled : goal.returns-in-Some-clause-handled
returns-in-Some-clause-handled g c =
    let inside = c.self.inside in
    subst (λ s. IfOk c.receive.result (λ made. IsHandled s c.args.transfer c.args.payload made.0 made.1 (inbox_with c.receive.new.self c.receive.new.link inside.under_way))) c.self.view_is
    (handled_if_ok (inbox_with inside.deliveries inside.link inside.under_way) c.args.transfer c.args.payload c.in-Some.tag
    c.receive.new.self c.receive.new.link c.receive.result c.receive.ensures.done c.in-Some.is)
