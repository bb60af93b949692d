use Rattle.std.proofs.Common.{◌≡◌, ◌∙◌, Some, ap, subst, rules}
use Rattle.amqp_link_inbox.specs.Inboxes.{IsHandled, inbox_with}
use Rattle.amqp_link_inbox.proofs.HandledLemmas.{handled_first}
use Rattle.amqp_link_inbox.proofs.StatedLemmas.{stated_handled}
use Rattle.amqp_link_inbox.proofs.inbox.Inbox.handle_first.Goals as goal

pub invariant_of-self : goal.invariant_of-self
invariant_of-self g c =
    stated_handled c.self.inside.deliveries c.self.inside.link c.self.invariant c.in-Ok.name c.args.transfer c.args.payload _ _ _ _ _ _ _ c.in-Ok-receive.ensures.done

pub returns-in-Ok-receive-clause-handled : goal.returns-in-Ok-receive-clause-handled
returns-in-Ok-receive-clause-handled g c =
    let named : c.args.transfer.delivery_tag ≡ Some c.in-Ok.name = search rules in
    subst (λ s. IsHandled s c.args.transfer c.args.payload c.in-Ok-receive.made.0 c.in-Ok-receive.made.1 (inbox_with c.receive.new.self c.receive.new.link (Some c.in-Ok.name))) c.self.view_is
    (handled_first (inbox_with c.self.inside.deliveries c.self.inside.link c.self.inside.under_way) c.args.transfer c.args.payload c.in-Ok.name
    _ _ c.receive.new.self c.receive.new.link (ap (λ s. s.under_way) c.self.view_is ∙ c.requires.begins) named c.in-Ok-receive.ensures.done)
