use Rattle.std.proofs.Common.{◌∙◌, ap, subst, sym}
use Rattle.amqp_link_types.specs.Entries.{without_entries}
use Rattle.amqp_link_endpoint.specs.AttachFields.{remote_entries}
use Rattle.amqp_link_receiver.specs.ReceiverAttaches.{has_entries, receiver_exchange_in}
use Rattle.amqp_link_inbox.specs.InboxAttaches.{forgotten_tags}
use Rattle.amqp_link_inbox.specs.Storing.{IsStated}
use Rattle.amqp_link_inbox.proofs.StatedLemmas.{stated_dropped_all}
use Rattle.amqp_link_inbox.proofs.inbox.Inbox.on_incoming_attach.Goals as goal

pub invariant_of-self : goal.invariant_of-self
invariant_of-self g c =
    let inside = c.self.inside in
    let tags = forgotten_tags c.deref.result.now in
    let taken = c.in-Ok-on_incoming_attach.ensures.taken.0 in
    subst (λ es. IsStated es c.forget_all.new.link.unsettled) (sym c.forget_all.ensures.entries)
    (subst (λ u. IsStated (without_entries inside.deliveries.entries tags) u)
    (sym (ap (λ l. l.unsettled) c.forget_all.ensures.link ∙ ap (λ l. without_entries l.unsettled tags) taken))
    (stated_dropped_all tags inside.deliveries.entries inside.link.unsettled c.self.invariant))

pub returns-in-Ok-on_incoming_attach-clause-exchange : goal.returns-in-Ok-on_incoming_attach-clause-exchange
returns-in-Ok-on_incoming_attach-clause-exchange g c =
    c.in-Ok-on_incoming_attach.ensures.taken.1
    ∙ ap (λ state. receiver_exchange_in state (has_entries (remote_entries c.args.attach)))
    (sym (ap (λ s. s.link.local_state) c.begin_attachment.ensures ∙ ap (λ l. l.local_state) c.forget_all.ensures.link))
