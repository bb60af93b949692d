use Rattle.std.proofs.Common.{ap, subst, sym}
use Rattle.amqp_link_inbox.specs.InboxAttaches.{kept_after}
use Rattle.amqp_link_inbox.specs.Storing.{IsStated}
use Rattle.amqp_link_inbox.proofs.StatedLemmas.{stated_attached}
use Rattle.amqp_link_inbox.proofs.inbox.Inbox.send_attach.Goals as goal

pub invariant_of-self-2 : goal.invariant_of-self-2
invariant_of-self-2 g c =
    subst (λ es. IsStated es c.send_attach.new.self.unsettled) (sym c.clear_if.ensures.entries)
    (subst (λ u. IsStated (kept_after c.args.is_reattaching c.self.inside.deliveries.entries) u) (sym (ap (λ l. l.unsettled) c.in_ok-frame.ensures.after))
    (stated_attached c.args.is_reattaching c.self.inside.deliveries.entries c.self.inside.link.unsettled c.self.invariant))
