use Rattle.std.proofs.Common.{subst, sym}
use Rattle.amqp_link_inbox.specs.Storing.{IsStated}
use Rattle.amqp_link_inbox.proofs.StatedLemmas.{stated_without_ids}
use Rattle.amqp_link_inbox.proofs.inbox.Inbox.begin_attachment.Goals as goal

pub invariant_of-self : goal.invariant_of-self
invariant_of-self g c =
    subst (λ es. IsStated es c.self.inside.link.unsettled) (sym c.drop_ids.ensures.entries)
    (stated_without_ids c.self.inside.deliveries.entries c.self.inside.link.unsettled c.self.invariant)
