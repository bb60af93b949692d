use Rattle.std.proofs.Common.{subst, sym}
use Rattle.amqp_link_inbox.specs.Storing.{IsStated}
use Rattle.amqp_link_inbox.specs.Taking.{has_taken}
use Rattle.amqp_link_inbox.proofs.StatedLemmas.{stated_taken}
use Rattle.amqp_link_inbox.proofs.inbox.Inbox.take.Goals as goal

pub invariant_of-self : goal.invariant_of-self
invariant_of-self g c =
    subst (λ es. IsStated es c.self.inside.link.unsettled) (sym c.take.ensures.entries)
    (stated_taken _ _ c.self.invariant c.args.tag.now (has_taken c.take.result))
