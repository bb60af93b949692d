use Rattle.std.proofs.Common.{Some, [], ◌∷◌, subst, sym}
use Rattle.amqp_link_inbox.specs.Storing.{IsStated}
use Rattle.amqp_link_inbox.proofs.StatedLemmas.{stated_changed}
use Rattle.amqp_link_inbox.proofs.inbox.Inbox.keep_outcome.Goals as goal

pub invariant_of-self : goal.invariant_of-self
invariant_of-self g c =
    subst (λ link. IsStated c.self.inside.deliveries.entries link.unsettled) (sym c.on_incoming_disposition.ensures.after)
    (stated_changed (λ _. Some c.args.state) (c.args.tag.now ∷ []) c.self.inside.deliveries.entries c.self.inside.link.unsettled c.self.invariant)
