use Rattle.std.proofs.Common.{ap, subst, sym}
use Rattle.std.specs.Prelude.{if◌then◌else◌}
use Rattle.amqp_link_inbox.specs.Disposing.{settled_at}
use Rattle.amqp_link_inbox.specs.Storing.{IsStated}
use Rattle.amqp_link_inbox.proofs.StatedLemmas.{stated_sent}
use Rattle.amqp_link_inbox.proofs.inbox.Inbox.on_incoming_disposition.Goals as goal

pub invariant_of-self-2 : goal.invariant_of-self-2
invariant_of-self-2 g c =
    subst (λ es. IsStated es c.on_incoming_disposition.new.self.unsettled) (sym (ap (λ s. s.entries) c.in_default.ensures.settled))
    (subst (λ u. IsStated (if c.args.settled then settled_at c.args.tag.now c.self.inside.deliveries else c.self.inside.deliveries).entries u) (sym (ap (λ l. l.unsettled) c.on_incoming_disposition.ensures.after))
    (stated_sent c.args.settled c.args.state c.self.inside.deliveries c.self.inside.link c.self.invariant c.args.tag.now))
