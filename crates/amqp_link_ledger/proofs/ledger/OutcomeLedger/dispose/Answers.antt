use Rattle.std.proofs.Common.{◌≡◌, ◌∷◌, [], rules}
use Rattle.amqp_link_sender.specs.SenderDisposes.{ended_at}
use Rattle.amqp_link_ledger.specs.Fates.{Resolves, after}
use Rattle.amqp_link_ledger.proofs.BatchLemmas.{recorded-disposing}
use Rattle.amqp_link_ledger.proofs.ledger.OutcomeLedger.dispose.Goals as goal

pub invariant_of-self : goal.invariant_of-self
invariant_of-self g c =
    let before = c.self.inside.registrations.records in
    let link = c.self.inside.link in
    let resolves : c.resolve_if_ended.new.registrations.records ≡ after (Resolves (ended_at link c.args.settled (c.args.delivery_tag.now ∷ []))) before = search rules in
    rw (c.in-Ok-dispose.ensures.after, resolves)
    (recorded-disposing link before c.self.invariant c.args.settled c.args.state (c.args.delivery_tag.now ∷ []))
