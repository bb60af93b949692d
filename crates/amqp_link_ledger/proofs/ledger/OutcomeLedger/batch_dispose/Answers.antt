use Rattle.std.proofs.Common.{◌≡◌, rules}
use Rattle.amqp_link_dispositions.specs.Listed.{tags_in_order}
use Rattle.amqp_link_ledger.specs.Disposing.{copies_at}
use Rattle.amqp_link_ledger.proofs.BatchLemmas.{recorded-disposing, resolved-copied}
use Rattle.amqp_link_ledger.proofs.ledger.OutcomeLedger.batch_dispose.Goals as goal

pub invariant_of-self : goal.invariant_of-self
invariant_of-self g c =
    let before = c.self.inside.registrations.records in
    let link = c.self.inside.link in
    let copied : c.in-Ok.copies.items ≡ copies_at link c.args.settled c.args.ids_and_tags.now = search rules in
    rw (
      c.in-Ok-batch_dispose.ensures.after,
      resolved-copied link c.args.settled c.args.ids_and_tags.now before c.in-Ok.copies.items c.resolve_listed.new.registrations.records
          copied c.resolve_listed.ensures.none c.resolve_listed.ensures.each,
    )
    (recorded-disposing link before c.self.invariant c.args.settled c.args.state (tags_in_order c.args.ids_and_tags.now))

pub returns-in-Ok-batch_dispose-clause-records : goal.returns-in-Ok-batch_dispose-clause-records
returns-in-Ok-batch_dispose-clause-records g c =
    let before = c.self.inside.registrations.records in
    let link = c.self.inside.link in
    let copied : c.in-Ok.copies.items ≡ copies_at link c.args.settled c.args.ids_and_tags.now = search rules in
    rw (← c.self.view_is)
    (resolved-copied link c.args.settled c.args.ids_and_tags.now before c.in-Ok.copies.items c.resolve_listed.new.registrations.records
    copied c.resolve_listed.ensures.none c.resolve_listed.ensures.each)
