use Rattle.std.proofs.Common.{◌≡◌, drop}
use Rattle.amqp_link_types.specs.Entries.{without_entries}
use Rattle.amqp_link_inbox.specs.InboxAttaches.{forgotten_tags}
use Rattle.amqp_link_inbox.proofs.deliveries.Deliveries.forget_all.Given as goal

-- what was dropped and what is left to be make the whole
abbrev pub invariant-loop-delivery : goal.invariant-loop-delivery
invariant-loop-delivery g l =
    let left = forgotten_tags (drop l.delivery-index l.forgotten) in
    record {
      entries : without_entries l.self.entries left ≡ without_entries l.initial.self.entries (forgotten_tags l.forgotten);
      settled : l.self.settled ≡ l.initial.self.settled;
      link : record l.link { unsettled = without_entries l.link.unsettled left }
          ≡ record l.initial.link { unsettled = without_entries l.initial.link.unsettled (forgotten_tags l.forgotten) };
    }
