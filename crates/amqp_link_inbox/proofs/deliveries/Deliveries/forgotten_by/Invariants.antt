use Rattle.std.proofs.Common.{◌≡◌, ◌++◌}
use Rattle.amqp_link_inbox.specs.InboxAttaches.{forgotten_by}
use Rattle.amqp_link_inbox.proofs.deliveries.Deliveries.forgotten_by.Given as goal

-- what was found and what is left make the whole
abbrev pub invariant-loop-tag : goal.invariant-loop-tag
invariant-loop-tag l = l.forgotten.items ++ forgotten_by l.attach l.tag-iterator ≡ forgotten_by l.attach l.self.entries
