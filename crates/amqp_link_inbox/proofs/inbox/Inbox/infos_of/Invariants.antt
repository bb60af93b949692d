use Rattle.std.proofs.Common.{◌≡◌, drop}
use Rattle.amqp_link_inbox.specs.Disposing.{infos_to_dispose}
use Rattle.amqp_link_inbox.proofs.InfosLemmas.{infos_after}
use Rattle.amqp_link_inbox.proofs.inbox.Inbox.infos_of.Given as goal

-- those that were found and those that are left make the whole
abbrev pub invariant-loop-tag : goal.invariant-loop-tag
invariant-loop-tag g l =
    infos_after l.infos.items (infos_to_dispose l.self.link.local_state l.self.deliveries (drop l.tag-index l.tags))
    ≡ infos_to_dispose l.self.link.local_state l.self.deliveries l.tags
