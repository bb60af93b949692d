use Rattle.std.proofs.Common.{◌≡◌, ◌-◌, not}
use Rattle.std.specs.Prelude.{count_by}
use Rattle.amqp_link.specs.Entries.{entry_at}
use Rattle.amqp_link_uses.specs.Brokers.{is_taken, untaken}
use Rattle.amqp_link_uses.proofs.broker.granting.left_beside_untaken.Given as goal

-- what is left beside those that are still to come
abbrev pub invariant-loop-tag : goal.invariant-loop-tag
invariant-loop-tag l = l.left - count_by (λ e. not (is_taken (entry_at l.inbox.deliveries e.0))) l.tag-iterator
    ≡ l.initial.left - untaken l.inbox
