use Rattle.std.proofs.Common.{◌≡◌, ◌+◌, sum_by}
use Rattle.amqp_link_types.specs.Size.{entry_len}
use Rattle.amqp_link_types.proofs.size.attach.UnsettledMapOptionDeliveryStateEncodedLen.encoded_len.Given as goal

-- what is counted and what is left make the whole
abbrev pub invariant-loop-tag : goal.invariant-loop-tag
invariant-loop-tag l = l.content + sum_by entry_len l.tag-iterator ≡ sum_by entry_len l.self
