use Rattle.std.proofs.Common.{◌≡◌, ◌++◌}
use Rattle.amqp_link_types.specs.Unsettled.{states_of}
use Rattle.amqp_link_types.proofs.types.unsettled_map.UnsettledMap+UnsettledMessage.states.Given as goal

-- what is copied and what is left make the whole
abbrev pub invariant-loop-tag : goal.invariant-loop-tag
invariant-loop-tag l = l.states.entries ++ states_of l.tag-iterator ≡ states_of l.self
