-- The flows that an inbox takes (OASIS AMQP 1.0 core, 2.6.7).
use Rattle.std.specs.Prelude.{Option, Some, None, ℕ}
use Rattle.amqp_link_types.specs.declared.types.performatives.LinkFlow.{LinkFlow}
use Rattle.amqp_link_state.specs.Counts.{moved_to}
use Rattle.amqp_link_state.specs.declared.state.LinkFlowStateInner.{LinkFlowStateInner}

-- moved to this count of the sender's, if there is one
abbrev pub moved_if : Option ℕ → LinkFlowStateInner → LinkFlowStateInner
moved_if None own = own
moved_if (Some count) own = moved_to count own

-- moved to the count that the sender's flow states, if it does
abbrev pub moved_by : LinkFlow → LinkFlowStateInner → LinkFlowStateInner
moved_by flow own = moved_if flow.delivery_count own
