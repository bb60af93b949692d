use Rattle.std.proofs.Common.{◌≡◌, ◌+◌, ◌≤◌, drop}
use Rattle.amqp_link_exchange.specs.Plans.{resumed_count}
use Rattle.amqp_link_exchange.proofs.planning.resumed_among.Given as goal

-- those that were counted and those that are left make the whole
abbrev pub invariant-loop-step : goal.invariant-loop-step
invariant-loop-step l = record {
  count : l.resumed + resumed_count (drop l.step-index l.steps) ≡ resumed_count l.steps;
  bound : l.resumed ≤ l.step-index;
}
