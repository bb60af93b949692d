use Rattle.std.proofs.Common.{◌≡◌, length}
use Rattle.amqp_link_exchange.specs.Plans.{IsProgress}
use Rattle.amqp_link_exchange.proofs.planning.plan_each.Given as goal

-- the entries of the receiver's map that are left are still to be read
abbrev pub invariant-loop-tag : goal.invariant-loop-tag
invariant-loop-tag l = record {
  each : length l.steps.items ≡ length l.own;
  read : IsProgress l.own (record { steps = l.steps.items; aborts = l.aborts.items }) l.tag-iterator l.fn.remote;
}
