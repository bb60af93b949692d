use Rattle.std.proofs.Common.{◌≡◌, vec_len}
use Rattle.std.specs.Prelude.{All}
use Rattle.amqp_link_dispositions.specs.Ending.{closed_for}
use Rattle.amqp_link_dispositions.proofs.closing.reasons_for.Given as goal

abbrev pub invariant-loop : goal.invariant-loop
invariant-loop l = record {
  count : vec_len l.reasons ≡ l.counter;
  each : All (λ reason. reason ≡ closed_for l.error) l.reasons.items;
}
