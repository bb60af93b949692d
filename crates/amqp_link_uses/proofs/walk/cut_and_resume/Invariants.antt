use Rattle.amqp_link.specs.Invariants.{IsWorld}
use Rattle.amqp_link_uses.specs.Walks.{KeepsRegistered}
use Rattle.amqp_link_uses.proofs.walk.cut_and_resume.Given as goal

abbrev pub invariant-loop : goal.invariant-loop
invariant-loop l = record {
  keeps : KeepsRegistered l.initial.pair l.pair;
  kept : IsWorld l.pair;
}
