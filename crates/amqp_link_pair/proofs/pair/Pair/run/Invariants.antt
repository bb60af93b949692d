use Rattle.std.proofs.Common.{Bool, List, ◌++◌, Result, drop}
use Rattle.amqp_link_payloads.specs.Bodies.{whole_message}
use Rattle.amqp_link_payloads.specs.declared.message.whole.Whole.{Whole}
use Rattle.amqp_link_worlds.specs.Invariants.{IsWorld}
use Rattle.amqp_link_worlds.specs.PairRuns.{RunsEvents}
use Rattle.amqp_link_worlds.specs.Worlds.{World}
use Rattle.amqp_link_worlds.specs.declared.error.PairError.{PairError}
use Rattle.amqp_link_worlds.specs.declared.event.AnswerOf.{AnswerOf}
use Rattle.amqp_link_pair.proofs.pair.Pair.run.Given as goal

-- a run of the events that are left goes on to one of all
abbrev pub invariant-loop-event : goal.invariant-loop-event
invariant-loop-event l = record {
  goes_on : (later : List (Result (AnswerOf Whole) PairError)) (finished : Bool) (new : World) → RunsEvents whole_message l.self (drop l.event-index l.events) later finished new
      → RunsEvents whole_message l.initial.self l.events (l.answers.items ++ later) finished new;
  kept : IsWorld l.self;
}
