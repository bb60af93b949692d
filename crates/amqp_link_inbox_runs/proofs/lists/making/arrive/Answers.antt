use Rattle.std.specs.Prelude.{IfOk, MatchResult, OnErr, Result, Ok, Err}
use Rattle.amqp_link_inbox.specs.Inboxes.{Arrives}
use Rattle.amqp_link_inbox_runs.proofs.MakingLemmas.{is_as}
use Rattle.amqp_link_inbox_runs.proofs.lists.making.arrive.Goals as goal

pub returns-clause-step : goal.returns-clause-step
returns-clause-step g c =
    let old = c.args.inbox.now in
    let call = c.on_incoming_transfer in
    arrives (λ came. Arrives old c.args.transfer c.args.payload came call.new.self) call.result call.ensures.arrives call.ensures.left (λ is. is_as old is)
  where
    arrives : {A E Q Q' : Type 0} (P : A → Type 0) (r : Result A E) → IfOk r P → OnErr r Q → (Q → Q') → MatchResult r P (λ _. Q')
    arrives P (Ok a) done left err = done
    arrives P (Err e) done left err = err left
