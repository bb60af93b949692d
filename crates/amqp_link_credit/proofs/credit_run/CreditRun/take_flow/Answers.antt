use Rattle.std.proofs.Common.{sym, subst}
use Rattle.std.specs.Prelude.{IsSomeAnd}
use Rattle.amqp_link_pair.specs.Endpoints.{IsFlow}
use Rattle.amqp_link_credit.specs.Queues.{front_of}
use Rattle.amqp_link_credit.specs.CreditCalls.{TakesFlow}
use Rattle.amqp_link_credit.specs.CreditWorlds.{CreditWorld, IsCreditWorld}
use Rattle.amqp_link_credit.specs.RunViews.{run_of}
use Rattle.amqp_link_credit.proofs.CallLemmas.{came_flow, first_holds, none_holds, flow_has_no_echo}
use Rattle.amqp_link_credit.proofs.credit_run.CreditRun.take_flow.Goals as goal

pub unreachable-requires : goal.unreachable-requires
unreachable-requires c =
    let first : IsSomeAnd (front_of c.self.inside.forward.frames) IsFlow = subst (λ (w : CreditWorld). IsSomeAnd (front_of w.forward) IsFlow) (sym c.self.view_is) c.requires in
    none_holds IsFlow c.self.inside.forward.frames c.in_default.ensures.0 first

flow : (c : goal.After-take_at_receiver) → IsFlow c.in-Some.frame
flow c = first_holds IsFlow c.self.inside.forward.frames c.in-Some.frame c.take_first.new.self.frames c.in-Some.ensures
    (subst (λ (w : CreditWorld). IsSomeAnd (front_of w.forward) IsFlow) (sym c.self.view_is) c.requires)

pub take_at_receiver-requires-clause-silent : goal.take_at_receiver-requires-clause-silent
take_at_receiver-requires-clause-silent c =
    flow_has_no_echo (run_of c.self.inside) c.in-Some.frame c.take_first.new.self.frames c.self.invariant c.in-Some.ensures
    (first_holds IsFlow c.self.inside.forward.frames c.in-Some.frame c.take_first.new.self.frames c.in-Some.ensures
    (subst (λ (w : CreditWorld). IsSomeAnd (front_of w.forward) IsFlow) (sym c.self.view_is) c.requires))

-- the world after it
abbrev new : goal.After-take_at_receiver → CreditWorld
new c = record (run_of c.self.inside) { receiver = c.take_at_receiver.new.receiver; forward = c.take_first.new.self.frames }

did : (c : goal.After-take_at_receiver) → TakesFlow (run_of c.self.inside) (new c) × IsCreditWorld (new c)
did c =
    came_flow (run_of c.self.inside) c.in-Some.frame c.take_first.new.self.frames c.take_at_receiver.new.receiver c.self.invariant
    c.in-Some.ensures (flow c) c.take_at_receiver.ensures

pub invariant_of-self : goal.invariant_of-self
invariant_of-self c = (did c).1

pub returns-clause-done : goal.returns-clause-done
returns-clause-done c = subst (λ w. TakesFlow w (new c)) c.self.view_is (did c).0

pub returns-clause-kept : goal.returns-clause-kept
returns-clause-kept c = (did c).1
