use Rattle.std.proofs.Common.{◌≡◌, ◌∙◌, rules, sym, subst, false}
use Rattle.std.specs.Prelude.{IsSomeAnd}
use Rattle.amqp_link_types.specs.Frames.{performative_of}
use Rattle.amqp_link_credit.specs.CreditCalls.{Completes, IsTransfer}
use Rattle.amqp_link_credit.specs.CreditWorlds.{CreditWorld, IsCreditWorld}
use Rattle.amqp_link_credit.specs.Queues.{front_of}
use Rattle.amqp_link_credit.specs.RunViews.{run_of}
use Rattle.amqp_link_credit.proofs.CallLemmas.{came_whole, whole_handed, first_received, first_in_turn, none_first, taken_off}
use Rattle.amqp_link_credit.proofs.credit_run.CreditRun.complete.Goals as goal

pub unreachable-requires : goal.unreachable-requires
unreachable-requires c =
    none_first (λ f. IsTransfer f false) c.self.inside.forward.frames c.in_default.ensures (subst (λ (w : CreditWorld). IsSomeAnd (front_of w.forward) (λ f. IsTransfer f false)) (sym c.self.view_is) c.requires)

pub with_last-requires : goal.with_last-requires
with_last-requires c = record {
  can = (first_received (run_of c.self.inside) c.args.self.now c.in-Some.frame.now c.args.id false c.self.view_is c.self.invariant c.requires c.in-Some.ensures).1;
  turn = first_in_turn (run_of c.self.inside) c.args.self.now c.in-Some.frame.now false c.self.view_is c.self.invariant c.requires c.in-Some.ensures ∙ sym c.begins_delivery-begins_delivery.ensures;
}

pub hand_out-requires-clause-taken : goal.hand_out-requires-clause-taken
hand_out-requires-clause-taken c =
    whole_handed (run_of c.self.inside) c.args.self.now c.in-Some.frame.now c.args.id c.in_ok-whole.whole c.self.view_is c.self.invariant c.requires c.in-Some.ensures c.in_ok-whole.ensures

-- the world after it
abbrev new : goal.After-take_off → CreditWorld
new c = record (run_of c.self.inside) { receiver = c.take_off.new.receiver; held = c.set.new.place; forward = c.take_first.new.self.frames }

told : (c : goal.After-take_off) → c.take_off.new.receiver ≡ record c.hand_out.new.receiver { more = (performative_of c.in-Some.frame.now).more }
told c = search rules

did : (c : goal.After-take_off) → Completes c.args.self.now c.args.id c.in_ok-delivery.delivery (new c) × IsCreditWorld (new c)
did c =
    came_whole (run_of c.self.inside) c.args.self.now c.in-Some.frame.now c.take_first.new.self.frames c.args.id c.in_ok-whole.whole c.set.new.place c.in_ok-delivery.delivery c.hand_out.new.receiver c.take_off.new.receiver
    c.self.view_is c.self.invariant c.requires c.in-Some.ensures (taken_off c.self.inside.forward.frames c.take_first.new.self.frames c.take_first.result c.take_first.ensures) c.in_ok-whole.ensures c.set.ensures c.in_ok-delivery.ensures.given c.in_ok-delivery.ensures.after (told c)

pub invariant_of-self-2 : goal.invariant_of-self-2
invariant_of-self-2 c = (did c).1

pub returns-clause-done : goal.returns-clause-done
returns-clause-done c = (did c).0

pub returns-clause-kept : goal.returns-clause-kept
returns-clause-kept c = (did c).1
