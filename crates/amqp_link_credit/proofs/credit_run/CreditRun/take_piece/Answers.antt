use Rattle.std.proofs.Common.{◌≡◌, ◌∙◌, rules, sym, subst, true}
use Rattle.std.specs.Prelude.{IsSomeAnd}
use Rattle.amqp_link_types.specs.Frames.{performative_of}
use Rattle.amqp_link_credit.specs.CreditCalls.{TakesPiece, IsTransfer}
use Rattle.amqp_link_credit.specs.CreditWorlds.{CreditWorld, IsCreditWorld}
use Rattle.amqp_link_credit.specs.Queues.{front_of}
use Rattle.amqp_link_credit.specs.RunViews.{run_of}
use Rattle.amqp_link_credit.proofs.CallLemmas.{came_piece, first_received, first_in_turn, none_first, taken_off}
use Rattle.amqp_link_credit.proofs.credit_run.CreditRun.take_piece.Goals as goal

pub unreachable-requires : goal.unreachable-requires
unreachable-requires c =
    none_first (λ f. IsTransfer f true) c.self.inside.forward.frames c.in_default.ensures (subst (λ (w : CreditWorld). IsSomeAnd (front_of w.forward) (λ f. IsTransfer f true)) (sym c.self.view_is) c.requires)

pub hold-requires : goal.hold-requires
hold-requires c = record {
  can = (first_received (run_of c.self.inside) c.args.self.now c.in-Some.frame.now c.args.id true c.self.view_is c.self.invariant c.requires c.in-Some.ensures).1;
  turn = first_in_turn (run_of c.self.inside) c.args.self.now c.in-Some.frame.now true c.self.view_is c.self.invariant c.requires c.in-Some.ensures ∙ sym c.begins_delivery-begins_delivery.ensures;
}

-- the world after it
abbrev new : goal.After-take_off → CreditWorld
new c = record (run_of c.self.inside) { receiver = c.take_off.new.receiver; held = c.hold.new.held; forward = c.take_first.new.self.frames }

told : (c : goal.After-take_off) → c.take_off.new.receiver ≡ record c.self.inside.receiver { more = (performative_of c.in-Some.frame.now).more }
told c = search rules

did : (c : goal.After-take_off) → TakesPiece c.args.self.now c.args.id (new c) × IsCreditWorld (new c)
did c =
    came_piece (run_of c.self.inside) c.args.self.now c.in-Some.frame.now c.take_first.new.self.frames c.args.id c.hold.new.held c.take_off.new.receiver c.self.view_is c.self.invariant c.requires c.in-Some.ensures
    (taken_off c.self.inside.forward.frames c.take_first.new.self.frames c.take_first.result c.take_first.ensures) c.in_ok-hold.ensures.held (told c)

pub invariant_of-self-2 : goal.invariant_of-self-2
invariant_of-self-2 c = (did c).1

pub returns-clause-done : goal.returns-clause-done
returns-clause-done c = (did c).0

pub returns-clause-kept : goal.returns-clause-kept
returns-clause-kept c = (did c).1
