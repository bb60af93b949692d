use Rattle.std.proofs.Common.{rules, ◌≡◌, ◌∙◌, ◌||◌, ◌++◌, ap, subst}
use Rattle.amqp_link_credit.specs.CreditCalls.{TakesBack, reply_frames}
use Rattle.amqp_link_credit.specs.CreditWorlds.{CreditWorld, IsCreditWorld}
use Rattle.amqp_link_credit.specs.RunViews.{run_of}
use Rattle.amqp_link_credit.proofs.CallLemmas.{came_back}
use Rattle.amqp_link_credit.proofs.credit_run.CreditRun.back_arrives.Goals as goal

-- the world after it
abbrev new : goal.After-queue_reply → CreditWorld
new c = record (run_of c.self.inside) {
  sender = c.take_at_sender-reply.new.sender;
  forward = c.queue_reply.new.forward.frames;
  back = c.pop_front.new.self.items;
}

did : (c : goal.After-queue_reply) → TakesBack (run_of c.self.inside) c.if-flow.replied (new c) × IsCreditWorld (new c)
did c =
    let replied : c.if-flow.replied ≡ (c.in-Some.flow.drain || c.in-Some.flow.echo) = search rules in
    let same : c.reserve-2.new.self.frames ≡ c.self.inside.forward.frames = search rules in
    came_back (run_of c.self.inside) c.in-Some.flow c.pop_front.new.self.items c.if-flow.replied c.take_at_sender-reply.new.sender c.queue_reply.new.forward.frames c.self.invariant
    c.in-Some.ensures.items replied c.take_at_sender-reply.ensures.after
    (c.queue_reply.ensures ∙ ap (λ frames. frames ++ reply_frames c.take_at_sender-reply.result) same ∙ ap (λ reply. c.self.inside.forward.frames ++ reply_frames reply) c.take_at_sender-reply.ensures.reply)

pub invariant_of-self-2 : goal.invariant_of-self-2
invariant_of-self-2 c = (did c).1

pub returns-clause-done : goal.returns-clause-done
returns-clause-done c = subst (λ w. TakesBack w c.if-flow.replied (new c)) c.self.view_is (did c).0

pub returns-clause-credit : goal.returns-clause-credit
returns-clause-credit c = (did c).1.credit

pub returns-clause-kept : goal.returns-clause-kept
returns-clause-kept c = (did c).1
