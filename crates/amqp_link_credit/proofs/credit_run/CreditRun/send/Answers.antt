use Rattle.std.proofs.Common.{rules, ◌≡◌, ◌∙◌, ◌++◌, ◌<◌, ◌^◌, ap, subst, length}
use Rattle.amqp_link_credit.specs.CreditCalls.{SendsDelivery}
use Rattle.amqp_link_credit.specs.CreditWorlds.{CreditWorld, IsCreditWorld}
use Rattle.amqp_link_credit.specs.RunViews.{run_of}
use Rattle.amqp_link_credit.proofs.CallLemmas.{did_send}
use Rattle.amqp_link_credit.proofs.SendTaken.{can_send, has_credit}
use Rattle.amqp_link_credit.proofs.credit_run.CreditRun.send.Goals as goal

pub refusal_without_room-requires : goal.refusal_without_room-requires
refusal_without_room-requires c = can_send (run_of c.self.inside) c.self.invariant

pub send_on-requires : goal.send_on-requires
send_on-requires c = can_send (run_of c.self.inside) c.self.invariant

-- the world after it
abbrev new : goal.After-push → CreditWorld
new c = record (run_of c.self.inside) { sender = c.send_on.new.sender; forward = c.push.new.self.frames }

did : (c : goal.After-push) → SendsDelivery (run_of c.self.inside) c.args.payload.now c.args.settled c.in_ok-tag.tag c.len-count.result (new c) × IsCreditWorld (new c)
did c =
    let short : length c.args.payload.now < 2 ^ 32 = search rules in
    let counted : c.len-count.result ≡ length c.in_ok-tag.frames.items = search rules in
    did_send (run_of c.self.inside) c.args.payload.now c.args.settled c.in_ok-tag.tag c.in_ok-tag.frames.items c.push.new.self.frames c.len-count.result c.send_on.new.sender c.self.invariant
    (has_credit c.self.inside.sender c.args.settled c.in_ok-tag.ensures.refused) short c.in_ok-tag.ensures.tag c.in_ok-tag.ensures.framed c.in_ok-tag.ensures.fits counted c.in_ok-tag.ensures.done
    (c.push.ensures ∙ ap (λ frames. c.reserve.new.self.frames ++ frames) c.from_vec.ensures.items ∙ ap (λ frames. frames ++ c.in_ok-tag.frames.items) c.reserve.ensures.same)

pub invariant_of-self-2 : goal.invariant_of-self-2
invariant_of-self-2 c = (did c).1

pub returns-clause-done : goal.returns-clause-done
returns-clause-done c = subst (λ w. SendsDelivery w c.args.payload.now c.args.settled c.in_ok-tag.tag c.len-count.result (new c)) c.self.view_is (did c).0

pub returns-clause-credit : goal.returns-clause-credit
returns-clause-credit c = (did c).1.credit

pub returns-clause-kept : goal.returns-clause-kept
returns-clause-kept c = (did c).1
