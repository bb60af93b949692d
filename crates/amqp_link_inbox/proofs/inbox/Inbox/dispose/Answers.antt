use Rattle.std.proofs.Common.{◌≡◌, ◌∙◌, ap, false, rules, subst, sym, true}
use Rattle.amqp_link_dispositions.specs.Keeping.{after_one, is_settled_one}
use Rattle.amqp_link_inbox.specs.Disposing.{after_settling}
use Rattle.amqp_link_inbox.specs.Storing.{IsStated}
use Rattle.amqp_link_inbox.proofs.StatedLemmas.{stated_disposed}
use Rattle.amqp_link_inbox.proofs.inbox.Inbox.dispose.Goals as goal

pub invariant_of-self-then-settles : goal.invariant_of-self-then-settles
invariant_of-self-then-settles g c =
    let inside = c.self.inside in
    let tag = c.args.tag.now in
    let settled = is_settled_one c.args.settled inside.link.rcv_settle_mode c.in-Ok.info in
    let is : settled ≡ true = search rules in
    subst (λ es. IsStated es c.dispose-sent.new.self.unsettled)
    (sym (ap (λ s. s.entries) c.remove.ensures ∙ ap (λ b. after_settling b tag inside.deliveries.entries) (sym is)))
    (subst (λ u. IsStated (after_settling settled tag inside.deliveries.entries) u)
    (sym (ap (λ l. l.unsettled) c.in-Ok-Some.ensures.after ∙ ap (λ t. after_one settled c.args.state t inside.link.unsettled) c.in-Ok.ensures.named))
    (stated_disposed settled c.args.state tag inside.deliveries.entries inside.link.unsettled c.self.invariant))

pub invariant_of-self-else-settles : goal.invariant_of-self-else-settles
invariant_of-self-else-settles g c =
    let inside = c.self.inside in
    let tag = c.args.tag.now in
    let settled = is_settled_one c.args.settled inside.link.rcv_settle_mode c.in-Ok.info in
    let is : settled ≡ false = search rules in
    subst (λ es. IsStated es c.dispose-sent.new.self.unsettled) (ap (λ b. after_settling b tag inside.deliveries.entries) is)
    (subst (λ u. IsStated (after_settling settled tag inside.deliveries.entries) u)
    (sym (ap (λ l. l.unsettled) c.in-Ok-Some.ensures.after ∙ ap (λ t. after_one settled c.args.state t inside.link.unsettled) c.in-Ok.ensures.named))
    (stated_disposed settled c.args.state tag inside.deliveries.entries inside.link.unsettled c.self.invariant))
