use Rattle.std.proofs.Common.{◌≡◌, subst, rules, arith}
use Rattle.std.specs.Prelude.{IfSome}
use Rattle.std.proofs.lemmas.Grind.{common_steps}
use Rattle.std.proofs.lemmas.List.Elements.{All-pop}
use Rattle.amqp_link_dispositions.specs.Ending.{closed_for}
use Rattle.amqp_link_dispositions.proofs.closing.end_each.Goals as goal

pub loop-tag-preserved : goal.loop-tag-preserved
loop-tag-preserved c =
    let popped = All-pop (λ reason. reason ≡ closed_for c.args.error.now) c.loop-tag.reasons.items c.pop.new.self.items c.pop.result c.pop.ensures.items c.loop-tag.invariant.each in
    let why : c.in-Some-pop.reason ≡ closed_for c.args.error.now
    = subst (λ r. IfSome r (λ reason. reason ≡ closed_for c.args.error.now)) c.in-Some-pop.is popped.1 in
    record {
      ended = grind (arith, common_steps);
      count = search rules;
      each = popped.0;
      room = grind (arith, common_steps);
    }
