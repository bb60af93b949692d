use Rattle.std.proofs.Common.{◌≡◌, ◌∙◌, ◌++◌, ap, map, arith}
use Rattle.std.proofs.lemmas.Grind.{common_steps}
use Rattle.amqp_link_dispositions.proofs.EndingLemmas.{in_turn, in_turn-settled_of}
use Rattle.amqp_link_dispositions.proofs.changes.settle_all.Goals as goal

pub returns-clause-ended : goal.returns-clause-ended
returns-clause-ended c =
    let all : c.loop-tag.outcomes.items ≡ c.args.outcomes.now.items ++ in_turn c.args.unsettled.now (map (λ tag. tag.now) c.args.tags.now) = grind (arith, common_steps) in
    all ∙ ap (λ l. c.args.outcomes.now.items ++ l) (in_turn-settled_of c.args.unsettled.now (map (λ tag. tag.now) c.args.tags.now) c.requires.distinct)
