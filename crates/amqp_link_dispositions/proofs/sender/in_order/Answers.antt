use Rattle.std.proofs.Common.{rules, arith}
use Rattle.std.proofs.lemmas.Grind.{common_steps}
use Rattle.amqp_link_dispositions.proofs.ListLemmas.{numbers_sorted, elements_sorted}
use Rattle.amqp_link_dispositions.proofs.sender.in_order.Goals as goal

pub returns-clause-ids : goal.returns-clause-ids
returns-clause-ids c =
    numbers_sorted (λ tag. tag.now) c.loop-id.sorted.items c.sort_by_id.new.pairs.items c.args.listed.now c.in_ok-ids.ids.items
    (grind (arith, common_steps)) (search rules) (search rules)

pub returns-clause-tags : goal.returns-clause-tags
returns-clause-tags c =
    elements_sorted (λ tag. tag.now) c.loop-id.sorted.items c.sort_by_id.new.pairs.items c.args.listed.now c.in_ok-tags.tags.items
    (grind (arith, common_steps)) (search rules) (search rules)
