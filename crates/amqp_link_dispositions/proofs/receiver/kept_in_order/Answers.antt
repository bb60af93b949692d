use Rattle.std.proofs.Common.{rules, arith, is_some}
use Rattle.std.proofs.lemmas.Grind.{common_steps}
use Rattle.std.specs.List.{filter}
use Rattle.amqp_link_types.specs.Entries.{entry_at}
use Rattle.amqp_link_dispositions.proofs.ListLemmas.{own_sorted}
use Rattle.amqp_link_dispositions.proofs.receiver.kept_in_order.Goals as goal

pub returns : goal.returns
returns c =
    own_sorted (λ info. info.now) (λ info. info.delivery_id) c.loop-info.kept.items c.sort_by_id.new.pairs.items
    (filter (λ info. is_some (entry_at c.args.unsettled.now info.delivery_tag)) c.args.infos.now) _
    (grind (arith, common_steps)) (search rules) (search rules)
