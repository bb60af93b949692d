use Rattle.amqp_link_types.proofs.EntriesLemmas.{pair_at_tag}
use Rattle.amqp_link_types.proofs.types.unsettled_map.UnsettledMap.remove_entry.Goals as goal

pub returns-clause-entry : goal.returns-clause-entry
returns-clause-entry g c = rw (← c.self.view_is) (pair_at_tag _ c.args.tag.now _ c.swap_remove_entry.ensures.key c.swap_remove_entry.ensures.value)
