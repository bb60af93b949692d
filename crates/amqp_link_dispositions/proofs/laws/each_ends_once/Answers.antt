use Rattle.amqp_link_dispositions.proofs.EndingLemmas.{each_once, each_kept}
use Rattle.amqp_link_dispositions.proofs.laws.each_ends_once.Goals as goal

pub returns-clause-once : goal.returns-clause-once
returns-clause-once c = each_once

pub returns-clause-entry : goal.returns-clause-entry
returns-clause-entry c = each_kept
