use Rattle.amqp_link_inbox.proofs.OtherLemmas.{other_stays}
use Rattle.amqp_link_inbox.proofs.laws.a_transfer_changes_its_own_delivery.Goals as goal

pub returns : goal.returns
returns g c = λ old new t bytes came is a other apart. other_stays old new t bytes came is a other apart
