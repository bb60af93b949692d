use Rattle.amqp_link_inbox.proofs.BytesLemmas.{bytes_come}
use Rattle.amqp_link_inbox.proofs.laws.bytes_are_those_that_came.Goals as goal

pub returns : goal.returns
returns g c = λ old new t bytes came is a tag named. bytes_come old new t bytes came is a tag named
