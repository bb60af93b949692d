use Rattle.std.proofs.Common.{refl}
use Rattle.amqp_link_payloads.proofs.CountLemmas.{nothing_there}
use Rattle.amqp_link_payloads.proofs.position.sections.Sections.new.Goals as goal

pub returns : goal.returns
returns c = record { number_is = nothing_there.0; offset_is = nothing_there.1; tail_is = c.new.ensures; length_is = refl }
