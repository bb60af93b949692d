use Rattle.std.proofs.Common.{refl}
use Rattle.amqp_link_payloads.proofs.TailLemmas.{nothing_read}
use Rattle.amqp_link_payloads.proofs.position.scan.Tail.new.Goals as goal

pub returns : goal.returns
returns c = nothing_read _ refl refl
