use Rattle.std.proofs.Common.{refl}
use Rattle.amqp_link_payloads.proofs.CountLemmas.{counted_before, counted_passed}
use Rattle.amqp_link_payloads.proofs.position.counts.Counts.new.Goals as goal

pub returns : goal.returns
returns c = λ F number offset xs same. counted_passed _ F xs 0 (counted_before _ F refl number offset) same
