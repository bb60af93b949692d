use Rattle.std.proofs.Common.{length, ◌<◌}
use Rattle.amqp_link_pair.specs.declared.wire.Batch.{Batch}
use Rattle.amqp_link_pair.proofs.WireLemmas.{rest_of_all}
use Rattle.amqp_link_pair.proofs.wire.Wire.take_first.Goals as goal

pub invariant_of-self-else-not-is_empty : goal.invariant_of-self-else-not-is_empty
invariant_of-self-else-not-is_empty c = rest_of_all (λ (b : Batch). 0 < length b.frames.items) c.self.inside.batches.items c.in_ok-batch.batch c.pop_front.new.self.items c.in_ok-batch.ensures.items c.self.invariant
