use Rattle.std.proofs.Common.{length, ◌<◌, Global}
use Rattle.std.specs.declared.collections.VecDeque.{VecDeque}
use Rattle.amqp_link_types.specs.declared.frame.LinkFrame.{LinkFrame}
use Rattle.amqp_link_credit.proofs.QueueLemmas.{rest_of_all}
use Rattle.amqp_link_credit.proofs.queue.Queue.take_first.Goals as goal

pub invariant_of-self-else-not-is_empty : goal.invariant_of-self-else-not-is_empty
invariant_of-self-else-not-is_empty c = rest_of_all (λ (b : VecDeque LinkFrame Global). 0 < length b.items) c.self.inside.batches.items c.in_ok-batch.batch c.pop_front.new.self.items c.in_ok-batch.ensures.items c.self.invariant
