use Rattle.std.proofs.Common.{length}
use Rattle.amqp_link_split.proofs.FrameLemmas.{Cutting}
use Rattle.amqp_link_split.proofs.split.frames.Given as goal

abbrev pub invariant-loop-rest : goal.invariant-loop-rest
invariant-loop-rest l = Cutting l.input_handle l.fn.transfer l.payload l.limit l.frames.items l.rest

abbrev pub decreases-loop-rest : goal.decreases-loop-rest
decreases-loop-rest l = length l.rest
