use Rattle.amqp_link_endpoint.proofs.Halving.{Halved}
use Rattle.amqp_link_endpoint.proofs.endpoint.dividing.divided.Given as goal

abbrev pub invariant-loop-sent : goal.invariant-loop-sent
invariant-loop-sent l = Halved l.fn.attach l.fn.entries l.max_frame_size l.count l.sent

abbrev pub decreases-loop-sent : goal.decreases-loop-sent
decreases-loop-sent l = l.count
