use Rattle.std.proofs.Common.{arith}
use Rattle.amqp_link_core.proofs.CutLemmas.{counted_next}
use Rattle.amqp_link_core.proofs.incomplete_transfer.pieces.cut_at.Goals as goal

pub loop-i-preserved : goal.loop-i-preserved
loop-i-preserved c =
    counted_next c.args.pieces.now c.loop-i.i c.loop-i.rest c.args.size c.len-in-loop-i.result c.index-pieces-i.result
    c.loop-i-test.true c.index-pieces-i.is c.loop-i.invariant c.len-in-loop-i.ensures.value
    (omega (arith, c.len.ensures.value, c.len-in-loop-i.ensures.value, c.if-rest-len.false))
