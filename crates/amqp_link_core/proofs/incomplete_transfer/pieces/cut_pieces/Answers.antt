use Rattle.std.proofs.Common.{ap, ◌∙◌}
use Rattle.std.specs.List.{concat}
use Rattle.amqp_link_core.proofs.CutLemmas.{cut_between, cut_within}
use Rattle.amqp_link_core.proofs.incomplete_transfer.pieces.cut_pieces.Goals as goal

pub returns-in_ok-front-clause-prefix : goal.returns-in_ok-front-clause-prefix
returns-in_ok-front-clause-prefix c =
    cut_within c.args.pieces.now.items _ c.cut_at-whole.result.0 c.args.size c.cut_at-whole.result.1 c.index.result.now c.in_ok-front.front
    (rw c.as_slice.ensures.value at (c.cut_at-whole.ensures.within c.if-rest-gt0.true))
    (rw c.as_slice.ensures.value at c.cut_at-whole.ensures.size)
    c.index.ensures c.in_ok-front.ensures.ok c.truncate.ensures.items

pub returns-else-rest-gt0-clause-prefix : goal.returns-else-rest-gt0-clause-prefix
returns-else-rest-gt0-clause-prefix c =
    ap concat c.truncate-else-rest-gt0.ensures.items
    ∙ cut_between c.args.pieces.now.items c.cut_at-whole.result.0 c.args.size c.cut_at-whole.result.1
    (rw c.as_slice.ensures.value at c.cut_at-whole.ensures.size) c.if-rest-gt0.false
