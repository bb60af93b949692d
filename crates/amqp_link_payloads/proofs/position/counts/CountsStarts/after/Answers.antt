use Rattle.std.proofs.Common.{◌∙◌}
use Rattle.amqp_link_payloads.proofs.CountLemmas.{counted_after}
use Rattle.amqp_link_payloads.proofs.position.counts.CountsStarts.after.Goals as goal

pub returns : goal.returns
returns c = λ aim F has.
    c.new.ensures F has.number_is
    (c.offset_on.ensures _ has.offset_is ∙ counted_after c.args.self F c.args.length _ has c.saturating_sub.ensures)
