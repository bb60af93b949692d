use Rattle.linkrun.proofs.LineLemmas.{event_read}
use Rattle.linkrun.proofs.event.parse_event.Goals as goal

pub returns-clause-ok : goal.returns-clause-ok
returns-clause-ok c =
    event_read c.args.line.now c.event_with_bytes.result c.in_default.ensures c.in_default-event_with_number.ensures c.event_with_bytes.ensures.ok
