use Rattle.std.proofs.Common.{◌∙◌, ap}
use Rattle.amqp_link.specs.Exchanges.{deliveries_to_resume, outcomes_returned}
use Rattle.amqp_link.specs.AttachFields.{remote_entries}
use Rattle.amqp_link.specs.Exchanging.{ledger_taken}
use Rattle.amqp_link.specs.Targets.{plain_target}
use Rattle.amqp_link_uses.specs.Brokers.{OutgoingState, attached_by}
use Rattle.amqp_link_uses.proofs.broker.outgoing.Outgoing.take_attach.Goals as goal

pub returns-in-Ok-clause-after : goal.returns-in-Ok-clause-after
returns-in-Ok-clause-after c =
    let theirs = c.args.theirs in
    let under_way = c.self.inside.under_way.entries in
    let own = c.self.inside.ledger.link.unsettled in
    let ledger = ledger_taken plain_target c.self.inside.ledger theirs in
    let ended = outcomes_returned own (remote_entries theirs) in
    let is_incomplete = c.in-Ok.field-0.is_incomplete in
    let resuming = c.from_vec-in-Ok.result.items in
    let o : OutgoingState = record {
      ledger = c.self.inside.ledger;
      under_way = under_way;
      ended = c.self.inside.ended.items;
      resuming = c.self.inside.resuming.items;
      is_incomplete = c.self.inside.is_incomplete;
    } in
    ap (λ l. record { ledger = l; under_way = under_way; ended = c.from_vec.result.items; resuming = resuming; is_incomplete = is_incomplete }) c.in-Ok.ensures.taken
    ∙ ap (λ e. record { ledger = ledger; under_way = under_way; ended = e; resuming = resuming; is_incomplete = is_incomplete })
    (c.from_vec.ensures.items ∙ c.in-Ok.ensures.ended)
    ∙ ap (λ r. record { ledger = ledger; under_way = under_way; ended = ended; resuming = r; is_incomplete = is_incomplete })
    (c.from_vec-in-Ok.ensures.items ∙ c.in-Ok.ensures.listed)
    ∙ ap (λ i. record { ledger = ledger; under_way = under_way; ended = ended; resuming = deliveries_to_resume own (remote_entries theirs); is_incomplete = i })
    c.in-Ok.ensures.incomplete
    ∙ ap (λ s. attached_by theirs s) c.self.view_is
