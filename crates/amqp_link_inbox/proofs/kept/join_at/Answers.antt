use Rattle.std.proofs.Common.{◌∙◌, ap}
use Rattle.amqp_link_core.specs.Held.{held_bytes}
use Rattle.amqp_link_inbox.specs.KeptDeliveries.{bytes_until}
use Rattle.amqp_link_inbox.proofs.StartLemmas.{joins}
use Rattle.amqp_link_inbox.proofs.kept.join_at.Goals as goal

pub returns-in-Ok-add_or_return-clause-joined : goal.returns-in-Ok-add_or_return-clause-joined
returns-in-Ok-add_or_return-clause-joined c =
    let held = c.args.held.now in
    joins c.args.begins c.args.transfer c.args.payload held c.in-Ok.front c.add_or_return.new.self
    (c.in-Ok.ensures.bytes ∙ ap (λ s. bytes_until s (held_bytes held)) c.requires) c.in-Ok.ensures.performative
    c.in-Ok-add_or_return.ensures.pieces c.in-Ok-add_or_return.ensures.merged
