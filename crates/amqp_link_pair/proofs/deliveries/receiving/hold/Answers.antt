use Rattle.std.proofs.Common.{◌∙◌, ◌++◌, ap, sym, Some}
use Rattle.amqp_link_payloads.specs.Position.{position}
use Rattle.amqp_link_types.specs.Frames.{payload_of}
use Rattle.amqp_link_core.specs.Held.{held_bytes}
use Rattle.amqp_link_worlds.specs.Worlds.{bytes_in}
use Rattle.amqp_link_worlds.proofs.DeliveryLemmas.{bytes_received}
use Rattle.amqp_link_pair.proofs.deliveries.receiving.hold.Goals as goal

pub returns-in_ok-report-in-Some-clause-place : goal.returns-in_ok-report-in-Some-clause-place
returns-in_ok-report-in-Some-clause-place c =
    c.position-place.ensures
    ∙ ap (λ h. position (held_bytes h)) (c.deref.ensures ∙ c.in_ok-go_on-in-Some.ensures.ok)
    ∙ ap position (bytes_received (Some c.deref_mut.result.now) c.args.id c.args.frame.now)
    ∙ ap (λ h. position (bytes_in h ++ payload_of c.args.frame.now)) (ap Some c.deref_mut.ensures.value ∙ sym c.in-Some.is)
