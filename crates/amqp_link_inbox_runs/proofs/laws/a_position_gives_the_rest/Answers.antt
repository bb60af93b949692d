use Rattle.std.proofs.Common.{◌∙◌, ap, sym}
use Rattle.amqp_link_payloads.specs.Position.{position}
use Rattle.amqp_link_core.specs.Resuming.{receiver_report, rest_from, row, sender_report}
use Rattle.amqp_link_core.specs.declared.resumption.Resolution.TheVariants.{Resuming}
use Rattle.amqp_link_core.specs.declared.resumption.ResumingDelivery.TheVariants.{Resume}
use Rattle.std.specs.Prelude.{Some}
use Rattle.amqp_link_inbox_runs.specs.InboxRuns.{received}
use Rattle.amqp_link_inbox_runs.proofs.laws.a_position_gives_the_rest.Goals as goal

pub returns : goal.returns
returns c = λ tag entry held rest unheard joined.
    ap (λ s. row tag entry (sender_report s) (receiver_report (Some (received held)))) unheard
    ∙ ap (λ r. Resuming (Resume entry r))
    (ap (λ p. rest_from p (position held).0 (position held).1) (sym joined) ∙ c.front_and_rest_are_the_payload.ensures held rest)
