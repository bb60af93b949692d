use Rattle.std.proofs.Common.{◌∙◌, ap, Option}
use Rattle.amqp_link_dispositions.specs.Keeping.{is_settled_one, after_dispositions}
use Rattle.amqp_link_dispositions.specs.Listed.{kept_in_order}
use Rattle.amqp_link_types.specs.declared.types.delivery_state.DeliveryState.{DeliveryState}
use Rattle.amqp_link_types.specs.Entries.{Entries}
use Rattle.amqp_link_receiver.specs.Receivers.{Receiver}
use Rattle.amqp_link_receiver.proofs.receiver_link.ReceiverLink.dispose_all.Goals as goal

pub returns-clause-after : goal.returns-clause-after
returns-clause-after g c =
    let kept_of : Receiver _ → Entries (Option DeliveryState) = λ link.
    after_dispositions (is_settled_one c.args.settled link.rcv_settle_mode) c.args.state (kept_in_order link.unsettled c.args.delivery_infos.now) link.unsettled in
    let with_kept : Receiver _ → Entries (Option DeliveryState) → Receiver _ = λ link es. record link { unsettled = es } in
    ap (λ link. with_kept link c.dispose_all.new.unsettled) c.self.view_is
    ∙ ap (with_kept c.args.self.now) (c.in_ok-frames.ensures.after ∙ ap kept_of c.self.view_is)
