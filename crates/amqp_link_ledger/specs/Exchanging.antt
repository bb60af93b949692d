-- A ledger whose link is attached again (OASIS AMQP 1.0 core, 2.6.13): the fates of its registrations.
use Rattle.std.specs.Prelude.{Bool, [], Option, if◌then◌else◌}
use Rattle.amqp_link_types.specs.Entries.{Entries}
use Rattle.amqp_link_types.specs.declared.types.attach.Attach.{Attach}
use Rattle.amqp_link_types.specs.declared.types.terminus.TargetArchetype.{TargetArchetype}
use Rattle.amqp_link_state.specs.declared.state.LinkState.{LinkState}
use Rattle.amqp_link_endpoint.specs.AttachFields.{remote_entries}
use Rattle.amqp_link_core.specs.declared.resumption.ResumingDelivery.{ResumingDelivery}
use Rattle.amqp_link_exchange.specs.Exchanges.{deliveries_to_resume, outcomes_returned}
use Rattle.amqp_link_sender.specs.declared.sender_link.incoming.SenderAttachExchange.{SenderAttachExchange}
use Rattle.amqp_link_sender.specs.declared.sender_link.incoming.SenderAttachExchange.TheVariants as exchange
use Rattle.amqp_link_endpoint.specs.Shown.{all_illegal}
use Rattle.amqp_link_sender.specs.SenderAttaches.{sender_attached, sender_taken}
use Rattle.amqp_link_ledger.specs.Fates.{HandsOut, Resolves, after}
use Rattle.amqp_link_ledger.specs.Ledgers.{Ledger}

-- the deliveries that an exchange returns to the user
abbrev pub deliveries_in : SenderAttachExchange → Entries ResumingDelivery
deliveries_in exchange.Complete = []
deliveries_in (exchange.IncompleteUnsettled list) = list
deliveries_in (exchange.Resume list) = list

module _ {T : Type 0} where
  -- The attach was sent. If the link is reattached, each pending registration is resolved.
  abbrev pub ledger_attached : Ledger T → Bool → LinkState → Ledger T
  ledger_attached l anew next = record {
    link = sender_attached l.link anew next;
    records = if anew then after (Resolves (all_illegal l.link.unsettled)) l.records else l.records;
  }

  -- The peer's attach was taken: the deliveries that have ended are resolved, and all others of the sender
  -- are handed out.
  abbrev pub ledger_taken : (TargetArchetype → Option T) → Ledger T → Attach → Ledger T
  ledger_taken admitted l attach =
      let own = l.link.unsettled in
      let remote = remote_entries attach in
      record {
        link = sender_taken admitted l.link attach;
        records = after (HandsOut (deliveries_to_resume own remote)) (after (Resolves (outcomes_returned own remote)) l.records);
      }
