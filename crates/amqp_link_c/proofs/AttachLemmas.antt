-- What a sender sends and takes as it is attached, as an object has it.
use Rattle.std.proofs.Common.{◌≡◌, subst, sym, Bool, List, []}
use Rattle.std.specs.Prelude.{IsSomeAnd, if◌then◌else◌}
use Rattle.amqp_link_c.specs.Calls.{attach_state}
use Rattle.amqp_link_c.specs.SenderAttach.{SendsOwnAttach, TakesAttach, is_incomplete_after, shown_by, stated_by}
use Rattle.amqp_link_core.specs.declared.resumption.ResumingDelivery.{ResumingDelivery}
use Rattle.amqp_link_endpoint.specs.AttachFields.{remote_entries}
use Rattle.amqp_link_endpoint.specs.AttachSent.{SendsAttach}
use Rattle.amqp_link_endpoint.specs.Shown.{all_illegal}
use Rattle.amqp_link_endpoint.specs.Targets.{plain_target}
use Rattle.amqp_link_exchange.specs.Exchanges.{outcomes_returned}
use Rattle.amqp_link_ledger.specs.Exchanging.{deliveries_in, ledger_attached, ledger_taken}
use Rattle.amqp_link_ledger.specs.Ledgers.{Ledger}
use Rattle.amqp_link_object.specs.States.{attach_of}
use Rattle.amqp_link_sender.specs.SenderAttaches.{exchange_in}
use Rattle.amqp_link_sender.specs.declared.sender_link.incoming.SenderAttachExchange.{SenderAttachExchange}
use Rattle.amqp_link_types.specs.Deliveries.{Ended}
use Rattle.amqp_link_types.specs.Entries.{Entries}
use Rattle.amqp_link_types.specs.declared.frame.LinkFrame.{LinkFrame}
use Rattle.amqp_link_types.specs.declared.frame.LinkFrame.TheVariants as frame
use Rattle.amqp_link_types.specs.declared.types.attach.Attach.{Attach}
use Rattle.amqp_link_types.specs.declared.types.terminus.Target.{Target}

-- the attach in the frame that is sent
pub own_attach : (anew : Bool) (sent : LinkFrame) (ended : List Ended) (before after : Ledger Target)
    → SendsAttach (shown_by before) (stated_by anew before) sent after.link.local_state
    → ended ≡ (if anew then all_illegal before.link.unsettled else [])
    → after ≡ ledger_attached before anew after.link.local_state
    → SendsOwnAttach anew (attach_of (attach_state sent)) ended before after
own_attach anew sent ended before after s e a = record {
  next = after.link.local_state;
  attach_is = attach_is;
  outcomes_are = e;
  after_is = a;
}
  where
    attach_is : IsSomeAnd (attach_of (attach_state sent)) (λ x.
        SendsAttach (shown_by before) (stated_by anew before) (frame.Attach x) after.link.local_state)
    attach_is = subst (λ f. IsSomeAnd (attach_of (attach_state f)) (λ x.
        SendsAttach (shown_by before) (stated_by anew before) (frame.Attach x) after.link.local_state)) (sym s.sent_is)
        (subst (λ f. SendsAttach (shown_by before) (stated_by anew before) f after.link.local_state) s.sent_is s)

-- the peer's attach, of which a copy is taken
pub peer_attach : (theirs copy : Attach) (exchange : SenderAttachExchange) (list : Entries ResumingDelivery) (incomplete : Bool)
    (ended : List Ended) (before after : Ledger Target) → copy ≡ theirs
    → list ≡ deliveries_in exchange → incomplete ≡ is_incomplete_after exchange
    → after ≡ ledger_taken plain_target before copy
    → exchange ≡ exchange_in after.link.local_state before.link.unsettled (remote_entries copy)
    → ended ≡ outcomes_returned before.link.unsettled (remote_entries copy)
    → TakesAttach theirs list incomplete ended before after
peer_attach theirs copy exchange list incomplete ended before after same l i a x e = record {
  exchange = exchange;
  exchange_is = subst (λ t. exchange ≡ exchange_in after.link.local_state before.link.unsettled (remote_entries t)) same x;
  list_is = l;
  incomplete_is = i;
  outcomes_are = subst (λ t. ended ≡ outcomes_returned before.link.unsettled (remote_entries t)) same e;
  after_is = subst (λ t. after ≡ ledger_taken plain_target before t) same a;
}
