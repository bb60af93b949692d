-- The four steps of an attach of a pair, each at the endpoint that takes it (OASIS AMQP 1.0 core, 2.6.3): the
-- sender sends its attach, the receiver takes it, the receiver sends its own, the sender takes it.
use Rattle.std.specs.Prelude.{◌≡◌, ℕ, [], Some, None, false}
use Rattle.amqp_link_types.specs.Entries.{Entries}
use Rattle.amqp_link_types.specs.Unsettled.{states_of}
use Rattle.amqp_link_types.specs.declared.types.attach.Attach.{Attach}
use Rattle.amqp_link_types.specs.declared.types.definitions.OutputHandle.{OutputHandle}
use Rattle.amqp_link_types.specs.declared.types.terminus.Target.{Target}
use Rattle.amqp_link_types.specs.declared.types.terminus.TargetArchetype.TheVariants as archetype
use Rattle.amqp_link_state.specs.declared.state.LinkState.{LinkState}
use Rattle.amqp_link_state.specs.declared.state.LinkState.TheVariants.{AttachSent, Attached}
use Rattle.amqp_link_endpoint.specs.AttachFields.{remote_entries}
use Rattle.amqp_link_endpoint.specs.Attaching.{FitsFrame, with_entries}
use Rattle.amqp_link_endpoint.specs.LinkStates.{Call, next_state}
use Rattle.amqp_link_endpoint.specs.Shown.{Shown, attach_stated, counted_attach}
use Rattle.amqp_link_endpoint.specs.Targets.{plain_target}
use Rattle.amqp_link_core.specs.declared.resumption.ResumingDelivery.{ResumingDelivery}
use Rattle.amqp_link_exchange.specs.Exchanges.{deliveries_to_resume}
use Rattle.amqp_link_verification.specs.Termini.{sender_refuses_target, receiver_refuses_target}
use Rattle.amqp_link_sender.specs.SenderAttaches.{sender_shown, sender_attached, sender_refusal, sender_taken, exchange_in}
use Rattle.amqp_link_sender.specs.declared.sender_link.incoming.SenderAttachExchange.{SenderAttachExchange}
use Rattle.amqp_link_sender.specs.declared.sender_link.incoming.SenderAttachExchange.TheVariants as exchange
use Rattle.amqp_link_sender.specs.Senders.{Sender}
use Rattle.amqp_link_receiver.specs.ReceiverAttaches.{receiver_shown, receiver_refusal, receiver_taken}
use Rattle.amqp_link_receiver.specs.Receivers.{Receiver}
use Rattle.amqp_link_worlds.specs.Steps.{zero_output, sender_asking, sender_together, receiver_at_limit, receiver_half_attached, receiver_together}

-- an endpoint has a handle and a transition for an attach, and the attach with all its deliveries fits
pub record CanAttach {D : Type 0} (s : Shown D) : Type 0 where
  pub number : OutputHandle
  pub handle_is : s.output_handle ≡ Some number
  pub next : LinkState
  pub step : next_state Call.SendAttach false s.local_state ≡ Some next
  pub fits : FitsFrame (with_entries (attach_stated s number) s.entries 0) s.max_frame_size

-- the sender at handle 0, with this frame limit
abbrev pub sender_at_limit : ℕ → Sender Target → Sender Target
sender_at_limit limit s = record s { output_handle = Some (record { 0 = 0 }); max_frame_size = limit }

-- the sender's attach: all its deliveries, and its present delivery-count
abbrev pub attach_asked : Sender Target → Attach
attach_asked s = with_entries (counted_attach (sender_shown archetype.Target s) s.flow_state.delivery_count zero_output) (states_of s.unsettled) 0

-- the receiver's: all its deliveries, and the delivery-count that the sender's attach has stated
abbrev pub attach_answered : Receiver Target → ℕ → Attach
attach_answered r count = with_entries (counted_attach (receiver_shown archetype.Target r) count zero_output) r.unsettled 0

-- the sender can send its attach, which is then this one; afterwards it is as `sender_asking`
pub record CanAsk (limit : ℕ) (s : Sender Target) : Type 0 where
  pub can : CanAttach (sender_shown archetype.Target (sender_at_limit limit s))
  pub stated : with_entries (attach_stated (sender_shown archetype.Target (sender_at_limit limit s)) zero_output) (states_of s.unsettled) 0 ≡ attach_asked s
  pub step : next_state Call.SendAttach false s.local_state ≡ Some AttachSent
  pub after : sender_attached (sender_at_limit limit s) false AttachSent ≡ sender_asking limit s

-- the receiver takes the sender's attach; afterwards it is as `receiver_half_attached`
pub record CanTakeAsked (limit : ℕ) (s : Sender Target) (r : Receiver Target) : Type 0 where
  pub allowed : receiver_refusal plain_target (λ own theirs. receiver_refuses_target theirs) (receiver_at_limit limit r) (attach_asked s) ≡ None
  pub after : receiver_taken (receiver_at_limit limit r) (attach_asked s) ≡ receiver_half_attached limit s.flow_state.delivery_count r

-- the receiver can then send its attach, which is this one; afterwards it is attached
pub record CanAnswer (limit count : ℕ) (r : Receiver Target) : Type 0 where
  pub can : CanAttach (receiver_shown archetype.Target (receiver_half_attached limit count r))
  pub stated : with_entries (attach_stated (receiver_shown archetype.Target (receiver_half_attached limit count r)) zero_output) r.unsettled 0 ≡ attach_answered r count
  pub after : record (receiver_half_attached limit count r) { local_state = Attached } ≡ receiver_together limit count r

-- the deliveries to resume in the result of an exchange
abbrev pub list_in : SenderAttachExchange → Entries ResumingDelivery
list_in exchange.Complete = []
list_in (exchange.IncompleteUnsettled list) = list
list_in (exchange.Resume list) = list

-- the sender, which has sent its attach, takes the receiver's, with the receiver's map, and is attached then
pub record CanTakeAnswered (limit count : ℕ) (s : Sender Target) (r : Receiver Target) : Type 0 where
  pub allowed : sender_refusal plain_target (λ own theirs. sender_refuses_target theirs) (sender_asking limit s) (attach_answered r count) ≡ None
  pub after : sender_taken plain_target (sender_asking limit s) (attach_answered r count) ≡ sender_together limit s
  pub remote : remote_entries (attach_answered r count) ≡ r.unsettled
  pub list : list_in (exchange_in Attached s.unsettled r.unsettled) ≡ deliveries_to_resume s.unsettled r.unsettled
