-- The attach that a sender sends, and the one that it takes (OASIS AMQP 1.0 core, 2.6.3 and 2.7.3).
use Rattle.std.specs.Prelude.{◌≡◌, Bool, true, false, [], ◌∷◌, ◌==◌, ◌&&◌, ◌||◌, not, length, Option, Some, is_some, is_none, unwrap_or, if◌then◌else◌}
use Rattle.std.specs.Option.{option_or}
use Rattle.amqp_link_types.specs.declared.delivery.UnsettledMessage.{UnsettledMessage}
use Rattle.amqp_link_state.specs.declared.state.LinkState.{LinkState}
use Rattle.amqp_link_state.specs.declared.state.LinkState.TheVariants.{IncompleteAttachSent, IncompleteAttachReceived, IncompleteAttachExchanged}
use Rattle.amqp_link_types.specs.declared.types.attach.Attach.{Attach}
use Rattle.amqp_link_types.specs.declared.types.definitions.Role.TheVariants as role
use Rattle.amqp_link_types.specs.declared.types.definitions.SenderSettleMode.{SenderSettleMode}
use Rattle.amqp_link_types.specs.declared.types.definitions.SenderSettleMode.TheVariants as mode
use Rattle.amqp_link_types.specs.declared.types.errors.SenderAttachError.{SenderAttachError}
use Rattle.amqp_link_types.specs.declared.types.errors.SenderAttachError.TheVariants as error
use Rattle.amqp_link_types.specs.declared.types.terminus.TargetArchetype.{TargetArchetype}
use Rattle.amqp_link_types.specs.Entries.{Entries}
use Rattle.amqp_link_types.specs.declared.types.terminus.Source.{Source}
use Rattle.amqp_link_types.specs.Unsettled.{states_of}
use Rattle.amqp_link_endpoint.specs.AttachFields.{smaller_limit, merged_properties, merging_allocates, is_foreign, next_of, remote_entries}
use Rattle.amqp_link_endpoint.specs.Attaching.{States}
use Rattle.amqp_link_endpoint.specs.AttachTests.{Tests, refused_if, verified, first_of, first_refusal, left_after}
use Rattle.amqp_link_core.specs.declared.resumption.ResumingDelivery.{ResumingDelivery}
use Rattle.amqp_link_exchange.specs.Exchanges.{deliveries_to_resume}
use Rattle.amqp_link_exchange.specs.Plans.{IsPlanOf}
use Rattle.amqp_link_endpoint.specs.Shown.{Shown, all_illegal, shown_of, stated_count}
use Rattle.amqp_link_endpoint.specs.Links.{inner_of, with_inner, without_session}
use Rattle.amqp_link_state.specs.declared.role.SenderMarker.{SenderMarker}
use Rattle.amqp_link_endpoint.specs.Targets.{target_of}
use Rattle.amqp_link_sender.specs.declared.sender_link.incoming.AttachPlan.{AttachPlan}
use Rattle.amqp_link_sender.specs.declared.sender_link.incoming.SenderAttachExchange.{SenderAttachExchange}
use Rattle.amqp_link_sender.specs.declared.sender_link.incoming.SenderAttachExchange.TheVariants as exchange
use Rattle.amqp_link_sender.specs.Senders.{Sender}
use Rattle.amqp_link_verification.specs.Termini.{sender_refuses_source}

-- whether neither endpoint has an unsettled delivery
abbrev pub is_nothing : Entries UnsettledMessage → States → Bool
is_nothing own remote = length own == 0 && length remote == 0

-- the deliveries to resume in this state: not all of them if an attach was incomplete
abbrev pub resumption_in : LinkState → Entries ResumingDelivery → SenderAttachExchange
resumption_in IncompleteAttachSent list = exchange.IncompleteUnsettled list
resumption_in IncompleteAttachReceived list = exchange.IncompleteUnsettled list
resumption_in IncompleteAttachExchanged list = exchange.IncompleteUnsettled list
resumption_in _ list = exchange.Resume list

-- what follows in this state from the sender's unsettled deliveries and the receiver's
abbrev pub exchange_in : LinkState → Entries UnsettledMessage → States → SenderAttachExchange
exchange_in state own remote =
    if is_nothing own remote then exchange.Complete else resumption_in state (deliveries_to_resume own remote)

-- whether an error is that of a call that is out of memory
abbrev pub is_sender_out_of_memory : SenderAttachError → Bool
is_sender_out_of_memory error.OutOfMemory = true
is_sender_out_of_memory _ = false

-- whether one endpoint settles what the other leaves unsettled
abbrev pub disagree : SenderSettleMode → SenderSettleMode → Bool
disagree mode.Settled mode.Unsettled = true
disagree mode.Unsettled mode.Settled = true
disagree _ _ = false

module _ {T : Type 0} where
  -- what a sender shows; the first parameter is how its target is sent
  abbrev pub sender_shown : (T → TargetArchetype) → Sender T → Shown (Entries UnsettledMessage)
  sender_shown sent_as s =
      shown_of role.Sender sent_as (inner_of {R = SenderMarker} s) s.unsettled (states_of s.unsettled) (all_illegal s.unsettled)

  -- the sender after its session is lost: without handles
  abbrev pub sender_lost : Sender T → Sender T
  sender_lost s = with_inner s (without_session (inner_of {R = SenderMarker} s))

  -- the sender after its attach was sent, by whether it is reattached: it keeps the count that it has stated
  abbrev pub sender_attached : Sender T → Bool → LinkState → Sender T
  sender_attached s anew next = record s {
    local_state = next;
    flow_state = record s.flow_state { initial_delivery_count = stated_count role.Sender s.local_state s.flow_state };
    unsettled = if anew then [] else s.unsettled;
  }

  -- ---- the attach that arrives

  -- the sender with the state moved and the input handle set, if there is a transition
  abbrev pub sender_came : Sender T → Attach → Sender T
  sender_came s attach = record s {
    local_state = unwrap_or (next_of s.local_state attach) s.local_state;
    input_handle = if is_some (next_of s.local_state attach) then Some (record { 0 = attach.handle.0 }) else s.input_handle;
  }

  -- and with the target and the receiver's settle mode taken
  abbrev pub sender_targeted : (TargetArchetype → Option T) → Sender T → Attach → Sender T
  sender_targeted admitted s attach = record (sender_came s attach) {
    target = target_of admitted attach.target;
    rcv_settle_mode = attach.rcv_settle_mode;
  }

  -- and with all the rest taken; the exchange leaves no unsettled delivery
  abbrev pub sender_taken : (TargetArchetype → Option T) → Sender T → Attach → Sender T
  sender_taken admitted s attach = record (sender_targeted admitted s attach) {
    max_message_size = smaller_limit s.max_message_size attach.max_message_size;
    flow_state = record s.flow_state { properties = merged_properties s.flow_state.properties attach.properties };
    unsettled = [];
  }

  -- A plan to take an attach that no test refuses: what is made of it, and of the unsettled deliveries.
  pub record IsAttachPlan (admitted : TargetArchetype → Option T) (s : Sender T) (attach : Attach) (plan : AttachPlan T) : Type 0 where
    pub next : next_of s.local_state attach ≡ Some plan.next
    pub handle : plan.handle ≡ attach.handle
    pub target : target_of admitted attach.target ≡ Some plan.target
    pub mode : plan.rcv_settle_mode ≡ attach.rcv_settle_mode
    pub limit : plan.max_message_size ≡ smaller_limit s.max_message_size attach.max_message_size
    pub properties : option_or plan.properties s.flow_state.properties ≡ merged_properties s.flow_state.properties attach.properties
    pub nothing : plan.is_nothing ≡ is_nothing s.unsettled (remote_entries attach)
    pub exchange : IsPlanOf plan.exchange s.unsettled (remote_entries attach)

  -- why the verification of the peer's source refuses it
  abbrev pub sender_source_verdict : Sender T → Option Source → Option SenderAttachError
  sender_source_verdict s theirs = verified s.verify_incoming_source (λ own theirs. sender_refuses_source theirs) s.source theirs

  -- The tests of the attach's termini, in order. The first two parameters are how a target is taken, and why
  -- the peer's target is refused beside the own one.
  abbrev pub sender_termini_refusal : (TargetArchetype → Option T) → (T → T → Option SenderAttachError) → Sender T → Option Source → Option TargetArchetype → Option SenderAttachError
  sender_termini_refusal admitted refused s source target = first_of (
      sender_source_verdict s source
      ∷ refused_if (is_foreign admitted target) error.CoordinatorIsNotImplemented
      ∷ refused_if (is_none target) error.IncomingTargetIsNone
      ∷ verified s.verify_incoming_target refused s.target (target_of admitted target)
      ∷ [])

  -- all tests of the attach, in order, each with the sender that its refusal leaves
  abbrev pub sender_tests : (TargetArchetype → Option T) → (T → T → Option SenderAttachError) → Sender T → Attach → Tests SenderAttachError (Sender T)
  sender_tests admitted refused s attach =
      (refused_if (is_none (next_of s.local_state attach)) error.IllegalState, s)
      ∷ (sender_termini_refusal admitted refused s attach.source attach.target, sender_came s attach)
      ∷ (refused_if (disagree s.snd_settle_mode attach.snd_settle_mode) error.SndSettleModeNotSupported, sender_targeted admitted s attach)
      ∷ []

  -- why the attach is refused, and the sender that the refusal leaves
  abbrev pub sender_refusal : (TargetArchetype → Option T) → (T → T → Option SenderAttachError) → Sender T → Attach → Option SenderAttachError
  sender_refusal admitted refused s attach = first_refusal (sender_tests admitted refused s attach)

  abbrev pub sender_left : (TargetArchetype → Option T) → (T → T → Option SenderAttachError) → SenderAttachError → Sender T → Attach → Sender T
  sender_left admitted refused error s attach = left_after (is_sender_out_of_memory error) s (sender_tests admitted refused s attach)

  -- Whether taking the attach allocates: there are unsettled deliveries to exchange, or both endpoints have
  -- properties, which are merged.
  abbrev pub sender_taking_allocates : Sender T → Attach → Bool
  sender_taking_allocates s attach =
      not (is_nothing s.unsettled (remote_entries attach)) || merging_allocates s.flow_state.properties attach.properties
