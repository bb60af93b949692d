-- The attach that a receiver sends, and the one that it takes (OASIS AMQP 1.0 core, 2.6.3 and 2.7.3).
use Rattle.std.specs.Prelude.{ℕ, ◌||◌, Bool, true, false, [], ◌∷◌, Option, Some, None, is_some, is_none, unwrap_or, if◌then◌else◌}
use Rattle.amqp_link_state.specs.declared.state.LinkState.{LinkState}
use Rattle.amqp_link_state.specs.declared.state.LinkState.TheVariants.{IncompleteAttachSent, IncompleteAttachReceived, IncompleteAttachExchanged}
use Rattle.amqp_link_types.specs.declared.types.attach.Attach.{Attach}
use Rattle.amqp_link_types.specs.declared.types.definitions.Role.TheVariants as role
use Rattle.amqp_link_types.specs.declared.types.delivery_state.DeliveryState.{DeliveryState}
use Rattle.amqp_link_types.specs.declared.types.errors.ReceiverAttachError.{ReceiverAttachError}
use Rattle.amqp_link_types.specs.declared.types.errors.ReceiverAttachError.TheVariants as error
use Rattle.amqp_link_types.specs.declared.types.terminus.TargetArchetype.{TargetArchetype}
use Rattle.amqp_link_types.specs.Entries.{Entries}
use Rattle.amqp_link_types.specs.declared.types.terminus.Source.{Source}
use Rattle.amqp_link_endpoint.specs.AttachFields.{smaller_limit, merged_properties, merging_allocates, is_foreign, next_of}
use Rattle.amqp_link_endpoint.specs.Attaching.{States}
use Rattle.amqp_link_endpoint.specs.AttachTests.{Tests, refused_if, verified, first_of, first_refusal, left_after}
use Rattle.amqp_link_endpoint.specs.Failing.{is_listing}
use Rattle.amqp_link_endpoint.specs.Links.{inner_of, with_inner, without_session}
use Rattle.amqp_link_state.specs.declared.role.ReceiverMarker.{ReceiverMarker}
use Rattle.amqp_link_endpoint.specs.Targets.{target_of}
use Rattle.amqp_link_endpoint.specs.Shown.{Shown, shown_of}
use Rattle.amqp_link_receiver.specs.declared.receiver_link.attach.ReceiverAttachExchange.{ReceiverAttachExchange}
use Rattle.amqp_link_receiver.specs.declared.receiver_link.attach.ReceiverAttachExchange.TheVariants as exchange
use Rattle.amqp_link_receiver.specs.Receivers.{Receiver}
use Rattle.amqp_link_verification.specs.Termini.{receiver_refuses_source}

-- whether an attach states an unsettled delivery
abbrev pub has_entries : States → Bool
has_entries [] = false
has_entries (entry ∷ entries) = true

-- what follows in this state, by whether the sender's attach states an unsettled delivery
abbrev pub receiver_exchange_in : LinkState → Bool → ReceiverAttachExchange
receiver_exchange_in state false = exchange.Complete
receiver_exchange_in IncompleteAttachSent true = exchange.IncompleteUnsettled
receiver_exchange_in IncompleteAttachReceived true = exchange.IncompleteUnsettled
receiver_exchange_in IncompleteAttachExchanged true = exchange.IncompleteUnsettled
receiver_exchange_in _ true = exchange.Resume

-- whether an error is that of a call that is out of memory
abbrev pub is_receiver_out_of_memory : ReceiverAttachError → Bool
is_receiver_out_of_memory error.OutOfMemory = true
is_receiver_out_of_memory _ = false

abbrev pub is_refused_by_list : Option ReceiverAttachError → Bool
is_refused_by_list None = false
is_refused_by_list (Some error) = is_listing error

module _ {T : Type 0} where
  -- what a receiver shows; the first parameter is how its target is sent
  abbrev pub receiver_shown : (T → TargetArchetype) → Receiver T → Shown (Entries (Option DeliveryState))
  receiver_shown sent_as r = shown_of role.Receiver sent_as (inner_of {R = ReceiverMarker} r) r.unsettled r.unsettled []

  -- the receiver after its session is lost: without handles, and no delivery under way
  abbrev pub receiver_lost : Receiver T → Receiver T
  receiver_lost r = record (with_inner r (without_session (inner_of {R = ReceiverMarker} r))) { more = false }

  -- the receiver after its attach was sent, by whether it is reattached
  abbrev pub receiver_attached : Receiver T → Bool → LinkState → Receiver T
  receiver_attached r anew next = record r { local_state = next; unsettled = if anew then [] else r.unsettled }

  -- ---- the attach that arrives

  -- the receiver with the state moved, the input handle set and no delivery under way, if there is a
  -- transition
  abbrev pub receiver_came : Receiver T → Attach → Receiver T
  receiver_came r attach = record r {
    local_state = unwrap_or (next_of r.local_state attach) r.local_state;
    input_handle = if is_some (next_of r.local_state attach) then Some (record { 0 = attach.handle.0 }) else r.input_handle;
    more = if is_some (next_of r.local_state attach) then false else r.more;
  }

  -- and with the source and the sender's settle mode taken
  abbrev pub receiver_sourced : Receiver T → Attach → Receiver T
  receiver_sourced r attach =
      record (receiver_came r attach) { source = attach.source; snd_settle_mode = attach.snd_settle_mode }

  -- and with all the rest taken: both delivery-counts are the sender's initial one
  abbrev pub receiver_taken : Receiver T → Attach → Receiver T
  receiver_taken r attach = record (receiver_sourced r attach) {
    max_message_size = smaller_limit r.max_message_size attach.max_message_size;
    flow_state = record r.flow_state {
      initial_delivery_count = unwrap_or attach.initial_delivery_count 0;
      delivery_count = unwrap_or attach.initial_delivery_count 0;
      properties = merged_properties r.flow_state.properties attach.properties;
    };
  }

  -- why the verification of the peer's source refuses it
  abbrev pub receiver_source_verdict : Receiver T → Source → Option ReceiverAttachError
  receiver_source_verdict r theirs = verified r.verify_incoming_source receiver_refuses_source r.source (Some theirs)

  -- the tests of the attach's source, in order
  abbrev pub receiver_source_refusal : Receiver T → Option Source → Option ReceiverAttachError
  receiver_source_refusal r source = first_of (
      refused_if (is_none source) error.IncomingSourceIsNone
      ∷ verified r.verify_incoming_source receiver_refuses_source r.source source
      ∷ [])

  -- The tests of the attach's count and target, in order. The first two parameters are how a target is taken,
  -- and why the peer's target is refused beside the own one.
  abbrev pub receiver_target_refusal : (TargetArchetype → Option T) → (T → T → Option ReceiverAttachError) → Receiver T → Option ℕ → Option TargetArchetype → Option ReceiverAttachError
  receiver_target_refusal admitted refused r count target = first_of (
      refused_if (is_none count) error.InitialDeliveryCountIsNone
      ∷ refused_if (is_foreign admitted target) error.CoordinatorIsNotImplemented
      ∷ verified r.verify_incoming_target refused r.target (target_of admitted target)
      ∷ [])

  -- all tests of the attach, in order, each with the receiver that its refusal leaves
  abbrev pub receiver_tests : (TargetArchetype → Option T) → (T → T → Option ReceiverAttachError) → Receiver T → Attach → Tests ReceiverAttachError (Receiver T)
  receiver_tests admitted refused r attach =
      (refused_if (is_none (next_of r.local_state attach)) error.IllegalState, r)
      ∷ (receiver_source_refusal r attach.source, receiver_came r attach)
      ∷ (receiver_target_refusal admitted refused r attach.initial_delivery_count attach.target, receiver_sourced r attach)
      ∷ []

  -- why the attach is refused, and the receiver that the refusal leaves
  abbrev pub receiver_refusal : (TargetArchetype → Option T) → (T → T → Option ReceiverAttachError) → Receiver T → Attach → Option ReceiverAttachError
  receiver_refusal admitted refused r attach = first_refusal (receiver_tests admitted refused r attach)

  abbrev pub receiver_left : (TargetArchetype → Option T) → (T → T → Option ReceiverAttachError) → ReceiverAttachError → Receiver T → Attach → Receiver T
  receiver_left admitted refused error r attach = left_after (is_receiver_out_of_memory error) r (receiver_tests admitted refused r attach)

  -- Whether taking the attach allocates: there are missing filters to list, or both endpoints have properties,
  -- which are merged.
  abbrev pub receiver_taking_allocates : (TargetArchetype → Option T) → (T → T → Option ReceiverAttachError) → Receiver T → Attach → Bool
  receiver_taking_allocates admitted refused r attach =
      is_refused_by_list (receiver_refusal admitted refused r attach) || merging_allocates r.flow_state.properties attach.properties
