-- How a receiver is attached by C (OASIS AMQP 1.0 core, 2.6.3 and 2.6.13).
use Rattle.std.specs.Prelude.{◌≡◌, ◌⊎◌, ℕ, Bool, false, List, [], Option, None, IsSomeAnd, if◌then◌else◌}
use Rattle.amqp_link_endpoint.specs.AttachFields.{remote_entries}
use Rattle.amqp_link_endpoint.specs.AttachSent.{IsTooLarge, SendsAttach}
use Rattle.amqp_link_endpoint.specs.LinkStates.{Call, next_state}
use Rattle.amqp_link_endpoint.specs.Targets.{plain_target}
use Rattle.amqp_link_flat.specs.Statuses.{receiver_attach_status}
use Rattle.amqp_link_inbox.specs.InboxAttaches.{attached_by, forgotten_by, kept_after, refused_by}
use Rattle.amqp_link_inbox.specs.Inboxes.{InboxState}
use Rattle.amqp_link_inbox.specs.declared.inbox.attach.Forgotten.{Forgotten}
use Rattle.amqp_link_receiver.specs.ReceiverAttaches.{has_entries, receiver_attached, receiver_exchange_in, receiver_left, receiver_refusal, receiver_shown}
use Rattle.amqp_link_receiver.specs.declared.receiver_link.attach.ReceiverAttachExchange.{ReceiverAttachExchange}
use Rattle.amqp_link_receiver.specs.declared.receiver_link.attach.ReceiverAttachExchange.TheVariants as exchange
use Rattle.amqp_link_state.specs.declared.state.LinkState.{LinkState}
use Rattle.amqp_link_types.specs.Entries.{Entries}
use Rattle.amqp_link_types.specs.declared.frame.LinkFrame.TheVariants as frame
use Rattle.amqp_link_types.specs.declared.types.attach.Attach.{Attach}
use Rattle.amqp_link_types.specs.declared.types.delivery_state.DeliveryState.{DeliveryState}
use Rattle.amqp_link_types.specs.declared.types.errors.ReceiverAttachError.{ReceiverAttachError}
use Rattle.amqp_link_types.specs.declared.types.terminus.Target.{Target}
use Rattle.amqp_link_types.specs.declared.types.terminus.TargetArchetype.TheVariants as archetype
use Rattle.amqp_link_verification.specs.Termini.{receiver_refuses_target}

-- the unsettled deliveries that a receiver's attach may state: none if it is reattached
abbrev pub stated_by : Bool → InboxState Target → Entries (Option DeliveryState)
stated_by anew s = if anew then [] else s.link.unsettled

-- A receiver makes its attach; if it is reattached it keeps nothing by a tag.
pub record SendsOwnAttach (anew : Bool) (attach : Option Attach) (before after : InboxState Target) : Type 0 where
  pub next : LinkState
  pub attach_is : IsSomeAnd attach (λ a.
      SendsAttach (receiver_shown archetype.Target before.link) (stated_by anew before) (frame.Attach a) next)
  pub after_is : after ≡ record before {
    link = receiver_attached before.link anew next;
    deliveries = kept_after anew before.deliveries;
  }

-- the status with which that is refused
abbrev pub RefusesToAttach : Bool → ℕ → InboxState Target → Type 0
RefusesToAttach anew status before = (status ≡ 3)
    ⊎ ((status ≡ 10) × ((before.link.output_handle ≡ None) ⊎ (next_state Call.SendAttach false before.link.local_state ≡ None)))
    ⊎ ((status ≡ 29) × IsTooLarge (receiver_shown archetype.Target before.link) (stated_by anew before))

-- the number of an exchange
abbrev pub exchange_number : ReceiverAttachExchange → ℕ
exchange_number exchange.Complete = 0
exchange_number exchange.IncompleteUnsettled = 1
exchange_number exchange.Resume = 2

-- A receiver takes its peer's attach: what follows, and which deliveries were forgotten.
pub record TakesAttach (theirs : Attach) (exchange : ℕ) (forgotten : List Forgotten) (before after : InboxState Target) : Type 0 where
  pub exchange_is : exchange ≡ exchange_number (receiver_exchange_in after.link.local_state (has_entries (remote_entries theirs)))
  pub forgotten_are : forgotten ≡ forgotten_by theirs before.deliveries
  pub after_is : after ≡ attached_by theirs before

-- why a receiver refuses its peer's attach
abbrev pub attach_refusal : InboxState Target → Attach → Option ReceiverAttachError
attach_refusal s theirs = receiver_refusal plain_target (λ own theirs. receiver_refuses_target theirs) s.link theirs

-- the receiver that a refusal leaves
abbrev pub left_by : ReceiverAttachError → InboxState Target → Attach → InboxState Target
left_by error s theirs = refused_by error
    (receiver_left plain_target (λ own theirs. receiver_refuses_target theirs) error s.link theirs) s

-- A receiver refuses its peer's attach: out of memory, with nothing changed, or by the first test that holds.
abbrev pub RefusesAttach : Attach → ℕ → InboxState Target → InboxState Target → Type 0
RefusesAttach theirs status before after = ((status ≡ 3) × (after ≡ before))
    ⊎ IsSomeAnd (attach_refusal before theirs) (λ error.
    (status ≡ receiver_attach_status error) × (after ≡ left_by error before theirs))
