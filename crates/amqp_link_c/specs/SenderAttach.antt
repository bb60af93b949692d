-- How a sender is attached by C (OASIS AMQP 1.0 core, 2.6.3 and 2.6.13).
use Rattle.std.specs.Prelude.{◌≡◌, ◌⊎◌, ℕ, Bool, true, false, List, [], Option, None, IsSomeAnd, if◌then◌else◌}
use Rattle.amqp_link_core.specs.declared.resumption.ResumingDelivery.{ResumingDelivery}
use Rattle.amqp_link_endpoint.specs.AttachFields.{remote_entries}
use Rattle.amqp_link_endpoint.specs.AttachSent.{IsTooLarge, SendsAttach}
use Rattle.amqp_link_endpoint.specs.LinkStates.{Call, next_state}
use Rattle.amqp_link_endpoint.specs.Shown.{Shown, all_illegal}
use Rattle.amqp_link_endpoint.specs.Targets.{plain_target}
use Rattle.amqp_link_exchange.specs.Exchanges.{outcomes_returned}
use Rattle.amqp_link_flat.specs.Statuses.{sender_attach_status}
use Rattle.amqp_link_ledger.specs.Exchanging.{deliveries_in, ledger_attached, ledger_taken}
use Rattle.amqp_link_ledger.specs.Ledgers.{Ledger}
use Rattle.amqp_link_sender.specs.SenderAttaches.{exchange_in, sender_left, sender_refusal, sender_shown}
use Rattle.amqp_link_sender.specs.declared.sender_link.incoming.SenderAttachExchange.{SenderAttachExchange}
use Rattle.amqp_link_sender.specs.declared.sender_link.incoming.SenderAttachExchange.TheVariants as exchange
use Rattle.amqp_link_state.specs.declared.state.LinkState.{LinkState}
use Rattle.amqp_link_types.specs.Deliveries.{Ended}
use Rattle.amqp_link_types.specs.Entries.{Entries}
use Rattle.amqp_link_types.specs.Unsettled.{states_of}
use Rattle.amqp_link_types.specs.declared.delivery.UnsettledMessage.{UnsettledMessage}
use Rattle.amqp_link_types.specs.declared.frame.LinkFrame.TheVariants as frame
use Rattle.amqp_link_types.specs.declared.types.attach.Attach.{Attach}
use Rattle.amqp_link_types.specs.declared.types.delivery_state.DeliveryState.{DeliveryState}
use Rattle.amqp_link_types.specs.declared.types.errors.SenderAttachError.{SenderAttachError}
use Rattle.amqp_link_types.specs.declared.types.terminus.Target.{Target}
use Rattle.amqp_link_types.specs.declared.types.terminus.TargetArchetype.TheVariants as archetype
use Rattle.amqp_link_verification.specs.Termini.{sender_refuses_target}

-- what the sender of a ledger shows
abbrev pub shown_by : Ledger Target → Shown (Entries UnsettledMessage)
shown_by l = sender_shown archetype.Target l.link

-- the unsettled deliveries that its attach may state: none if it is reattached
abbrev pub stated_by : Bool → Ledger Target → Entries (Option DeliveryState)
stated_by anew l = if anew then [] else states_of l.link.unsettled

-- A sender makes its attach; if it is reattached each pending delivery fails.
pub record SendsOwnAttach (anew : Bool) (attach : Option Attach) (outcomes : List Ended) (before after : Ledger Target) : Type 0 where
  pub next : LinkState
  pub attach_is : IsSomeAnd attach (λ a. SendsAttach (shown_by before) (stated_by anew before) (frame.Attach a) next)
  pub outcomes_are : outcomes ≡ (if anew then all_illegal before.link.unsettled else [])
  pub after_is : after ≡ ledger_attached before anew next

-- the status with which that is refused
abbrev pub RefusesToAttach : Bool → ℕ → Ledger Target → Type 0
RefusesToAttach anew status before = (status ≡ 3)
    ⊎ ((status ≡ 10) × ((before.link.output_handle ≡ None) ⊎ (next_state Call.SendAttach false before.link.local_state ≡ None)))
    ⊎ ((status ≡ 29) × IsTooLarge (shown_by before) (stated_by anew before))

-- whether an exchange did not have all deliveries
abbrev pub is_incomplete_after : SenderAttachExchange → Bool
is_incomplete_after (exchange.IncompleteUnsettled list) = true
is_incomplete_after _ = false

-- A sender takes its peer's attach: what is to be sent again, whether the exchange is incomplete, and what has ended.
pub record TakesAttach (theirs : Attach) (list : Entries ResumingDelivery) (is_incomplete : Bool) (outcomes : List Ended)
    (before after : Ledger Target) : Type 0 where
  pub exchange : SenderAttachExchange
  pub exchange_is : exchange ≡ exchange_in after.link.local_state before.link.unsettled (remote_entries theirs)
  pub list_is : list ≡ deliveries_in exchange
  pub incomplete_is : is_incomplete ≡ is_incomplete_after exchange
  pub outcomes_are : outcomes ≡ outcomes_returned before.link.unsettled (remote_entries theirs)
  pub after_is : after ≡ ledger_taken plain_target before theirs

-- why a sender refuses its peer's attach
abbrev pub attach_refusal : Ledger Target → Attach → Option SenderAttachError
attach_refusal l theirs = sender_refusal plain_target (λ own theirs. sender_refuses_target theirs) l.link theirs

-- the sender that a refusal leaves
abbrev pub left_by : SenderAttachError → Ledger Target → Attach → Ledger Target
left_by error l theirs =
    record l { link = sender_left plain_target (λ own theirs. sender_refuses_target theirs) error l.link theirs }

-- A sender refuses its peer's attach: out of memory, with nothing changed, or by the first test that holds.
abbrev pub RefusesAttach : Attach → ℕ → Ledger Target → Ledger Target → Type 0
RefusesAttach theirs status before after = ((status ≡ 3) × (after ≡ before))
    ⊎ IsSomeAnd (attach_refusal before theirs) (λ error.
    (status ≡ sender_attach_status error) × (after ≡ left_by error before theirs))
