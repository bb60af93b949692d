-- Complete deliveries as contracts see them, and outcomes (OASIS AMQP 1.0 core, 2.6.12).
use Rattle.std.specs.Prelude.{ℕ, List, Option, Result}
use Rattle.amqp_link_types.specs.declared.types.delivery_state.DeliveryState.{DeliveryState}
use Rattle.amqp_link_types.specs.declared.types.errors.LinkStateError.{LinkStateError}
use Rattle.amqp_link_types.specs.Entries.{Tag}
use Rattle.amqp_link_types.specs.declared.types.definitions.OutputHandle.{OutputHandle}
use Rattle.amqp_link_types.specs.declared.types.definitions.ReceiverSettleMode.{ReceiverSettleMode}
use Rattle.amqp_link_payloads.specs.declared.message.Message.{Message}

-- which delivery it is, and how it is to be settled
pub record Info : Type 0 where
  pub delivery_id : ℕ
  pub delivery_tag : List ℕ
  pub rcv_settle_mode : Option ReceiverSettleMode

-- a complete delivery on the link with this handle; its body is of type T
pub record Delivered (T : Type 0) : Type 0 where
  pub handle : OutputHandle
  pub info : Info
  pub message_format : Option ℕ
  pub message : Message T

-- the tag of a delivery that a call has resolved, and its outcome
abbrev pub Ended : Type 0
Ended = Tag × Result (Option DeliveryState) LinkStateError
