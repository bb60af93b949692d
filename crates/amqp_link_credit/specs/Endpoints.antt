-- What the endpoints of a credit run are passed and return (OASIS AMQP 1.0 core, 2.6.7).
use Rattle.std.specs.Prelude.{◌≡◌, ◌⊎◌, ◌≤◌, Bool, false, List, Some, None}
use Rattle.amqp_link_types.specs.Entries.{Tag}
use Rattle.amqp_link_types.specs.Refusals.{refusal}
use Rattle.amqp_link_types.specs.declared.delivery.Settlement.{Settlement}
use Rattle.amqp_link_types.specs.declared.delivery.Settlement.TheVariants as settlement
use Rattle.amqp_link_types.specs.declared.frame.LinkFrame.{LinkFrame}
use Rattle.amqp_link_types.specs.declared.frame.LinkFrame.TheVariants.{Flow}
use Rattle.amqp_link_types.specs.declared.types.definitions.SenderSettleMode.TheVariants.{Mixed}
use Rattle.amqp_link_types.specs.declared.types.errors.LinkStateError.{LinkStateError}
use Rattle.amqp_link_types.specs.declared.types.errors.LinkStateError.TheVariants as link
use Rattle.amqp_link_types.specs.declared.types.terminus.Target.{Target}
use Rattle.amqp_link_state.specs.Counts.{receiver_after}
use Rattle.amqp_link_state.specs.declared.state.LinkFlowStateInner.{LinkFlowStateInner}
use Rattle.amqp_link_sender.specs.Senders.{Sender}
use Rattle.amqp_link_worlds.specs.declared.error.PairError.{PairError}
use Rattle.amqp_link_worlds.specs.declared.error.PairError.TheVariants as pair
use Rattle.amqp_link_credit.specs.declared.error.CreditRunError.{CreditRunError}
use Rattle.amqp_link_credit.specs.declared.error.CreditRunError.TheVariants as error

-- the tag of a delivery that was sent
abbrev pub tag_in : Settlement → Tag
tag_in (settlement.Unsettled tag) = tag
tag_in (settlement.Settled tag) = tag

-- a sender that refuses a payload only for want of credit, for a pending tag, or if it is out of memory
pub record IsReadyToSend (s : Sender Target) : Type 0 where
  pub output : s.output_handle ≡ Some (record { 0 = 0 })
  pub input : s.input_handle ≡ Some (record { 0 = 0 })
  pub mode : s.snd_settle_mode ≡ Mixed
  pub room : 29 ≤ s.max_frame_size

-- its error, as a run returns it
abbrev pub send_refusal_by : LinkStateError → CreditRunError
send_refusal_by link.TagPending = error.TagPending
send_refusal_by _ = error.OutOfMemory

-- the first test that holds, or out of memory if none does
abbrev pub IsRefusal : CreditRunError → List (Bool × CreditRunError) → Type 0
IsRefusal e tests = ((e ≡ error.OutOfMemory) × (refusal tests ≡ None)) ⊎ (refusal tests ≡ Some e)

-- why a new pair is not attached
abbrev pub attach_refusal_by : PairError → CreditRunError
attach_refusal_by pair.LimitTooSmall = error.LimitTooSmall
attach_refusal_by _ = error.OutOfMemory

-- a flow that does not ask for a reply
abbrev pub IsFlowWithoutEcho : LinkFrame → Type 0
IsFlowWithoutEcho (Flow flow) = flow.echo ≡ false
IsFlowWithoutEcho _ = ⊥

-- the receiver's flow state after a flow of the sender
abbrev pub after_flow : LinkFrame → LinkFlowStateInner → LinkFlowStateInner
after_flow (Flow flow) own = receiver_after flow own
after_flow _ own = own
