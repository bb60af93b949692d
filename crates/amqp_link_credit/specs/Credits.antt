-- What two attached endpoints and the frames between them keep, so that credit is never passed (OASIS AMQP 1.0
-- core, 2.6.7).
use Rattle.std.specs.Prelude.{ℕ, ◌-◌, ◌≤◌, ◌<◌, ◌^◌, pos, ◌+ℤ◌, ◌≤ℤ◌, List}
use Rattle.std.specs.List.{AllByRecursion}
use Rattle.amqp_link_state.specs.Counts.{sdiff}
use Rattle.amqp_link_state.specs.declared.state.LinkFlowStateInner.{LinkFlowStateInner}
use Rattle.amqp_link_types.specs.declared.frame.LinkFrame.{LinkFrame}
use Rattle.amqp_link_types.specs.declared.types.performatives.LinkFlow.{LinkFlow}
use Rattle.amqp_link_credit.specs.CreditNumbers.{LeadsTo, Rises, IsStating}

-- The flow states of both endpoints, the frames under way to the receiver, the flows under way to the sender, and
-- the limit that the receiver stated last.
pub record IsCredit (sender receiver : LinkFlowStateInner) (forward : List LinkFrame) (back : List LinkFlow) (stated : ℕ) : Type 0 where
  -- the frames under way lead the receiver to the sender's delivery-count
  pub counted : LeadsTo receiver.delivery_count (pos 0) forward (sdiff sender.delivery_count receiver.delivery_count)
  -- the sender's limit, those of the flows under way in order, the last stated one and the receiver's do not fall
  pub rising : Rises receiver.delivery_count
      (sdiff sender.delivery_count receiver.delivery_count +ℤ pos sender.link_credit) back
      (sdiff stated receiver.delivery_count)
  pub within : sdiff stated receiver.delivery_count ≤ℤ pos receiver.link_credit
  pub stating : AllByRecursion (IsStating receiver.delivery_count (sdiff sender.delivery_count receiver.delivery_count)) back
  pub credited : receiver.link_credit ≤ 2 ^ 31 - 1
  pub sender_count : sender.delivery_count < 2 ^ 32
  pub receiver_count : receiver.delivery_count < 2 ^ 32
