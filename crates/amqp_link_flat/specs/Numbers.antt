-- The numbers that stand for modes, roles and states.
use Rattle.std.specs.Prelude.{◌==◌, ℕ, Bool, true, false, Option, Some, None, option_map, if◌then◌else◌}
use Rattle.amqp_link_state.specs.declared.state.LinkState.{LinkState}
use Rattle.amqp_link_state.specs.declared.state.LinkState.TheVariants as link
use Rattle.amqp_link_types.specs.declared.types.definitions.Role.{Role}
use Rattle.amqp_link_types.specs.declared.types.definitions.Role.TheVariants.{Sender, Receiver}
use Rattle.amqp_link_types.specs.declared.types.definitions.SenderSettleMode.{SenderSettleMode}
use Rattle.amqp_link_types.specs.declared.types.definitions.SenderSettleMode.TheVariants.{Unsettled, Settled, Mixed}
use Rattle.amqp_link_types.specs.declared.types.definitions.ReceiverSettleMode.{ReceiverSettleMode}
use Rattle.amqp_link_types.specs.declared.types.definitions.ReceiverSettleMode.TheVariants.{First, Second}
use Rattle.amqp_link_types.specs.declared.types.terminus.TerminusDurability.{TerminusDurability}
use Rattle.amqp_link_types.specs.declared.types.terminus.TerminusDurability.TheVariants as durable
use Rattle.amqp_link_types.specs.declared.types.terminus.TerminusExpiryPolicy.{TerminusExpiryPolicy}
use Rattle.amqp_link_types.specs.declared.types.terminus.TerminusExpiryPolicy.TheVariants as expires

-- what two values make, if both are there
abbrev pub both : {A B C : Type 0} → (A → B → C) → Option A → Option B → Option C
both f None b = None
both f (Some a) b = option_map (f a) b

-- the role with this number
abbrev pub role_of : ℕ → Option Role
role_of n = if n == 0 then Some Sender else (if n == 1 then Some Receiver else None)

-- the number of a role
abbrev pub role_number : Role → ℕ
role_number Sender = 0
role_number Receiver = 1

-- the sender settle mode with this number
abbrev pub sender_mode_of : ℕ → Option SenderSettleMode
sender_mode_of n = if n == 0 then Some Unsettled else (if n == 1 then Some Settled else (
    if n == 2 then Some Mixed else None))

-- the number of a sender settle mode
abbrev pub sender_mode_number : SenderSettleMode → ℕ
sender_mode_number Unsettled = 0
sender_mode_number Settled = 1
sender_mode_number Mixed = 2

-- the receiver settle mode with this number
abbrev pub receiver_mode_of : ℕ → Option ReceiverSettleMode
receiver_mode_of n = if n == 0 then Some First else (if n == 1 then Some Second else None)

-- the number of a receiver settle mode
abbrev pub receiver_mode_number : ReceiverSettleMode → ℕ
receiver_mode_number First = 0
receiver_mode_number Second = 1

-- both settle modes, if each number stands for one
abbrev pub settle_modes_of : ℕ → ℕ → Option (SenderSettleMode × ReceiverSettleMode)
settle_modes_of snd rcv = both (λ s r. (s, r)) (sender_mode_of snd) (receiver_mode_of rcv)

-- whether something is to be settled: no, yes, or as its mode says
abbrev pub settled_of : ℕ → Option (Option Bool)
settled_of n = if n == 0 then Some (Some false) else (if n == 1 then Some (Some true) else (
    if n == 2 then Some None else None))

-- the durability with this number
abbrev pub durability_of : ℕ → Option TerminusDurability
durability_of n = if n == 0 then Some durable.None else (if n == 1 then Some durable.Configuration else (
    if n == 2 then Some durable.UnsettledState else None))

-- the number of a durability
abbrev pub durability_number : TerminusDurability → ℕ
durability_number durable.None = 0
durability_number durable.Configuration = 1
durability_number durable.UnsettledState = 2

-- the expiry policy with this number
abbrev pub expiry_of : ℕ → Option TerminusExpiryPolicy
expiry_of n = if n == 0 then Some expires.LinkDetach else (if n == 1 then Some expires.SessionEnd
    else (if n == 2 then Some expires.ConnectionClose else (if n == 3 then Some expires.Never else None)))

-- the number of an expiry policy
abbrev pub expiry_number : TerminusExpiryPolicy → ℕ
expiry_number expires.LinkDetach = 0
expiry_number expires.SessionEnd = 1
expiry_number expires.ConnectionClose = 2
expiry_number expires.Never = 3

-- a durability and an expiry policy, if each number stands for one
abbrev pub policies_of : ℕ → ℕ → Option (TerminusDurability × TerminusExpiryPolicy)
policies_of durable expiry = both (λ d e. (d, e)) (durability_of durable) (expiry_of expiry)

-- the number of a link's state
abbrev pub state_number : LinkState → ℕ
state_number link.Unattached = 0
state_number link.AttachSent = 1
state_number link.IncompleteAttachSent = 2
state_number link.AttachReceived = 3
state_number link.IncompleteAttachReceived = 4
state_number link.Attached = 5
state_number link.IncompleteAttachExchanged = 6
state_number link.DetachSent = 7
state_number link.Detached = 8
state_number link.CloseSent = 9
state_number link.Closed = 10
