-- A detach that arrives at either role (OASIS AMQP 1.0 core, 2.6.5 and 2.6.6).
use Rattle.std.specs.Prelude.{◌≡◌, ◌∷◌, ◌&&◌, ℕ, Bool, List, [], Option, is_none, if◌then◌else◌}
use Rattle.std.specs.Option.{option_map_or}
use Rattle.amqp_link_dispositions.specs.Ending.{all_closed, reply_of}
use Rattle.amqp_link_ledger.specs.Fates.{Resolves, after as after_change}
use Rattle.amqp_link_ledger.specs.Ledgers.{Ledger}
use Rattle.amqp_link_types.specs.Deliveries.{Ended}
use Rattle.amqp_link_types.specs.declared.frame.LinkFrame.{LinkFrame}
use Rattle.amqp_link_types.specs.declared.frame.LinkFrame.TheVariants as frame
use Rattle.amqp_link_types.specs.declared.types.definitions.Error.{Error}
use Rattle.amqp_link_types.specs.declared.types.definitions.OutputHandle.{OutputHandle}
use Rattle.amqp_link_types.specs.declared.types.performatives.Detach.{Detach}
use Rattle.amqp_link_types.specs.declared.types.terminus.Target.{Target}

-- the detach to reply with: none if the peer has not initiated this one
abbrev pub replies : Bool → Option OutputHandle → Detach → List LinkFrame
replies remote_initiated handle detach =
    if remote_initiated then option_map_or (λ h. frame.Detach (reply_of h detach) ∷ []) handle [] else []

-- the status of a detach that arrives: unattached handle if the peer has initiated it, and there is none
abbrev pub arrived_status : Bool → Option OutputHandle → ℕ
arrived_status remote_initiated handle = if remote_initiated && is_none handle then 35 else 0

-- the outcomes of the pending deliveries: the peer has closed the link
abbrev pub closing : Bool → Detach → Ledger Target → List Ended
closing remote_initiated detach l =
    if remote_initiated && detach.closed then all_closed detach.error l.link.unsettled else []

-- A detach arrives at a sender: the reply, what has ended, and the sender afterwards.
pub record TakesDetach (detach : Detach) (remote_initiated : Bool) (reply : List LinkFrame) (ended : List Ended) (before after : Ledger Target) : Type 0 where
  pub reply_is : reply ≡ replies remote_initiated before.link.output_handle detach
  pub ended_is : ended ≡ closing remote_initiated detach before
  pub link_is : after.link ≡ (if remote_initiated && detach.closed then record before.link { unsettled = [] } else before.link)
  pub records_are : after.records ≡ after_change (Resolves ended) before.records

-- Each pending delivery fails, since a detach with this error closes the link.
pub record FailsPending (error : Option Error) (ended : List Ended) (before after : Ledger Target) : Type 0 where
  pub ended_is : ended ≡ all_closed error before.link.unsettled
  pub link_is : after.link ≡ record before.link { unsettled = [] }
  pub records_are : after.records ≡ after_change (Resolves ended) before.records
