-- Worked values of an exchange, found by hand.
use Rattle.std.proofs.Common.{◌≡◌, [], ◌∷◌, refl, Some, None, List, Ok}
use Rattle.amqp_link_payloads.specs.Header.{header_len}
use Rattle.amqp_link_payloads.specs.Position.{starts}
use Rattle.amqp_link_types.specs.Entries.{Entries}
use Rattle.amqp_link_types.specs.declared.delivery.UnsettledMessage.{UnsettledMessage}
use Rattle.amqp_link_types.specs.declared.types.delivery_state.DeliveryState.TheVariants.{Accepted, Released, Received}
use Rattle.amqp_link_endpoint.specs.Attaching.{States}
use Rattle.amqp_link_core.specs.Resuming.{resolution_by, outcome_by}
use Rattle.amqp_link_core.specs.declared.resumption.PlannedResolution.TheVariants as plan
use Rattle.amqp_link_core.specs.declared.resumption.Resolution.TheVariants.{Outcome}
use Rattle.amqp_link_core.specs.declared.resumption.ResumingDelivery.TheVariants.{Abort, Resend, Resume}
use Rattle.amqp_link_exchange.specs.Exchanges.{deliveries_to_resume, outcomes_returned, unknown_aborted}
use Rattle.amqp_link_exchange.specs.Plans.{resumed_count, ended_count}
use Rattle.amqp_link_exchange.specs.declared.planning.Step.{Step}

-- an entry of those bytes without a state, one that was accepted, and one of no bytes
abbrev of_eight : UnsettledMessage
of_eight = record { payload = 0x00 ∷ 0x53 ∷ 0x70 ∷ 0xc0 ∷ 0x00 ∷ 0x53 ∷ 0x77 ∷ 0x41 ∷ []; state = None; message_format = 0 }

abbrev accepted : UnsettledMessage
accepted = record { payload = []; state = Some Accepted; message_format = 0 }

abbrev blank : UnsettledMessage
blank = record { payload = []; state = None; message_format = 0 }

-- the sender has the tags 0, 1 and 2, the receiver 3, 0 and 1
abbrev own : Entries UnsettledMessage
own = (0 ∷ [], of_eight) ∷ (1 ∷ [], accepted) ∷ (2 ∷ [], blank) ∷ []

abbrev remote : States
remote = (3 ∷ [], None) ∷ (0 ∷ [], Some (Received 0 5)) ∷ (1 ∷ [], Some Accepted) ∷ []

-- tag 0 is resumed with the last three bytes, tag 2 is sent again, tag 3 is aborted
list_is : deliveries_to_resume own remote
    ≡ (0 ∷ [], Resume of_eight (0x53 ∷ 0x77 ∷ 0x41 ∷ [])) ∷ (2 ∷ [], Resend blank) ∷ (3 ∷ [], Abort 0 None) ∷ []
unfolding starts header_len
list_is = refl

-- tag 1 has ended as both report
outcomes_are : outcomes_returned own remote ≡ (1 ∷ [], Ok (Some Accepted)) ∷ []
outcomes_are = refl

-- of a sender without deliveries all are aborted, in the receiver's order
all_aborted : unknown_aborted [] remote ≡ (3 ∷ [], Abort 0 None) ∷ (0 ∷ [], Abort 0 None) ∷ (1 ∷ [], Abort 0 None) ∷ []
all_aborted = refl

-- one of three steps ends its delivery
abbrev steps_of : List Step
steps_of = record { plan = plan.Resend; tag = None } ∷ record { plan = plan.LocalOutcome; tag = None } ∷ record { plan = plan.Abort; tag = Some (0 ∷ []) } ∷ []

two_resumed : resumed_count steps_of ≡ 2
two_resumed = refl

one_ended : ended_count steps_of ≡ 1
one_ended = refl

-- a plan by the receiver's outcome
released_there : resolution_by (plan.RemoteOutcome Released) (0 ∷ []) blank ≡ Outcome (Ok (Some Released))
released_there = refl

accepted_here : outcome_by plan.LocalOutcome accepted ≡ Some (Ok (Some Accepted))
accepted_here = refl
