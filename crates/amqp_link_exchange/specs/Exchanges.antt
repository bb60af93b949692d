-- The exchange of unsettled maps when a link is attached again (OASIS AMQP 1.0 core, 2.6.13): the result of
-- the sender's map and the receiver's.
use Rattle.std.specs.Prelude.{List, ◌++◌, map, filter, Option, Some, None, is_none}
use Rattle.std.specs.List.{filter_map}
use Rattle.amqp_link_types.specs.Deliveries.{Ended}
use Rattle.amqp_link_types.specs.Entries.{Tag, Entries, entry_at}
use Rattle.amqp_link_endpoint.specs.Attaching.{States}
use Rattle.amqp_link_core.specs.Resuming.{resolution}
use Rattle.amqp_link_types.specs.declared.delivery.UnsettledMessage.{UnsettledMessage}
use Rattle.amqp_link_core.specs.declared.resumption.Resolution.{Resolution}
use Rattle.amqp_link_core.specs.declared.resumption.Resolution.TheVariants.{Resuming, Outcome}
use Rattle.amqp_link_core.specs.declared.resumption.ResumingDelivery.{ResumingDelivery}
use Rattle.amqp_link_core.specs.declared.resumption.ResumingDelivery.TheVariants.{Abort}

-- the resolution of each delivery of the sender's map, by the receiver's entry of its tag
abbrev pub resolutions : Entries UnsettledMessage → States → List (Tag × Resolution)
resolutions own remote = map (λ e. (e.0, resolution e.0 e.1 (entry_at remote e.0))) own

-- the delivery to resume, if something is to be sent of it
abbrev pub to_resume : Tag × Resolution → Option (Tag × ResumingDelivery)
to_resume (tag, Resuming next) = Some (tag, next)
to_resume (tag, Outcome outcome) = None

-- the outcome of the delivery, if it has ended
abbrev pub to_return : Tag × Resolution → Option Ended
to_return (tag, Resuming next) = None
to_return (tag, Outcome outcome) = Some (tag, outcome)

-- the aborts of the deliveries that only the receiver knows, in the receiver's order
abbrev pub unknown_aborted : Entries UnsettledMessage → States → Entries ResumingDelivery
unknown_aborted own remote = map (λ e. (e.0, Abort 0 None)) (filter (λ e. is_none (entry_at own e.0)) remote)

-- the deliveries of which something is to be sent: first the sender's, then the others
abbrev pub deliveries_to_resume : Entries UnsettledMessage → States → Entries ResumingDelivery
deliveries_to_resume own remote = filter_map to_resume (resolutions own remote) ++ unknown_aborted own remote

-- the outcomes of those that have ended, in the order of the sender's map
abbrev pub outcomes_returned : Entries UnsettledMessage → States → List Ended
outcomes_returned own remote = filter_map to_return (resolutions own remote)
