-- The outcomes of deliveries (OASIS AMQP 1.0 core, 2.6.12 and 2.7.7).
use Rattle.std.specs.Prelude.{Bool, false, ◌==◌, ◌&&◌, ◌||◌, not, if◌then◌else◌, List, [], ◌∷◌, length, map, Option, None, Some, is_some, option_map, Ok, Err}
use Rattle.std.specs.List.{filter_map}
use Rattle.std.specs.Option.{option_map_or}
use Rattle.amqp_link_types.specs.declared.delivery.UnsettledMessage.{UnsettledMessage}
use Rattle.amqp_link_types.specs.declared.types.definitions.Error.{Error}
use Rattle.amqp_link_types.specs.declared.types.definitions.OutputHandle.{OutputHandle}
use Rattle.amqp_link_types.specs.declared.types.delivery_state.DeliveryState.{DeliveryState}
use Rattle.amqp_link_types.specs.declared.types.errors.LinkStateError.{LinkStateError}
use Rattle.amqp_link_types.specs.declared.types.errors.LinkStateError.TheVariants as error
use Rattle.amqp_link_types.specs.declared.types.performatives.Detach.{Detach}
use Rattle.amqp_link_types.specs.Deliveries.{Ended}
use Rattle.amqp_link_types.specs.DeliveryStates.{is_terminal}
use Rattle.amqp_link_types.specs.Entries.{Tag, Entries, entry_at, without_entry, without_entries, changed_at}
use Rattle.amqp_link_dispositions.specs.Listed.{firsts}

-- an entry with another state, or none
abbrev pub message_with_state : Option DeliveryState → UnsettledMessage → UnsettledMessage
message_with_state state message = record message { state = state }

-- the outcome of a delivery that its sender settles: the state stored in its entry
abbrev pub settled_at : Entries UnsettledMessage → Tag → Option Ended
settled_at es t = option_map (λ message. (t, Ok message.state)) (entry_at es t)

-- the outcomes of the deliveries with these tags that have an entry, each once, in this order
abbrev pub settled_of : Entries UnsettledMessage → List Tag → List Ended
settled_of es ts = filter_map (settled_at es) (firsts ts)

-- the outcomes of the deliveries with these tags, if their sender settles them
abbrev pub ended_of : Bool → List Tag → Entries UnsettledMessage → List Ended
ended_of settled ts es = if settled then settled_of es ts else []

-- the map afterwards: settled deliveries are removed, one after the other; the others have this state
abbrev pub disposed : Bool → DeliveryState → List Tag → Entries UnsettledMessage → Entries UnsettledMessage
disposed settled state ts es = if settled then without_entries es ts else changed_at (message_with_state (Some state)) ts es

-- whether a disposition of the receiver resolves its delivery: it is settled, or its state is terminal
abbrev pub does_end : Bool → Option DeliveryState → Bool
does_end settled state = settled || option_map_or is_terminal state false

-- the outcome of the delivery with this tag, if it has an entry and the disposition resolves it
abbrev pub ended_by : Bool → Option DeliveryState → Tag → Entries UnsettledMessage → Option Ended
ended_by settled state t es =
    if does_end settled state then option_map (λ message. (t, Ok state)) (entry_at es t) else None

-- the map afterwards: a delivery that is not resolved has this state, or none
abbrev pub map_after_receiver_disposition : Bool → Option DeliveryState → Tag → Entries UnsettledMessage → Entries UnsettledMessage
map_after_receiver_disposition settled state t es = if does_end settled state then without_entry es t else changed_at (message_with_state state) (t ∷ []) es

-- why a delivery has no outcome whose link is closed, by the error of the detach
abbrev pub closed_for : Option Error → LinkStateError
closed_for None = error.RemoteClosed
closed_for (Some e) = error.RemoteClosedWithError e

-- the outcomes of all deliveries then, in order
abbrev pub all_closed : Option Error → Entries UnsettledMessage → List Ended
all_closed why es = map (λ entry. (entry.0, Err (closed_for why))) es

-- the reply to a detach at an output handle: the same closed flag and error
abbrev pub reply_of : OutputHandle → Detach → Detach
reply_of handle detach = record { handle = record { 0 = handle.0 }; closed = detach.closed; error = detach.error }

-- whether taking a detach that the peer initiated allocates: it carries an error, which the reply has too, or it
-- closes the link while there are deliveries to resolve
abbrev pub detach_allocates : Detach → Entries UnsettledMessage → Bool
detach_allocates detach es = is_some detach.error || (detach.closed && not (length es == 0))
