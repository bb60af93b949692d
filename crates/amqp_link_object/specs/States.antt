-- What an object has, by its kind.
use Rattle.std.specs.Prelude.{◌∷◌, ℕ, List, [], Option, Some, None}
use Rattle.amqp_link_core.specs.declared.resumption.ResumingDelivery.{ResumingDelivery}
use Rattle.amqp_link_inbox.specs.Inboxes.{InboxState}
use Rattle.amqp_link_inbox.specs.declared.inbox.attach.Forgotten.{Forgotten}
use Rattle.amqp_link_ledger.specs.Ledgers.{Ledger}
use Rattle.amqp_link_payloads.specs.declared.message.whole.Whole.{Whole}
use Rattle.amqp_link_types.specs.Deliveries.{Delivered, Ended}
use Rattle.amqp_link_types.specs.Entries.{Entries}
use Rattle.amqp_link_types.specs.declared.frame.LinkFrame.{LinkFrame}
use Rattle.amqp_link_types.specs.declared.types.attach.Attach.{Attach}
use Rattle.amqp_link_types.specs.declared.types.terminus.Target.{Target}
use Rattle.amqp_link_object.specs.declared.state.State.{State}
use Rattle.amqp_link_object.specs.declared.state.State.TheVariants as state

-- the number of a kind
abbrev pub kind_number : State → ℕ
kind_number state.Room = 0
kind_number (state.Sender link) = 1
kind_number (state.Receiver link) = 2
kind_number (state.Frame frame) = 3
kind_number (state.Frames frames) = 3
kind_number (state.Attach attach) = 4
kind_number (state.Resuming list) = 5
kind_number (state.Outcome ended) = 6
kind_number (state.Outcomes list) = 6
kind_number (state.Delivery delivery) = 7
kind_number (state.Forgotten list) = 8

-- the number of an object's kind
abbrev pub kind_in : Option State → ℕ
kind_in None = 0
kind_in (Some s) = kind_number s

-- the sender of a link, if it is one
abbrev pub sender_of : State → Option (Ledger Target)
sender_of (state.Sender link) = Some link
sender_of _ = None

abbrev pub sender_in : Option State → Option (Ledger Target)
sender_in None = None
sender_in (Some s) = sender_of s

-- the receiver of a link, if it is one
abbrev pub receiver_of : State → Option (InboxState Target)
receiver_of (state.Receiver link) = Some link
receiver_of _ = None

abbrev pub receiver_in : Option State → Option (InboxState Target)
receiver_in None = None
receiver_in (Some s) = receiver_of s

-- the frames, if there are any
abbrev pub frames_of : State → List LinkFrame
frames_of (state.Frame frame) = frame ∷ []
frames_of (state.Frames frames) = frames.items
frames_of _ = []

abbrev pub frames_in : Option State → List LinkFrame
frames_in None = []
frames_in (Some s) = frames_of s

-- the deliveries that have ended, if there are any
abbrev pub outcomes_of : State → List Ended
outcomes_of (state.Outcome ended) = ended ∷ []
outcomes_of (state.Outcomes list) = list.items
outcomes_of _ = []

abbrev pub outcomes_in : Option State → List Ended
outcomes_in None = []
outcomes_in (Some s) = outcomes_of s

-- an attach, if it is one
abbrev pub attach_of : State → Option Attach
attach_of (state.Attach attach) = Some attach
attach_of _ = None

abbrev pub attach_in : Option State → Option Attach
attach_in None = None
attach_in (Some s) = attach_of s

-- the deliveries to send again, if it has such
abbrev pub resuming_of : State → Option (Entries ResumingDelivery)
resuming_of (state.Resuming list) = Some list.items
resuming_of _ = None

abbrev pub resuming_in : Option State → Option (Entries ResumingDelivery)
resuming_in None = None
resuming_in (Some s) = resuming_of s

-- a delivery that was taken, if it is one
abbrev pub delivery_of : State → Option (Delivered Whole)
delivery_of (state.Delivery delivery) = Some delivery
delivery_of _ = None

abbrev pub delivery_in : Option State → Option (Delivered Whole)
delivery_in None = None
delivery_in (Some s) = delivery_of s

-- the deliveries that the peer has forgotten, if it has such
abbrev pub forgotten_of : State → Option (List Forgotten)
forgotten_of (state.Forgotten list) = Some list.items
forgotten_of _ = None

abbrev pub forgotten_in : Option State → Option (List Forgotten)
forgotten_in None = None
forgotten_in (Some s) = forgotten_of s
