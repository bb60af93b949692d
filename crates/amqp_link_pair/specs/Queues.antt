-- The two queues of a pair as its other parts see them: the wire, and the list to resume.
use Rattle.std.specs.Prelude.{◌≡◌, ℕ, List, [], ◌∷◌, Option, Some, None, Result, Ok, Err}
use Rattle.std.specs.Borrow.{Bor}
use Rattle.amqp_link_core.specs.declared.resumption.ResumingDelivery.{ResumingDelivery}
use Rattle.amqp_link_core.specs.declared.resumption.ResumingDelivery.TheVariants.{Resend, Resume}
use Rattle.amqp_link_types.specs.Entries.{Tag, Entries}
use Rattle.amqp_link_types.specs.declared.delivery.UnsettledMessage.{UnsettledMessage}
use Rattle.amqp_link_types.specs.declared.frame.LinkFrame.{LinkFrame}
use Rattle.amqp_link_worlds.specs.Resumptions.{rest_of, resumes}
use Rattle.amqp_link_worlds.specs.Steps.{delivery_transfer}
use Rattle.amqp_link_worlds.specs.Wires.{OnWire}
use Rattle.amqp_link_pair.specs.declared.sending.Resumption.{Resumption}

-- a reference to the first of a list, if there is one
abbrev pub first_element : {A : Type 0} → List A → Option A
first_element [] = None
first_element (x ∷ xs) = Some x

-- a wire: the transfers under way, and for how many more deliveries there is room
pub record WireAndRoom : Type 0 where
  pub transfers : List OnWire
  pub room : ℕ

-- a transfer to which there are references
abbrev pub on_wire_of : Bor Tag × Bor LinkFrame → OnWire
on_wire_of p = record { tag = p.0.now; frame = p.1.now }

-- a list to resume, and for how many more there is room
pub record ListAndRoom : Type 0 where
  pub list : Entries ResumingDelivery
  pub room : ℕ

-- a delivery of the list to which there are references
abbrev pub tag_and_delivery : Bor Tag × Bor ResumingDelivery → Tag × ResumingDelivery
tag_and_delivery p = (p.0.now, p.1.now)

-- the delivery with this entry, which is resumed with a rest, or sent again without one
abbrev pub resuming_of : UnsettledMessage → Option (List ℕ) → ResumingDelivery
resuming_of entry None = Resend entry
resuming_of entry (Some rest) = Resume entry rest

-- the transfer, the rest and the tag with which a delivery is resumed
pub record IsMadeOf (made : Resumption) (tag : Tag) (next : ResumingDelivery) : Type 0 where
  pub transfer : made.transfer ≡ delivery_transfer tag (resumes next)
  pub rest : rest_of next ≡ Some made.rest
  pub tag_is : made.tag ≡ tag

-- the result of a call that returns the entry if it is refused, with the delivery made again from that entry
abbrev pub handed_back_as : {A E : Type 0} → Result A (E × UnsettledMessage) → Option (List ℕ) → Result A ResumingDelivery
handed_back_as (Ok a) rest = Ok a
handed_back_as (Err refused) rest = Err (resuming_of refused.1 rest)
