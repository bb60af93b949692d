-- The transfers on their way from a sender to a receiver, in order, each with the tag of its delivery.
use Rattle.std.specs.Prelude.{◌≡◌, ℕ, Bool, true, false, not, List, [], ◌∷◌, map, filter, flat_map}
use Rattle.std.specs.Str.{bytes_eq}
use Rattle.amqp_link_types.specs.Entries.{Tag}
use Rattle.amqp_link_types.specs.Frames.{payload_of, performative_of}
use Rattle.amqp_link_types.specs.declared.frame.LinkFrame.{LinkFrame}
use Rattle.amqp_link_types.specs.declared.frame.LinkFrame.TheVariants.{FirstTransfer}

-- a transfer on its way
pub record OnWire : Type 0 where
  pub tag : Tag
  pub frame : LinkFrame

-- the frames of one delivery, each under its tag
abbrev pub under : Tag → List LinkFrame → List OnWire
under tag frames = map (λ frame. record { tag = tag; frame = frame }) frames

-- the transfers of one delivery under way, in order
abbrev pub frames_of : Tag → List OnWire → List LinkFrame
frames_of tag wire = map (λ next. next.frame) (filter (λ next. bytes_eq tag next.tag) wire)

-- their payloads joined
abbrev pub payload_of_all : List LinkFrame → List ℕ
payload_of_all frames = flat_map payload_of frames

-- whether a frame begins a delivery in this attachment, new or resumed; a continuation does not
abbrev pub does_begin : LinkFrame → Bool
does_begin (FirstTransfer x) = true
does_begin _ = false

-- The transfers come in turn: the next one begins a delivery exactly if the one that arrived last, with this
-- flag, has no more, and each further one exactly if the one before it has no more. The last has none.
abbrev pub IsInTurn : Bool → List OnWire → Type 0
IsInTurn more [] = more ≡ false
IsInTurn more (next ∷ wire) = (does_begin next.frame ≡ not more) × IsInTurn (performative_of next.frame).more wire
