-- The deliveries under way in a credit run (OASIS AMQP 1.0 core, 2.7.5).
use Rattle.std.specs.Prelude.{◌≡◌, ℕ, ◌<◌, ◌^◌, Bool, true, false, List, [], ◌∷◌, ◌++◌, Option, Some, None, IsSome, IsSomeAnd, unwrap_or, if◌then◌else◌}
use Rattle.amqp_link_types.specs.Entries.{Tag}
use Rattle.amqp_link_types.specs.Frames.{performative_of, payload_of}
use Rattle.amqp_link_types.specs.declared.frame.LinkFrame.{LinkFrame}
use Rattle.amqp_link_types.specs.declared.frame.LinkFrame.TheVariants.{Flow, FirstTransfer, TransferContinuation}
use Rattle.amqp_link_types.specs.declared.types.performatives.LinkFlow.{LinkFlow}
use Rattle.amqp_link_types.specs.declared.types.transfer.Transfer.{Transfer}
use Rattle.amqp_link_core.specs.Held.{Held, held_bytes}
use Rattle.amqp_link_worlds.specs.Invariants.{IsContinuing}

-- a delivery's tag, and its bytes
abbrev pub Part : Type 0
Part = Tag × List ℕ

-- a delivery with one more transfer; its first transfer has its tag
abbrev pub with_piece : Option Part → LinkFrame → Part
with_piece None f = (unwrap_or (performative_of f).delivery_tag [], payload_of f)
with_piece (Some part) f = (part.0, part.1 ++ payload_of f)

-- a delivery whose last transfer is not among them
abbrev pub unfinished : Option Part → List Part
unfinished None = []
unfinished (Some part) = part ∷ []

-- the payloads of the transfers joined, cut after each transfer that has more = false
abbrev pub deliveries : Option Part → List LinkFrame → List Part
deliveries part [] = unfinished part
deliveries part (Flow flow ∷ frames) = deliveries part frames
deliveries part (f ∷ frames) =
    if (performative_of f).more
    then deliveries (Some (with_piece part f)) frames
    else with_piece part f ∷ deliveries None frames

-- what is held of a delivery
abbrev pub part_of : Held → Part
part_of held = (unwrap_or held.performative.delivery_tag [], held_bytes held)

-- ---- how the frames follow one another

-- a transfer that begins a delivery has its tag, and no settle mode
pub record BeginsDelivery (t : Transfer) : Type 0 where
  pub tag : IsSome t.delivery_tag
  pub mode : t.rcv_settle_mode ≡ None

-- a first transfer comes exactly if no delivery is begun
abbrev pub FollowsOn : Bool → LinkFrame → Type 0
FollowsOn false (FirstTransfer x) = BeginsDelivery x.performative
FollowsOn true (TransferContinuation x) = IsContinuing x.performative
FollowsOn begun f = ⊥

-- a flow of the sender states its delivery-count, and does not ask for a reply
pub record IsReply (flow : LinkFlow) : Type 0 where
  pub counted : IsSomeAnd flow.delivery_count (λ count. count < 2 ^ 32)
  pub echo : flow.echo ≡ false

-- deliveries one after another, each with its last transfer, and flows between any two frames
abbrev pub AreComplete : Bool → List LinkFrame → Type 0
AreComplete begun [] = begun ≡ false
AreComplete begun (Flow flow ∷ frames) = IsReply flow × AreComplete begun frames
AreComplete begun (f ∷ frames) = FollowsOn begun f × AreComplete (performative_of f).more frames

-- the merged transfer of what is held has the delivery's id and tag, and no settle mode
pub record HasIdAndTag (t : Transfer) : Type 0 where
  pub id : IsSome t.delivery_id
  pub tag : IsSome t.delivery_tag
  pub mode : t.rcv_settle_mode ≡ None
