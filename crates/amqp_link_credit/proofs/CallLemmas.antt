-- What the calls of a credit run do, by what their parts do.
use Rattle.std.proofs.Common.{◌≡◌, ◌∙◌, sym, ap, subst, ℕ, ◌<◌, ◌^◌, Bool, true, false, ◌||◌, List, [], ◌∷◌, ◌++◌, length, drop, Option, Some, None, Ok}
use Rattle.std.specs.Prelude.{IsSomeAnd, MatchOption, is_some, not}
use Rattle.amqp_link_payloads.specs.Position.{position}
use Rattle.amqp_link_payloads.specs.declared.message.whole.Whole.{Whole}
use Rattle.amqp_link_types.specs.Deliveries.{Delivered}
use Rattle.amqp_link_types.specs.Entries.{Tag}
use Rattle.amqp_link_types.specs.Frames.{performative_of}
use Rattle.amqp_link_types.specs.declared.frame.LinkFrame.{LinkFrame}
use Rattle.amqp_link_types.specs.declared.frame.LinkFrame.TheVariants.{Flow, RemoteTransfer, FirstTransfer, TransferContinuation}
use Rattle.amqp_link_types.specs.declared.types.performatives.LinkFlow.{LinkFlow}
use Rattle.amqp_link_types.specs.declared.types.terminus.Target.{Target}
use Rattle.amqp_link_state.specs.Counts.{sender_after, sender_reply}
use Rattle.amqp_link_core.specs.Held.{Held, held_bytes}
use Rattle.amqp_link_sender.specs.Senders.{Sender, IsSent, next_tag}
use Rattle.amqp_link_split.specs.Fitting.{IsFitting}
use Rattle.amqp_link_receiver.specs.Receivers.{Receiver}
use Rattle.amqp_link_receiver.specs.Completing.{entered, completion_refusal}
use Rattle.amqp_link_payloads.specs.declared.message.Message.{Message}
use Rattle.amqp_link_worlds.specs.Receiving.{CanReceive}
use Rattle.amqp_link_worlds.specs.Steps.{zero_output, held_after}
use Rattle.amqp_link_worlds.specs.Wires.{does_begin}
use Rattle.amqp_link_credit.specs.CreditCalls.{run_transfer, sender_after_send, SendsDelivery, IsTransfer, TakesPiece, complete_delivery, Completes, TakesFlow, reply_frames, TakesBack}
use Rattle.amqp_link_credit.specs.CreditWorlds.{CreditWorld, IsCreditWorld}
use Rattle.amqp_link_credit.specs.CreditDeliveries.{AreComplete}
use Rattle.amqp_link_credit.specs.Endpoints.{IsFlowWithoutEcho, after_flow}
use Rattle.amqp_link_credit.specs.Queues.{front_of}
use Rattle.amqp_link_pair.specs.Endpoints.{IsFlow}
use Rattle.amqp_link_credit.proofs.RunLemmas.{backs, flows, pieces, completes, sends, run_turn, IsCreditWorld-sent}
use Rattle.amqp_link_credit.proofs.TakenLemmas.{run_receives, run_completes}

-- ---- what comes first

pub first_holds : (P : LinkFrame → Type 0) (frames : List LinkFrame) (f : LinkFrame) (rest : List LinkFrame) → frames ≡ f ∷ rest → IsSomeAnd (front_of frames) P → P f
first_holds P frames f rest e h = let Q : List LinkFrame → Type 0 = λ frames. IsSomeAnd (front_of frames) P in subst Q e h

pub none_holds : (P : LinkFrame → Type 0) (frames : List LinkFrame) → frames ≡ [] → IsSomeAnd (front_of frames) P → ⊥
none_holds P frames e h = let Q : List LinkFrame → Type 0 = λ frames. IsSomeAnd (front_of frames) P in subst Q e h

pub none_first : (P : LinkFrame → Type 0) (frames : List LinkFrame) → None ≡ front_of frames → IsSomeAnd (front_of frames) P → ⊥
none_first P frames e h = let Q : Option LinkFrame → Type 0 = λ o. IsSomeAnd o P in subst Q (sym e) h

-- what is first, and what is left once it is off
pub front_off : (frames : List LinkFrame) (f : LinkFrame) → Some f ≡ front_of frames → frames ≡ f ∷ drop 1 frames
front_off [] f h = absurd (cc)
front_off (g ∷ rest) f h = let is : g ≡ f = cc in ap (λ x. x ∷ rest) is

-- what is left once the first is taken, if there is one
pub taken_off : (frames left : List LinkFrame) (first : Option LinkFrame) → MatchOption first ((frames ≡ []) × (left ≡ [])) (λ f. frames ≡ f ∷ left) → left ≡ drop 1 frames
taken_off frames left None h = h.1 ∙ sym (ap (drop 1) h.0)
taken_off frames left (Some f) h = sym (ap (drop 1) h)

pub came_back : (old : CreditWorld) (flow : LinkFlow) (rest : List LinkFlow) (replied : Bool) (sender : Sender Target) (forward : List LinkFrame) → IsCreditWorld old → old.back ≡ flow ∷ rest → replied ≡ (flow.drain || flow.echo)
    → sender ≡ record old.sender { flow_state = sender_after flow old.sender.flow_state }
    → forward ≡ old.forward ++ reply_frames (sender_reply flow old.sender.flow_state zero_output)
    → TakesBack old replied (record old { sender = sender; forward = forward; back = rest }) × IsCreditWorld (record old { sender = sender; forward = forward; back = rest })
came_back old flow rest replied sender forward k taken is s f =
    let after = record old.sender { flow_state = sender_after flow old.sender.flow_state } in
    backs old (record old { sender = sender; forward = forward; back = rest }) flow rest replied k taken is
    (ap (λ s. record old { sender = s; forward = forward; back = rest }) s ∙ ap (λ f. record old { sender = after; forward = f; back = rest }) f)

pub came_flow : (old : CreditWorld) (f : LinkFrame) (forward : List LinkFrame) (receiver : Receiver Target) → IsCreditWorld old → old.forward ≡ f ∷ forward → IsFlow f
    → receiver ≡ record old.receiver { flow_state = after_flow f old.receiver.flow_state }
    → TakesFlow old (record old { receiver = receiver; forward = forward }) × IsCreditWorld (record old { receiver = receiver; forward = forward })
came_flow old (Flow flow) forward receiver k taken h r =
    flows old (record old { receiver = receiver; forward = forward }) flow forward k taken (ap (λ r. record old { receiver = r; forward = forward }) r)
came_flow old _ forward receiver k taken h r = absurd h

-- a flow under way to the receiver does not ask for a reply
pub flow_has_no_echo : (old : CreditWorld) (f : LinkFrame) (rest : List LinkFrame) → IsCreditWorld old → old.forward ≡ f ∷ rest → IsFlow f → IsFlowWithoutEcho f
flow_has_no_echo old (Flow flow) rest k taken h =
    let whole : AreComplete (is_some old.held) (Flow flow ∷ rest) = subst (AreComplete (is_some old.held)) taken k.whole in
    whole.0.echo
flow_has_no_echo old _ rest k taken h = absurd h

-- the first frame can be received, where it is a transfer
pub first_received : (old now : CreditWorld) (f : LinkFrame) (id : ℕ) (more : Bool) → old ≡ now → IsCreditWorld old → IsSomeAnd (front_of now.forward) (λ f. IsTransfer f more) → Some f ≡ front_of old.forward → IsTransfer f more × CanReceive old.held id f
first_received old now f id more same k h first =
    let here : IsSomeAnd (front_of old.forward) (λ f. IsTransfer f more) = subst (λ (w : CreditWorld). IsSomeAnd (front_of w.forward) (λ f. IsTransfer f more)) (sym same) h in
    let taken = front_off old.forward f first in
    let t : IsTransfer f more = first_holds (λ f. IsTransfer f more) old.forward f (drop 1 old.forward) taken here in
    (t, run_receives old f (drop 1 old.forward) id more k taken t)

-- it begins a delivery exactly if the receiver says so
pub first_in_turn : (old now : CreditWorld) (f : LinkFrame) (more : Bool) → old ≡ now → IsCreditWorld old → IsSomeAnd (front_of now.forward) (λ f. IsTransfer f more) → Some f ≡ front_of old.forward → does_begin f ≡ not old.receiver.more
first_in_turn old now f more same k h first =
    let t = (first_received old now f 0 more same k h first).0 in
    run_turn old k f (drop 1 old.forward) (front_off old.forward f first) more t

-- what a transfer with this flag states
more_is : (f : LinkFrame) (more : Bool) → IsTransfer f more → (performative_of f).more ≡ more
more_is (RemoteTransfer x) more t = t
more_is (FirstTransfer x) more t = t
more_is (TransferContinuation x) more t = t
more_is _ more t = absurd t

pub came_piece : (old now : CreditWorld) (f : LinkFrame) (forward : List LinkFrame) (id : ℕ) (held : Option Held) (receiver : Receiver Target) → old ≡ now → IsCreditWorld old → IsSomeAnd (front_of now.forward) (λ f. IsTransfer f true) → Some f ≡ front_of old.forward → forward ≡ drop 1 old.forward
    → held ≡ Some (held_after old.held id f) → receiver ≡ record old.receiver { more = (performative_of f).more }
    → TakesPiece now id (record old { receiver = receiver; held = held; forward = forward }) × IsCreditWorld (record old { receiver = receiver; held = held; forward = forward })
came_piece old now f forward id held receiver same k h first off is to =
    let r = first_received old now f id true same k h first in
    let receiver_is : receiver ≡ record old.receiver { more = true } = to ∙ ap (λ more. record old.receiver { more = more }) (more_is f true r.0) in
    let new = record old { receiver = receiver; held = held; forward = forward } in
    let p = pieces old k f forward (front_off old.forward f first ∙ ap (λ rest. f ∷ rest) (sym off)) id new r.0
    (ap (λ h. record old { receiver = receiver; held = h; forward = forward }) is ∙ ap (λ r. record old { receiver = r; held = Some (held_after old.held id f); forward = forward }) receiver_is) in
    (subst (λ w. TakesPiece w id new) same p.0, p.1)

pub came_whole : (old now : CreditWorld) (f : LinkFrame) (forward : List LinkFrame) (id : ℕ) (whole : Held) (held : Option Held) (answer : Delivered Whole) (between receiver : Receiver Target) → old ≡ now → IsCreditWorld old → IsSomeAnd (front_of now.forward) (λ f. IsTransfer f false) → Some f ≡ front_of old.forward → forward ≡ drop 1 old.forward
    → whole ≡ held_after old.held id f → held ≡ None → answer ≡ complete_delivery whole
    → between ≡ entered whole.performative (position (held_bytes whole)).0 (position (held_bytes whole)).1 old.receiver
    → receiver ≡ record between { more = (performative_of f).more }
    → Completes now id answer (record old { receiver = receiver; held = held; forward = forward }) × IsCreditWorld (record old { receiver = receiver; held = held; forward = forward })
came_whole old now f forward id whole held answer between receiver same k h first off w none d r to =
    let t = (first_received old now f id false same k h first).0 in
    let new = record old { receiver = receiver; held = held; forward = forward } in
    let between_is : between ≡ (let e = held_after old.held id f in entered e.performative (position (held_bytes e)).0 (position (held_bytes e)).1 old.receiver) =
    r ∙ ap (λ (w : Held). entered w.performative (position (held_bytes w)).0 (position (held_bytes w)).1 old.receiver) w in
    let p = completes old k f forward (front_off old.forward f first ∙ ap (λ rest. f ∷ rest) (sym off)) id answer new t (d ∙ ap complete_delivery w)
    (ap (λ h. record old { receiver = receiver; held = h; forward = forward }) none
    ∙ ap (λ r. record old { receiver = r; held = None; forward = forward }) (to ∙ (λ i. record (between_is i) { more = more_is f false t i }))) in
    (subst (λ w. Completes w id answer new) same p.0, p.1)

-- it can be handed out
pub whole_handed : (old now : CreditWorld) (f : LinkFrame) (id : ℕ) (whole : Held) → old ≡ now → IsCreditWorld old → IsSomeAnd (front_of now.forward) (λ f. IsTransfer f false) → Some f ≡ front_of old.forward → whole ≡ held_after old.held id f
    → (number offset : ℕ) (message : Message Whole) → completion_refusal old.receiver whole.performative number offset (Ok message) ≡ None
whole_handed old now f id whole same k h first w number offset message =
    let t = (first_received old now f id false same k h first).0 in
    ap (λ (w : Held). completion_refusal old.receiver w.performative number offset (Ok message)) w
    ∙ run_completes old f (drop 1 old.forward) id number offset message k (front_off old.forward f first) t

pub did_send : (old : CreditWorld) (payload : List ℕ) (settled : Bool) (tag : Tag) (frames forward : List LinkFrame) (count : ℕ) (sender : Sender Target) → IsCreditWorld old → 0 < old.sender.flow_state.link_credit → length payload < 2 ^ 32
    → tag ≡ next_tag old.sender → IsSent old.sender (run_transfer settled (next_tag old.sender)) payload frames
    → IsFitting (run_transfer settled (next_tag old.sender)) old.sender.max_frame_size payload frames
    → count ≡ length frames → sender ≡ sender_after_send settled old.sender payload → forward ≡ old.forward ++ frames
    → SendsDelivery old payload settled tag count (record old { sender = sender; forward = forward }) × IsCreditWorld (record old { sender = sender; forward = forward })
did_send old payload settled tag frames forward count sender k credited short named framed fits counted s f =
    let e : record old { sender = sender; forward = forward } ≡ record old { sender = sender_after_send settled old.sender payload; forward = old.forward ++ frames } =
    ap (λ s. record old { sender = s; forward = forward }) s ∙ ap (λ f. record old { sender = sender_after_send settled old.sender payload; forward = f }) f in (
      subst (λ t. SendsDelivery old payload settled t count (record old { sender = sender; forward = forward })) (sym named)
          (sends old k payload settled frames credited framed (record old { sender = sender; forward = forward }) count fits counted e),
      subst IsCreditWorld (sym e) (IsCreditWorld-sent old k payload settled frames credited framed short),
    )
