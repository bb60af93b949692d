-- Each call of a credit run keeps what a run keeps, and does what its step says.
use Rattle.std.proofs.Common.{◌≡◌, sym, ap, ◌∙◌, subst, refl, ℕ, ◌-◌, ◌^◌, ◌<◌, ◌≤◌, arith, Bool, true, false, cond, ◌||◌, List, [], ◌∷◌, ◌++◌, length}
use Rattle.std.specs.Prelude.{ℤ, pos, ◌≤ℤ◌, not, Option, Some, None, is_some, IfSome, option_map, nat_lt, int_lt}
use Rattle.std.specs.List.{AllByRecursion}
use Rattle.std.proofs.lemmas.Bool.Decides.{nat_tests}
use Rattle.std.proofs.lemmas.List.{append-nil}
use borrow.Author.Differences.{ints}
use Rattle.amqp_link_payloads.specs.Position.{position}
use Rattle.amqp_link_payloads.specs.declared.message.whole.Whole.{Whole}
use Rattle.amqp_link_types.specs.Deliveries.{Delivered}
use Rattle.amqp_link_types.specs.Entries.{Tag}
use Rattle.amqp_link_types.specs.Frames.{performative_of}
use Rattle.amqp_link_types.specs.Refusals.{refusal}
use Rattle.amqp_link_types.specs.declared.frame.LinkFrame.{LinkFrame}
use Rattle.amqp_link_types.specs.declared.frame.LinkFrame.TheVariants.{Flow, RemoteTransfer, FirstTransfer, TransferContinuation}
use Rattle.amqp_link_types.specs.declared.types.performatives.LinkFlow.{LinkFlow}
use Rattle.amqp_link_types.specs.declared.types.terminus.Target.{Target}
use Rattle.amqp_link_state.specs.Counts.{sdiff, after_consuming, sender_after, sender_reply, receiver_after}
use Rattle.amqp_link_state.specs.declared.state.LinkFlowStateInner.{LinkFlowStateInner}
use Rattle.amqp_link_core.specs.Held.{Held, held_bytes}
use Rattle.amqp_link_sender.specs.Senders.{Sender, IsSent, next_tag}
use Rattle.amqp_link_split.specs.Fitting.{IsFitting}
use Rattle.amqp_link_receiver.specs.Receivers.{Receiver}
use Rattle.amqp_link_receiver.specs.Completing.{entered, spent, reported, unsettled_tag}
use Rattle.amqp_link_worlds.specs.Steps.{zero_output, held_after}
use Rattle.amqp_link_worlds.specs.Wires.{does_begin}
use Rattle.amqp_link_credit.specs.CreditCalls.{new_run, GrantsCredit, run_transfer, sender_after_send, SendsDelivery, IsTransfer, TakesPiece, complete_delivery, Completes, TakesFlow, reply_frames, TakesBack, is_lowered, granting_tests}
use Rattle.amqp_link_credit.specs.CreditWorlds.{CreditWorld, under_way, AreAttached, IsCreditWorld}
use Rattle.amqp_link_credit.specs.Credits.{IsCredit}
use Rattle.amqp_link_credit.specs.CreditDeliveries.{Part, with_piece, deliveries, part_of, FollowsOn, IsReply, AreComplete}
use Rattle.amqp_link_credit.proofs.CreditSteps.{credit_new, credit_granted, credit_sent, credit_answered, credit_covers, credit_completed, credit_continued, credit_reported}
use Rattle.amqp_link_credit.proofs.WayLemmas.{deliveries-next, deliveries-append, whole-append, IsOne, one-whole, one-leads, one_sent, part-received, named-received, IsShort}

-- ---- a new run

pub IsCreditWorld-new : (count limit : ℕ) → count < 2 ^ 32 → 29 ≤ limit → IsCreditWorld (new_run count limit)
IsCreditWorld-new count limit h room = record {
  credit = credit_new count h;
  attached = record { sender_output = refl; sender_input = refl; mode = refl; room = room; receiver_output = refl; receiver_state = refl; receiver_mode = refl };
  whole = refl;
  turn = refl;
  named = tt;
  short = tt;
}

-- ---- a grant

two_tests : {E : Type 0} (a b : Bool) (p q : E) → refusal ((a, p) ∷ (b, q) ∷ []) ≡ None → (a ≡ false) × (b ≡ false)
two_tests true b p q h = absurd (cc)
two_tests false true p q h = absurd (cc)
two_tests false false p q h = (refl, refl)

not_large : (credit : ℕ) → nat_lt (2 ^ 31 - 1) credit ≡ false → credit ≤ 2 ^ 31 - 1
not_large credit h = grind (arith, nat_tests)

not_lowered : (credit : ℕ) (limit : ℤ) → int_lt (pos credit) limit ≡ false → limit ≤ℤ pos credit
not_lowered credit limit h = omega (arith, ints)

pub IsCreditWorld-grants : (old new : CreditWorld) (credit : ℕ) (drain echo : Bool) → IsCreditWorld old → refusal (granting_tests old credit) ≡ None → GrantsCredit old credit drain echo new → IsCreditWorld new
IsCreditWorld-grants old new credit drain echo k none g =
    let tests = two_tests (nat_lt (2 ^ 31 - 1) credit) (is_lowered old credit) _ _ none in
    let a = k.attached in
    subst IsCreditWorld (sym g.world) (record {
      credit = credit_granted old.sender.flow_state old.receiver.flow_state old.forward old.back old.stated k.credit credit drain echo zero_output
          (not_large credit tests.0) (not_lowered credit (sdiff old.stated old.receiver.flow_state.delivery_count) tests.1);
      attached = record { sender_output = a.sender_output; sender_input = a.sender_input; mode = a.mode; room = a.room; receiver_output = a.receiver_output; receiver_state = a.receiver_state; receiver_mode = a.receiver_mode };
      whole = k.whole;
      turn = k.turn;
      named = k.named;
      short = k.short;
    })

-- ---- a send

short-append : (xs ys : List Part) → AllByRecursion IsShort xs → AllByRecursion IsShort ys → AllByRecursion IsShort (xs ++ ys)
short-append [] ys a b = b
short-append (x ∷ xs) ys a b = (a.0, short-append xs ys a.1 b)

held_begun : (h : Option Held) → is_some (option_map part_of h) ≡ is_some h
held_begun None = refl
held_begun (Some held) = refl

-- the list is longer by what is put at the end, where that begins anew
way-append : (held : Option Held) (forward frames : List LinkFrame) → AreComplete (is_some held) forward → deliveries (option_map part_of held) (forward ++ frames) ≡ deliveries (option_map part_of held) forward ++ deliveries None frames
way-append held forward frames w = deliveries-append (option_map part_of held) forward frames (subst (λ b. AreComplete b forward) (sym (held_begun held)) w)

module _ (old : CreditWorld) (k : IsCreditWorld old) (payload : List ℕ) (settled : Bool) (frames : List LinkFrame) (credited : 0 < old.sender.flow_state.link_credit)
    (framed : IsSent old.sender (run_transfer settled (next_tag old.sender)) payload frames) where
  abbrev sent_world : CreditWorld
  sent_world = record old { sender = sender_after_send settled old.sender payload; forward = old.forward ++ frames }

  ones : IsOne false frames × (deliveries None frames ≡ (next_tag old.sender, payload) ∷ [])
  ones = one_sent old.sender (record { 0 = 0 }) (run_transfer settled (next_tag old.sender)) payload frames k.attached.sender_input refl refl (record { tag = refl; mode = refl }) framed

  pub sent_under_way : under_way sent_world ≡ under_way old ++ (next_tag old.sender, payload) ∷ []
  sent_under_way = way-append old.held old.forward frames k.whole ∙ ap (λ ds. under_way old ++ ds) ones.1

  pub IsCreditWorld-sent : length payload < 2 ^ 32 → IsCreditWorld sent_world
  IsCreditWorld-sent short =
      let a = k.attached in
      record {
        credit = credit_sent old.sender.flow_state old.receiver.flow_state old.forward old.back old.stated k.credit frames credited
            (one-leads old.receiver.flow_state.delivery_count (sdiff old.sender.flow_state.delivery_count old.receiver.flow_state.delivery_count) false frames ones.0);
        attached = record { sender_output = a.sender_output; sender_input = a.sender_input; mode = a.mode; room = a.room; receiver_output = a.receiver_output; receiver_state = a.receiver_state; receiver_mode = a.receiver_mode };
        whole = whole-append (is_some old.held) old.forward frames k.whole (one-whole false frames ones.0);
        turn = k.turn;
        named = k.named;
        short = subst (AllByRecursion IsShort) (sym sent_under_way) (short-append (under_way old) ((next_tag old.sender, payload) ∷ []) k.short (short, tt));
      }

  -- what the link's send gives is a send of the run
  pub sends : (new : CreditWorld) (count : ℕ) → IsFitting (run_transfer settled (next_tag old.sender)) old.sender.max_frame_size payload frames → count ≡ length frames → new ≡ sent_world
      → SendsDelivery old payload settled (next_tag old.sender) count new
  sends new count fits counted e = record {
    frames = frames;
    credited = credited;
    tagged = refl;
    framed = framed;
    fits = fits;
    counted = counted;
    world = e;
    added = ap under_way e ∙ sent_under_way;
  }

pub IsCreditWorld-sends : (old new : CreditWorld) (payload : List ℕ) (settled : Bool) (tag : Tag) (count : ℕ) → IsCreditWorld old → length payload < 2 ^ 32 → SendsDelivery old payload settled tag count new → IsCreditWorld new
IsCreditWorld-sends old new payload settled tag count k short s =
    subst IsCreditWorld (sym s.world) (IsCreditWorld-sent old k payload settled s.frames s.credited (subst (λ t. IsSent old.sender (run_transfer settled t) payload s.frames) s.tagged s.framed) short)

-- ---- a frame comes to the receiver

-- endpoints stay attached as the receiver notes whether more is to come
still_attached : (s : Sender Target) (r : Receiver Target) (more : Bool) → AreAttached s r → AreAttached s (record r { more = more })
still_attached s r more a =
    record { sender_output = a.sender_output; sender_input = a.sender_input; mode = a.mode; room = a.room; receiver_output = a.receiver_output; receiver_state = a.receiver_state; receiver_mode = a.receiver_mode }

-- a transfer begins a delivery exactly if none is begun
begins_if_none : (begun : Bool) (f : LinkFrame) → FollowsOn begun f → does_begin f ≡ not begun
begins_if_none false (FirstTransfer x) n = refl
begins_if_none true (TransferContinuation x) n = refl
begins_if_none false _ n = absurd n
begins_if_none true _ n = absurd n

pub next_of : (begun : Bool) (f : LinkFrame) (rest : List LinkFrame) (more : Bool) → AreComplete begun (f ∷ rest) → IsTransfer f more → FollowsOn begun f × ((performative_of f).more ≡ more) × AreComplete more rest
next_of begun (FirstTransfer x) rest more w t = (w.0, t, subst (λ b. AreComplete b rest) t w.1)
next_of begun (TransferContinuation x) rest more w t = (w.0, t, subst (λ b. AreComplete b rest) t w.1)
next_of begun (RemoteTransfer x) rest more w t = (w.0, t, subst (λ b. AreComplete b rest) t w.1)
next_of begun _ rest more w t = absurd t

module _ (old : CreditWorld) (k : IsCreditWorld old) (f : LinkFrame) (rest : List LinkFrame) (taken : old.forward ≡ f ∷ rest) where
  abbrev part : Option Part
  part = option_map part_of old.held

  abbrev s : LinkFlowStateInner
  s = old.sender.flow_state

  abbrev r : LinkFlowStateInner
  r = old.receiver.flow_state

  credit_here : IsCredit s r (f ∷ rest) old.back old.stated
  credit_here = subst (λ frames. IsCredit s r frames old.back old.stated) taken k.credit

  pub whole_here : AreComplete (is_some old.held) (f ∷ rest)
  whole_here = subst (AreComplete (is_some old.held)) taken k.whole

  under_way_here : under_way old ≡ deliveries part (f ∷ rest)
  under_way_here = ap (deliveries part) taken

  pub short_here : AllByRecursion IsShort (deliveries part (f ∷ rest))
  short_here = subst (AllByRecursion IsShort) under_way_here k.short

  -- the receiver knows whether it begins a delivery
  pub run_turn : (more : Bool) → IsTransfer f more → does_begin f ≡ not old.receiver.more
  run_turn more t = begins_if_none (is_some old.held) f (next_of (is_some old.held) f rest more whole_here t).0 ∙ ap not (sym k.turn)

  -- a transfer after which more follow
  abbrev continued : ℕ → CreditWorld
  continued id = record old { receiver = record old.receiver { more = true }; held = Some (held_after old.held id f); forward = rest }

  continued_under_way : (id : ℕ) → IsTransfer f true → under_way (continued id) ≡ under_way old
  continued_under_way id t =
      let n = next_of (is_some old.held) f rest true whole_here t in
      ap (λ p. deliveries (Some p) rest) (part-received old.held id f)
      ∙ sym (under_way_here ∙ deliveries-next part (is_some old.held) f rest n.0 ∙ ap (λ more. cond more (deliveries (Some (with_piece part f)) rest) (with_piece part f ∷ deliveries None rest)) n.1)

  pub pieces : (id : ℕ) (new : CreditWorld) → IsTransfer f true → new ≡ continued id → TakesPiece old id new × IsCreditWorld new
  pieces id new t e =
      let n = next_of (is_some old.held) f rest true whole_here t in (
        record { piece = f; rest = rest; taken = taken; goes_on = t; world = e; same = ap under_way e ∙ continued_under_way id t },
        subst IsCreditWorld (sym e) (record {
          credit = credit_continued s r f rest old.back old.stated (is_some old.held) credit_here n.0 n.1;
          attached = still_attached old.sender old.receiver true k.attached;
          whole = n.2;
          turn = refl;
          named = named-received old.held id f k.named n.0;
          short = subst (AllByRecursion IsShort) (sym (continued_under_way id t)) k.short;
        }),
      )

  -- the last transfer of a delivery
  abbrev completed : ℕ → CreditWorld
  completed id =
      let held = held_after old.held id f in
      let place = position (held_bytes held) in
      record old { receiver = record (entered held.performative place.0 place.1 old.receiver) { more = false }; held = None; forward = rest }

  completed_under_way : (id : ℕ) → IsTransfer f false → under_way old ≡ part_of (held_after old.held id f) ∷ under_way (completed id)
  completed_under_way id t =
      let n = next_of (is_some old.held) f rest false whole_here t in
      under_way_here ∙ deliveries-next part (is_some old.held) f rest n.0 ∙ ap (λ more. cond more (deliveries (Some (with_piece part f)) rest) (with_piece part f ∷ deliveries None rest)) n.1
      ∙ ap (λ p. p ∷ deliveries None rest) (sym (part-received old.held id f))

entered_flow : (o : Option Tag) (n off : ℕ) (r : Receiver Target) → (spent (reported o n off r)).flow_state ≡ after_consuming 1 r.flow_state
entered_flow None n off r = refl
entered_flow (Some tag) n off r = refl

entered_attached : (o : Option Tag) (n off : ℕ) (s : Sender Target) (r : Receiver Target) → AreAttached s r → AreAttached s (spent (reported o n off r))
entered_attached None n off s r a =
    record { sender_output = a.sender_output; sender_input = a.sender_input; mode = a.mode; room = a.room; receiver_output = a.receiver_output; receiver_state = a.receiver_state; receiver_mode = a.receiver_mode }
entered_attached (Some tag) n off s r a =
    record { sender_output = a.sender_output; sender_input = a.sender_input; mode = a.mode; room = a.room; receiver_output = a.receiver_output; receiver_state = a.receiver_state; receiver_mode = a.receiver_mode }

module _ (old : CreditWorld) (k : IsCreditWorld old) (f : LinkFrame) (rest : List LinkFrame) (taken : old.forward ≡ f ∷ rest) where
  -- the receiver has credit for a complete delivery
  pub run_covers : IsTransfer f false → 0 < old.receiver.flow_state.link_credit
  run_covers t =
      let n = next_of (is_some old.held) f rest false (whole_here old k f rest taken) t in
      credit_covers old.sender.flow_state old.receiver.flow_state f rest old.back old.stated (is_some old.held) (credit_here old k f rest taken) n.0 n.1

  pub completes : (id : ℕ) (answer : Delivered Whole) (new : CreditWorld) → IsTransfer f false → answer ≡ complete_delivery (held_after old.held id f) → new ≡ completed old k f rest taken id → Completes old id answer new × IsCreditWorld new
  completes id answer new t is e =
      let held = held_after old.held id f in
      let place = position (held_bytes held) in
      let c = credit_here old k f rest taken in
      let n = next_of (is_some old.held) f rest false (whole_here old k f rest taken) t in
      let first = completed_under_way old k f rest taken id t in
      let shorts : AllByRecursion IsShort (part_of held ∷ under_way (completed old k f rest taken id)) = subst (AllByRecursion IsShort) first k.short in (
        record {
          last = f;
          rest = rest;
          taken = taken;
          ends = t;
          covered = run_covers t;
          answered = is;
          world = e;
          first = first ∙ ap (λ (d : Delivered Whole). (d.info.delivery_tag, d.message.body.0) ∷ under_way (completed old k f rest taken id)) (sym is)
              ∙ ap (λ w. (answer.info.delivery_tag, answer.message.body.0) ∷ under_way w) (sym e);
        },
        subst IsCreditWorld (sym e) (record {
          credit = subst (λ flow. IsCredit old.sender.flow_state flow rest old.back old.stated) (sym (entered_flow (unsettled_tag held.performative) place.0 place.1 old.receiver))
              (credit_completed old.sender.flow_state old.receiver.flow_state f rest old.back old.stated (is_some old.held) c n.0 n.1);
          attached = still_attached old.sender (entered held.performative place.0 place.1 old.receiver) false
              (entered_attached (unsettled_tag held.performative) place.0 place.1 old.sender old.receiver k.attached);
          whole = n.2;
          turn = refl;
          named = tt;
          short = shorts.1;
        }),
      )

pub IsCreditWorld-pieces : (old new : CreditWorld) (id : ℕ) → IsCreditWorld old → TakesPiece old id new → IsCreditWorld new
IsCreditWorld-pieces old new id k p = (pieces old k p.piece p.rest p.taken id new p.goes_on p.world).1

pub IsCreditWorld-completes : (old new : CreditWorld) (id : ℕ) (answer : Delivered Whole) → IsCreditWorld old → Completes old id answer new → IsCreditWorld new
IsCreditWorld-completes old new id answer k c = (completes old k c.last c.rest c.taken id answer new c.ends c.answered c.world).1

-- a flow of the sender
pub flows : (old new : CreditWorld) (flow : LinkFlow) (rest : List LinkFrame) → IsCreditWorld old → old.forward ≡ Flow flow ∷ rest
    → new ≡ record old { receiver = record old.receiver { flow_state = receiver_after flow old.receiver.flow_state }; forward = rest }
    → TakesFlow old new × IsCreditWorld new
flows old new flow rest k taken e =
    let whole : AreComplete (is_some old.held) (Flow flow ∷ rest) = subst (AreComplete (is_some old.held)) taken k.whole in
    let way : under_way old ≡ deliveries (option_map part_of old.held) rest = ap (deliveries (option_map part_of old.held)) taken in
    let a = k.attached in (
      record { flow = flow; rest = rest; taken = taken; world = e; same = ap under_way e ∙ sym way },
      subst IsCreditWorld (sym e) (record {
        credit = credit_reported old.sender.flow_state old.receiver.flow_state flow rest old.back old.stated
            (subst (λ frames. IsCredit old.sender.flow_state old.receiver.flow_state frames old.back old.stated) taken k.credit) whole.0;
        attached = record { sender_output = a.sender_output; sender_input = a.sender_input; mode = a.mode; room = a.room; receiver_output = a.receiver_output; receiver_state = a.receiver_state; receiver_mode = a.receiver_mode };
        whole = whole.1;
        turn = k.turn;
        named = k.named;
        short = subst (AllByRecursion IsShort) way k.short;
      }),
    )

pub IsCreditWorld-flows : (old new : CreditWorld) → IsCreditWorld old → TakesFlow old new → IsCreditWorld new
IsCreditWorld-flows old new k t = (flows old new t.flow t.rest k t.taken t.world).1

-- ---- a flow comes to the sender

-- a reply is one more frame, and no delivery
reply_whole : (o : Option LinkFlow) → IfSome o IsReply → AreComplete false (reply_frames o)
reply_whole None h = refl
reply_whole (Some flow) h = (h, refl)

reply_none : (o : Option LinkFlow) → deliveries None (reply_frames o) ≡ []
reply_none None = refl
reply_none (Some flow) = refl

sender_replies : (own : LinkFlowStateInner) → own.delivery_count < 2 ^ 32 → (drain echo : Bool) (flow : LinkFlow) → IsReply flow → IfSome (cond (drain || echo) (Some flow) None) IsReply
sender_replies own small true echo flow h = h
sender_replies own small false true flow h = h
sender_replies own small false false flow h = tt

pub backs : (old new : CreditWorld) (flow : LinkFlow) (rest : List LinkFlow) (replied : Bool) → IsCreditWorld old → old.back ≡ flow ∷ rest → replied ≡ (flow.drain || flow.echo)
    → new ≡ record old {
      sender = record old.sender { flow_state = sender_after flow old.sender.flow_state };
      forward = old.forward ++ reply_frames (sender_reply flow old.sender.flow_state zero_output);
      back = rest;
    }
    → TakesBack old replied new × IsCreditWorld new
backs old new flow rest replied k taken is e =
    let s = old.sender.flow_state in
    let r = old.receiver.flow_state in
    let reply = sender_reply flow s zero_output in
    let a = k.attached in
    let c : IsCredit (sender_after flow s) r (old.forward ++ reply_frames reply) rest old.stated =
    credit_answered s r old.forward flow rest old.stated zero_output (subst (λ flows. IsCredit s r old.forward flows old.stated) taken k.credit) in
    let replies : IfSome reply IsReply = sender_replies (sender_after flow s) c.sender_count flow.drain flow.echo _ (record { counted = c.sender_count; echo = refl }) in
    let way : deliveries (option_map part_of old.held) (old.forward ++ reply_frames reply) ≡ under_way old =
    way-append old.held old.forward (reply_frames reply) k.whole ∙ ap (λ ds. under_way old ++ ds) (reply_none reply) ∙ append-nil (under_way old) in (
      record { flow = flow; rest = rest; taken = taken; answered = is; world = e; same = ap under_way e ∙ way },
      subst IsCreditWorld (sym e) (record {
        credit = c;
        attached = record { sender_output = a.sender_output; sender_input = a.sender_input; mode = a.mode; room = a.room; receiver_output = a.receiver_output; receiver_state = a.receiver_state; receiver_mode = a.receiver_mode };
        whole = whole-append (is_some old.held) old.forward (reply_frames reply) k.whole (reply_whole reply replies);
        turn = k.turn;
        named = k.named;
        short = subst (AllByRecursion IsShort) (sym way) k.short;
      }),
    )

pub IsCreditWorld-backs : (old new : CreditWorld) (replied : Bool) → IsCreditWorld old → TakesBack old replied new → IsCreditWorld new
IsCreditWorld-backs old new replied k t = (backs old new t.flow t.rest replied k t.taken t.answered t.world).1
