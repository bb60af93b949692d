-- The endpoints of a pair as an attach goes on: each step stops at a world from which it goes on.
use Rattle.std.proofs.Common.{◌≡◌, ◌∙◌, sym, ap, subst, ℕ, true, false, refl, Some, None, Result, Ok, Err, IfOk, OnErr, inl, inr, ◌⊎◌, ◌==◌, length, arith}
use Rattle.std.specs.Prelude.{Option}
use Rattle.std.proofs.lemmas.Bool.Decides.{nat_tests}
use Rattle.amqp_link_types.specs.declared.types.attach.Attach.{Attach}
use Rattle.amqp_link_types.specs.declared.types.definitions.OutputHandle.{OutputHandle}
use Rattle.amqp_link_types.specs.declared.types.terminus.Target.{Target}
use Rattle.amqp_link_types.specs.declared.types.terminus.TargetArchetype.TheVariants as archetype
use Rattle.amqp_link_types.specs.Entries.{Entries}
use Rattle.amqp_link_state.specs.declared.state.LinkState.{LinkState}
use Rattle.amqp_link_state.specs.declared.state.LinkState.TheVariants as state
use Rattle.amqp_link_endpoint.specs.AttachFields.{remote_entries}
use Rattle.amqp_link_endpoint.specs.Attaching.{with_entries}
use Rattle.amqp_link_endpoint.specs.LinkStates.{Call, next_state}
use Rattle.amqp_link_endpoint.specs.Shown.{attach_stated}
use Rattle.amqp_link_endpoint.specs.Targets.{plain_target}
use Rattle.amqp_link_core.specs.declared.resumption.ResumingDelivery.{ResumingDelivery}
use Rattle.amqp_link_exchange.specs.Exchanges.{deliveries_to_resume, outcomes_returned}
use Rattle.amqp_link_ledger.specs.Exchanging.{ledger_taken}
use Rattle.amqp_link_ledger.specs.Fates.{HandsOut, Resolves, after}
use Rattle.amqp_link_ledger.specs.Ledgers.{Ledger}
use Rattle.amqp_link_receiver.specs.ReceiverAttaches.{receiver_shown, receiver_taken}
use Rattle.amqp_link_receiver.specs.Receivers.{Receiver}
use Rattle.amqp_link_verification.specs.Termini.{sender_refuses_target}
use Rattle.amqp_link_sender.specs.SenderAttaches.{sender_refusal, sender_taken, exchange_in}
use Rattle.amqp_link_sender.specs.declared.sender_link.incoming.SenderAttachExchange.{SenderAttachExchange}
use Rattle.amqp_link_worlds.specs.Attachable.{CanAttach, CanAsk, CanAnswer, CanTakeAnswered, attach_asked, attach_answered, list_in}
use Rattle.amqp_link_worlds.specs.Invariants.{AreEnds, AreApart}
use Rattle.amqp_link_worlds.specs.Steps.{zero_output, sender_asking, receiver_at_limit, receiver_half_attached, sender_together, ledger_together, list_to_resume, attach_tests, later, is_halfway_at_other, AttachStop, Asked, Taken, Answered, StopsAt}
use Rattle.amqp_link_worlds.specs.Worlds.{World, Halfway, Together}
use Rattle.amqp_link_worlds.proofs.AttachSteps.{world_can_ask, world_can_take_asked, world_can_answer, world_can_take_answered, asking_stays, asked_stays, taken_stays, together_stays, may_go_on, stops_on, attaches_on}
use Rattle.amqp_link_worlds.proofs.WorldLemmas.{IsWorld-stops, none_hold, not_is_false}
use Rattle.amqp_link_pair.specs.Endpoints.{IsAttached, IsEnds, HasStopped, MayAttach, IsOnWayAt, phase_of, with_ends}
use Rattle.amqp_link_pair.specs.Queues.{ListAndRoom}
use Rattle.amqp_link_pair.specs.declared.ends.Ends.{Ends}
use Rattle.amqp_link_pair.specs.declared.ends.Stage.{Stage}
use Rattle.amqp_link_pair.specs.declared.ends.Stage.TheVariants as stage
use Rattle.amqp_link_pair.proofs.AttachLemmas.{some_is}

-- ---- results

-- what follows of an answer
pub on_ok : {A E : Type 0} (r : Result A E) (P Q : A → Type 0) → ((a : A) → P a → Q a) → IfOk r P → IfOk r Q
on_ok (Ok a) P Q f h = f a h
on_ok (Err e) P Q f h = h

-- what follows of a refusal
pub on_err : {A E : Type 0} (r : Result A E) (P Q : Type 0) → (P → Q) → OnErr r P → OnErr r Q
on_err (Ok a) P Q f h = h
on_err (Err e) P Q f h = f h

-- ---- the frame limit on the way

-- equal by the test
same_number : (a b : ℕ) → (a == b) ≡ true → b ≡ a
same_number a b h = grind (arith, nat_tests)

-- no test of another limit holds
halfway_limit : (limit begun : ℕ) → is_halfway_at_other limit (Halfway begun) ≡ false → begun ≡ limit
halfway_limit limit begun h = same_number limit begun (not_is_false (limit == begun) h)

-- endpoints on the way are attached at their own limit
pub own_limit : (limit : ℕ) (w : World) (e : Ends) → phase_of e.stage e.limit ≡ Halfway e.limit → MayAttach limit w e → e.limit ≡ limit
own_limit limit w e is m =
    halfway_limit limit e.limit (ap (is_halfway_at_other limit) (sym is) ∙ (none_hold (attach_tests (with_ends w e) limit) m.allowed).1.0)

-- and the phase is at this limit
at_limit : (limit : ℕ) (w : World) (e : Ends) → phase_of e.stage e.limit ≡ Halfway e.limit → MayAttach limit w e → phase_of e.stage e.limit ≡ Halfway limit
at_limit limit w e is m = is ∙ ap Halfway (own_limit limit w e is m)

-- ---- one step, and those after it

-- a step has brought the endpoints to where an attach may stop, and from there it goes on
pub record Goes (limit : ℕ) (w : World) (old mid : Ends) : Type 0 where
  pub stop : AttachStop
  pub stops : StopsAt stop (with_ends w old) limit (with_ends w mid)
  pub ends : IsEnds mid

-- from there no test refuses the attach
pub goes_on : (limit : ℕ) (w : World) (old mid : Ends) → MayAttach limit w old → Goes limit w old mid → MayAttach limit w mid
goes_on limit w old mid m g = record {
  world = IsWorld-stops g.stop (with_ends w old) (with_ends w mid) limit m.world g.stops;
  ends = g.ends;
  allowed = may_go_on g.stop (with_ends w old) (with_ends w mid) limit m.world g.stops;
}

-- what the rest of the attach leaves is left by the whole
pub left_on : (limit : ℕ) (w : World) (old mid new : Ends) → Goes limit w old mid → HasStopped limit w mid new → HasStopped limit w old new
left_on limit w old mid new g l = record {
  ends = l.ends;
  stays = elim (l.stays) as (λ _. (new ≡ old) ⊎ ((stop : AttachStop) × StopsAt stop (with_ends w old) limit (with_ends w new))) [
    | inl same ↦ inr (g.stop, subst (λ (e : Ends). StopsAt g.stop (with_ends w old) limit (with_ends w e)) (sym same) g.stops)
    | inr next ↦ inr (later g.stop next.0, stops_on g.stop next.0 (with_ends w old) (with_ends w mid) (with_ends w new) limit g.stops next.1)
  ];
}

-- and what it attaches is attached by the whole
pub attached_on : (limit : ℕ) (w : World) (old mid new : Ends) (list : Entries ResumingDelivery) → Goes limit w old mid → IsAttached limit w mid list new → IsAttached limit w old list new
attached_on limit w old mid new list g a = record {
  ends = a.ends;
  attaches = attaches_on g.stop (with_ends w old) (with_ends w mid) (record (with_ends w new) { resuming = list }) limit (length list) g.stops a.attaches;
}

-- ---- the sender sends its attach

-- the phase at this stage
phase_at : (e : Ends) (at : Stage) → e.stage ≡ at → phase_of e.stage e.limit ≡ phase_of at e.limit
phase_at e at is = ap (λ at. phase_of at e.limit) is

-- an endpoint that has sent no attach is not attached
not_attached : (st : LinkState) → (st ≡ state.Unattached) ⊎ (st ≡ state.Detached) → st ≡ state.Attached → ⊥
not_attached st which is = elim which as (λ _. ⊥) [
  | inl made ↦ cc
  | inr detached ↦ cc
]

-- endpoints apart can ask
pub apart_asks : (limit : ℕ) (w : World) (e : Ends) → e.stage ≡ stage.Apart → MayAttach limit w e → CanAsk limit e.ledger.link
apart_asks limit w e at m = world_can_ask (with_ends w e) limit m.world (phase_at e stage.Apart at) m.allowed

-- the endpoints are apart, and the receiver has taken no attach
apart_ends : (limit : ℕ) (w : World) (e : Ends) → e.stage ≡ stage.Apart → MayAttach limit w e → AreApart e.ledger.link e.receiver
apart_ends limit w e at m = subst (λ phase. AreEnds phase e.ledger.link e.receiver) (phase_at e stage.Apart at) m.world.ends

receiver_apart : (limit : ℕ) (w : World) (e : Ends) → e.stage ≡ stage.Apart → MayAttach limit w e → (e.receiver.local_state ≡ state.Unattached) ⊎ (e.receiver.local_state ≡ state.Detached)
receiver_apart limit w e at m =
    let apart = apart_ends limit w e at m in
    elim (apart.state) as (λ _. (e.receiver.local_state ≡ state.Unattached) ⊎ (e.receiver.local_state ≡ state.Detached)) [
      | inl made ↦ inl (apart.alike ∙ made)
      | inr detached ↦ inr (apart.alike ∙ detached)
    ]

-- the endpoints once the sender has asked
abbrev pub ends_asked : ℕ → Ends → Ends
ends_asked limit e = record {
  stage = stage.Asked;
  limit = limit;
  attach = Some (attach_asked e.ledger.link);
  ledger = record e.ledger { link = sender_asking limit e.ledger.link };
  receiver = receiver_at_limit limit e.receiver;
}

-- which is a step
pub asking_goes : (limit : ℕ) (w : World) (e : Ends) → e.stage ≡ stage.Apart → MayAttach limit w e → Goes limit w e (ends_asked limit e)
asking_goes limit w e at m = record {
  stop = Asked;
  stops = record {
    may = m.allowed;
    onward = λ is. absurd (not_attached e.receiver.local_state (receiver_apart limit w e at m) is);
    world = refl;
  };
  ends = record { limit = refl; on_way = (refl, receiver_apart limit w e at m) };
}

-- ---- the receiver takes it

-- what is kept at this stage
on_way_at : (e : Ends) (at : Stage) → e.stage ≡ at → IsEnds e → IsOnWayAt at e
on_way_at e at is k = subst (λ at. IsOnWayAt at e) is k.on_way

-- the endpoints once the receiver has taken it
abbrev pub ends_taken : Ends → Ends
ends_taken e = record {
  stage = stage.Taken;
  limit = e.limit;
  attach = None;
  ledger = e.ledger;
  receiver = receiver_taken e.receiver (attach_asked e.ledger.link);
}

module _ (limit : ℕ) (w : World) (e : Ends) (at : e.stage ≡ stage.Asked) (m : MayAttach limit w e) where
  asked_phase : phase_of e.stage e.limit ≡ Halfway limit
  asked_phase = at_limit limit w e (phase_at e stage.Asked at) m

  asked_way : IsOnWayAt stage.Asked e
  asked_way = on_way_at e stage.Asked at m.ends

  -- the receiver is half attached then
  takes_asked : receiver_taken e.receiver (attach_asked e.ledger.link) ≡ receiver_half_attached limit e.ledger.link.flow_state.delivery_count e.receiver
  takes_asked =
      ap (λ r. receiver_taken r (attach_asked e.ledger.link)) (sym (asked_stays (with_ends w e) limit m.world asked_phase))
      ∙ (world_can_take_asked (with_ends w e) limit m.world asked_way.1).after

  -- which is a step
  pub taking_goes : Goes limit w e (ends_taken e)
  taking_goes = record {
    stop = Taken;
    stops = record {
      may = m.allowed;
      onward = λ is. absurd (not_attached e.receiver.local_state asked_way.1 is);
      world = λ i. record w {
        phase = Halfway (own_limit limit w e (phase_at e stage.Asked at) m i);
        ledger = record e.ledger { link = sym (asking_stays (with_ends w e) limit m.world asked_phase) i };
        receiver = takes_asked i;
      };
    };
    ends = record { limit = m.ends.limit; on_way = ap (λ (r : Receiver Target). r.local_state) takes_asked };
  }

-- ---- the receiver sends its attach

-- the endpoints once the receiver has answered
abbrev pub ends_answered : Ends → Ends
ends_answered e = record {
  stage = stage.Answered;
  limit = e.limit;
  attach = Some (attach_answered e.receiver e.ledger.link.flow_state.delivery_count);
  ledger = e.ledger;
  receiver = record e.receiver { local_state = state.Attached };
}

module _ (limit : ℕ) (w : World) (e : Ends) (at : e.stage ≡ stage.Taken) (m : MayAttach limit w e) where
  taken_phase : phase_of e.stage e.limit ≡ Halfway limit
  taken_phase = at_limit limit w e (phase_at e stage.Taken at) m

  received : e.receiver.local_state ≡ state.AttachReceived
  received = on_way_at e stage.Taken at m.ends

  -- it is half attached already
  half : receiver_half_attached limit e.ledger.link.flow_state.delivery_count e.receiver ≡ e.receiver
  half = taken_stays (with_ends w e) limit m.world taken_phase received

  answers : CanAnswer limit e.ledger.link.flow_state.delivery_count e.receiver
  answers = world_can_answer (with_ends w e) limit m.world m.allowed

  -- it can send its attach
  pub can_answer : CanAttach (receiver_shown archetype.Target e.receiver)
  can_answer = subst (λ (r : Receiver Target). CanAttach (receiver_shown archetype.Target r)) half answers.can

  -- it is at handle 0
  pub answer_handle : e.receiver.output_handle ≡ Some zero_output
  answer_handle = sym (ap (λ (r : Receiver Target). r.output_handle) half)

  -- what it states
  pub answer_stated : with_entries (attach_stated (receiver_shown archetype.Target e.receiver) zero_output) e.receiver.unsettled 0 ≡ attach_answered e.receiver e.ledger.link.flow_state.delivery_count
  answer_stated =
      ap (λ (r : Receiver Target). with_entries (attach_stated (receiver_shown archetype.Target r) zero_output) e.receiver.unsettled 0) (sym half) ∙ answers.stated

  -- and the step that it takes
  pub answer_step : next_state Call.SendAttach false e.receiver.local_state ≡ Some state.Attached
  answer_step = ap (next_state Call.SendAttach false) received

  -- which is a step
  pub answering_goes : Goes limit w e (ends_answered e)
  answering_goes = record {
    stop = Answered;
    stops = record {
      may = m.allowed;
      onward = λ is. refl;
      world = λ i. record w {
        phase = Halfway (own_limit limit w e (phase_at e stage.Taken at) m i);
        ledger = record e.ledger { link = sym (asking_stays (with_ends w e) limit m.world taken_phase) i };
        receiver = record (sym half i) { local_state = state.Attached };
      };
    };
    ends = record { limit = m.ends.limit; on_way = (refl, refl) };
  }

-- ---- after a step

-- the answer of an attach from where a step has brought the endpoints is that from where they were
pub done_on : {E : Type 0} (r : Result ListAndRoom E) (limit : ℕ) (w : World) (old mid new : Ends) → MayAttach limit w old → Goes limit w old mid
    → (MayAttach limit w mid → IfOk r (λ resuming. IsAttached limit w mid resuming.list new)) → IfOk r (λ resuming. IsAttached limit w old resuming.list new)
done_on r limit w old mid new m g done =
    on_ok r (λ resuming. IsAttached limit w mid resuming.list new) (λ resuming. IsAttached limit w old resuming.list new)
    (λ resuming a. attached_on limit w old mid new resuming.list g a) (done (goes_on limit w old mid m g))

-- and so is what it leaves
pub refused_on : {A E : Type 0} (r : Result A E) (limit : ℕ) (w : World) (old mid new : Ends) → MayAttach limit w old → Goes limit w old mid
    → (MayAttach limit w mid → OnErr r (HasStopped limit w mid new)) → OnErr r (HasStopped limit w old new)
refused_on r limit w old mid new m g left =
    on_err r (HasStopped limit w mid new) (HasStopped limit w old new) (left_on limit w old mid new g) (left (goes_on limit w old mid m g))

-- endpoints by their parts
abbrev pub mk : Stage → ℕ → Option Attach → Ledger Target → Receiver Target → Ends
mk at limit attach l r = record { stage = at; limit = limit; attach = attach; ledger = l; receiver = r }

ends_are : (at : Stage) (limit : ℕ) (a b : Option Attach) (l m : Ledger Target) (r q : Receiver Target) → a ≡ b → l ≡ m → r ≡ q → mk at limit a l r ≡ mk at limit b m q
ends_are at limit a b l m r q e f g = λ i. mk at limit (e i) (f i) (g i)

-- the sender has asked
pub asked_by : (limit : ℕ) (w : World) (e : Ends) (attach : Attach) (place : Option Attach) (l : Ledger Target) (r : Receiver Target)
    → e.stage ≡ stage.Apart → place ≡ Some attach → attach ≡ attach_asked e.ledger.link
    → l ≡ record e.ledger { link = sender_asking limit e.ledger.link } → r ≡ receiver_at_limit limit e.receiver
    → MayAttach limit w e → Goes limit w e (mk stage.Asked limit place l r)
asked_by limit w e attach place l r at place_is attach_is l_is r_is m =
    subst (Goes limit w e)
    (sym (ends_are stage.Asked limit place (Some (attach_asked e.ledger.link)) l (record e.ledger { link = sender_asking limit e.ledger.link }) r (receiver_at_limit limit e.receiver) (place_is ∙ ap Some attach_is) l_is r_is))
    (asking_goes limit w e at m)

-- the receiver has taken it
pub taken_by : (limit : ℕ) (w : World) (e : Ends) (attach : Attach) (place : Option Attach) (r : Receiver Target)
    → e.stage ≡ stage.Asked → e.attach ≡ Some attach → place ≡ None → r ≡ receiver_taken e.receiver attach
    → MayAttach limit w e → Goes limit w e (mk stage.Taken e.limit place e.ledger r)
taken_by limit w e attach place r at kept place_is r_is m =
    let attach_is : attach ≡ attach_asked e.ledger.link = some_is (sym kept ∙ (asked_way limit w e at m).0) in
    subst (Goes limit w e)
    (sym (ends_are stage.Taken e.limit place None e.ledger e.ledger r (receiver_taken e.receiver (attach_asked e.ledger.link)) place_is refl (r_is ∙ ap (receiver_taken e.receiver) attach_is)))
    (taking_goes limit w e at m)

-- the receiver has answered
pub answered_by : (limit : ℕ) (w : World) (e : Ends) (attach : Attach) (place : Option Attach) (r : Receiver Target)
    → e.stage ≡ stage.Taken → place ≡ Some attach
    → ((number : OutputHandle) → e.receiver.output_handle ≡ Some number → attach ≡ with_entries (attach_stated (receiver_shown archetype.Target e.receiver) number) e.receiver.unsettled 0)
    → ((next : LinkState) → next_state Call.SendAttach false e.receiver.local_state ≡ Some next → r ≡ record e.receiver { local_state = next })
    → MayAttach limit w e → Goes limit w e (mk stage.Answered e.limit place e.ledger r)
answered_by limit w e attach place r at place_is sent moved m =
    let attach_is : attach ≡ attach_answered e.receiver e.ledger.link.flow_state.delivery_count = sent zero_output (answer_handle limit w e at m) ∙ answer_stated limit w e at m in
    subst (Goes limit w e)
    (sym (ends_are stage.Answered e.limit place (Some (attach_answered e.receiver e.ledger.link.flow_state.delivery_count)) e.ledger e.ledger r (record e.receiver { local_state = state.Attached }) (place_is ∙ ap Some attach_is) refl (moved state.Attached (answer_step limit w e at m))))
    (answering_goes limit w e at m)

-- ---- the sender takes it

module _ (limit : ℕ) (w : World) (e : Ends) (at : e.stage ≡ stage.Answered) (m : MayAttach limit w e) (attach : Attach) (kept : e.attach ≡ Some attach) where
  answered_phase : phase_of e.stage e.limit ≡ Halfway limit
  answered_phase = at_limit limit w e (phase_at e stage.Answered at) m

  answered_way : IsOnWayAt stage.Answered e
  answered_way = on_way_at e stage.Answered at m.ends

  -- it is the receiver's
  answer_is : attach ≡ attach_answered e.receiver e.ledger.link.flow_state.delivery_count
  answer_is = some_is (sym kept ∙ answered_way.0)

  asking : sender_asking limit e.ledger.link ≡ e.ledger.link
  asking = asking_stays (with_ends w e) limit m.world answered_phase

  takes : CanTakeAnswered limit e.ledger.link.flow_state.delivery_count e.ledger.link e.receiver
  takes = world_can_take_answered (with_ends w e) limit m.world

  -- no test of the sender refuses it
  pub answer_allowed : sender_refusal plain_target (λ own theirs. sender_refuses_target theirs) e.ledger.link attach ≡ None
  answer_allowed =
      ap (sender_refusal plain_target (λ own theirs. sender_refuses_target theirs) e.ledger.link) answer_is
      ∙ ap (λ s. sender_refusal plain_target (λ own theirs. sender_refuses_target theirs) s (attach_answered e.receiver e.ledger.link.flow_state.delivery_count)) (sym asking)
      ∙ takes.allowed

  -- the sender and its ledger then
  link_then : sender_taken plain_target e.ledger.link (attach_answered e.receiver e.ledger.link.flow_state.delivery_count) ≡ sender_together limit e.ledger.link
  link_then = ap (λ s. sender_taken plain_target s (attach_answered e.receiver e.ledger.link.flow_state.delivery_count)) (sym asking) ∙ takes.after

  taken_then : ledger_taken plain_target e.ledger (attach_answered e.receiver e.ledger.link.flow_state.delivery_count) ≡ ledger_together limit (with_ends w e)
  taken_then = λ i. record {
    link = link_then i;
    records = after (HandsOut (deliveries_to_resume e.ledger.link.unsettled (takes.remote i))) (after (Resolves (outcomes_returned e.ledger.link.unsettled (takes.remote i))) e.ledger.records);
  }

  module _ (l : Ledger Target) (is : l ≡ ledger_taken plain_target e.ledger attach) where
    ledger_then : l ≡ ledger_together limit (with_ends w e)
    ledger_then = is ∙ ap (ledger_taken plain_target e.ledger) answer_is ∙ taken_then

    module _ (exchange : SenderAttachExchange) (follows : exchange ≡ exchange_in l.link.local_state e.ledger.link.unsettled (remote_entries attach)) (list : Entries ResumingDelivery) (list_is : list ≡ list_in exchange) where
      -- what is to be resumed
      list_then : list ≡ list_to_resume (with_ends w e)
      list_then =
          list_is ∙ ap list_in follows
          ∙ ap (λ (l : Ledger Target). list_in (exchange_in l.link.local_state e.ledger.link.unsettled (remote_entries attach))) ledger_then
          ∙ ap (λ a. list_in (exchange_in state.Attached e.ledger.link.unsettled (remote_entries a))) answer_is
          ∙ ap (λ remote. list_in (exchange_in state.Attached e.ledger.link.unsettled remote)) takes.remote
          ∙ takes.list

      -- both are attached then
      pub together_by : (place : Option Attach) → IsAttached limit w e list (mk stage.Together e.limit place l e.receiver)
      together_by place = record {
        ends = record {
          limit = ap (λ (l : Ledger Target). l.link.max_frame_size) ledger_then ∙ sym (own_limit limit w e (phase_at e stage.Answered at) m);
          on_way = tt;
        };
        attaches = record {
          counted = ap length list_then;
          world = λ i. record w {
            phase = Together (own_limit limit w e (phase_at e stage.Answered at) m i);
            ledger = ledger_then i;
            receiver = sym (together_stays (with_ends w e) limit m.world answered_phase answered_way.1) i;
            resuming = list_then i;
          };
        };
      }
