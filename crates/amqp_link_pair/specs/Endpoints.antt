-- The endpoints of a pair during an attach, and what is kept between its steps (OASIS AMQP 1.0 core, 2.6.3).
use Rattle.std.specs.Prelude.{◌≡◌, ◌⊎◌, ℕ, false, length, Option, None, Some}
use Rattle.amqp_link_types.specs.Entries.{Entries}
use Rattle.amqp_link_types.specs.Refusals.{refusal}
use Rattle.amqp_link_types.specs.declared.frame.LinkFrame.{LinkFrame}
use Rattle.amqp_link_types.specs.declared.frame.LinkFrame.TheVariants.{Flow}
use Rattle.amqp_link_types.specs.declared.types.definitions.OutputHandle.{OutputHandle}
use Rattle.amqp_link_types.specs.declared.types.terminus.Target.{Target}
use Rattle.amqp_link_state.specs.declared.state.LinkState.TheVariants as state
use Rattle.amqp_link_core.specs.declared.resumption.ResumingDelivery.{ResumingDelivery}
use Rattle.amqp_link_endpoint.specs.declared.link_parts.LinkParts.{LinkParts}
use Rattle.amqp_link_ledger.specs.Ledgers.{Ledger}
use Rattle.amqp_link_receiver.specs.Receivers.{Receiver}
use Rattle.amqp_link_worlds.specs.Attachable.{attach_asked, attach_answered}
use Rattle.amqp_link_worlds.specs.Invariants.{IsWorld}
use Rattle.amqp_link_worlds.specs.Steps.{AttachStop, Attaches, StopsAt, attach_tests, new_sender, new_world}
use Rattle.amqp_link_worlds.specs.Worlds.{World, Phase, Apart, Halfway, Together}
use Rattle.amqp_link_pair.specs.declared.ends.Ends.{Ends}
use Rattle.amqp_link_pair.specs.declared.ends.Stage.{Stage}
use Rattle.amqp_link_pair.specs.declared.ends.Stage.TheVariants as stage

-- how far the endpoints are attached
abbrev pub phase_of : Stage → ℕ → Phase
phase_of stage.Apart limit = Apart
phase_of stage.Together limit = Together limit
phase_of _ limit = Halfway limit

-- a world with these endpoints
abbrev pub with_ends : World → Ends → World
with_ends w ends = record w { phase = phase_of ends.stage ends.limit; ledger = ends.ledger; receiver = ends.receiver }

-- what an endpoint of a new pair is made with
abbrev pub plain_parts : ℕ → LinkParts Target
plain_parts count =
    let s = new_sender count in
    record {
      name = s.name;
      snd_settle_mode = s.snd_settle_mode;
      rcv_settle_mode = s.rcv_settle_mode;
      source = s.source;
      target = s.target;
      max_message_size = 0;
      offered_capabilities = None;
      desired_capabilities = None;
      flow_state = s.flow_state;
      max_frame_size = 0;
      verify_incoming_source = false;
      verify_incoming_target = false;
    }

-- the endpoints of a new pair
abbrev pub new_ends : ℕ → Ends
new_ends count = record {
  stage = stage.Apart;
  limit = 0;
  attach = None;
  ledger = (new_world count).ledger;
  receiver = (new_world count).receiver;
}

-- the sender with this handle and this frame limit
abbrev pub ledger_at : Option OutputHandle → ℕ → Ledger Target → Ledger Target
ledger_at handle limit l = record l { link = record l.link { output_handle = handle; max_frame_size = limit } }

-- What is kept at each stage of an attach: the sender's attach until the receiver has taken it, or the
-- receiver's until the sender has; and the receiver's state.
abbrev pub IsOnWayAt : Stage → Ends → Type 0
IsOnWayAt stage.Asked e =
    (e.attach ≡ Some (attach_asked e.ledger.link)) × ((e.receiver.local_state ≡ state.Unattached) ⊎ (e.receiver.local_state ≡ state.Detached))
IsOnWayAt stage.Taken e = e.receiver.local_state ≡ state.AttachReceived
IsOnWayAt stage.Answered e =
    (e.attach ≡ Some (attach_answered e.receiver e.ledger.link.flow_state.delivery_count)) × (e.receiver.local_state ≡ state.Attached)
IsOnWayAt _ e = Unit {0}

-- the endpoints of a pair: the limit is the sender's
pub record IsEnds (e : Ends) : Type 0 where
  pub limit : e.ledger.link.max_frame_size ≡ e.limit
  pub on_way : IsOnWayAt e.stage e

-- endpoints for which no test refuses an attach at this limit
pub record MayAttach (limit : ℕ) (w : World) (e : Ends) : Type 0 where
  pub world : IsWorld (with_ends w e)
  pub ends : IsEnds e
  pub allowed : refusal (attach_tests (with_ends w e) limit) ≡ None

-- An attach that is out of memory has stopped: all is as it was, or the endpoints have reached one of its
-- stages.
pub record HasStopped (limit : ℕ) (w : World) (old new : Ends) : Type 0 where
  pub ends : IsEnds new
  pub stays : (new ≡ old) ⊎ ((stop : AttachStop) × StopsAt stop (with_ends w old) limit (with_ends w new))

-- Both endpoints are attached at the limit, and these deliveries are to be resumed.
pub record IsAttached (limit : ℕ) (w : World) (old : Ends) (list : Entries ResumingDelivery) (new : Ends) : Type 0 where
  pub ends : IsEnds new
  pub attaches : Attaches (with_ends w old) limit (length list) (record (with_ends w new) { resuming = list })

-- the endpoints of an attached pair once their session is lost
abbrev pub without_session : Receiver Target → Receiver Target
without_session r = record r { local_state = state.Detached; output_handle = None; input_handle = None; more = false }

abbrev pub ledger_without_session : Ledger Target → Ledger Target
ledger_without_session l =
    record l { link = record l.link { local_state = state.Detached; output_handle = None; input_handle = None } }

-- a frame that is a flow
abbrev pub IsFlow : LinkFrame → Type 0
IsFlow (Flow flow) = Unit {0}
IsFlow _ = ⊥
