-- The attach that an endpoint sends (OASIS AMQP 1.0 core, 2.6.3 and 2.7.3).
use Rattle.std.specs.Prelude.{◌≡◌, false, Option, Some}
use Rattle.amqp_link_types.specs.declared.frame.LinkFrame.{LinkFrame}
use Rattle.amqp_link_types.specs.declared.frame.LinkFrame.TheVariants as frame
use Rattle.amqp_link_state.specs.declared.state.LinkState.{LinkState}
use Rattle.amqp_link_types.specs.declared.types.attach.Attach.{Attach}
use Rattle.amqp_link_types.specs.declared.types.definitions.OutputHandle.{OutputHandle}
use Rattle.amqp_link_types.specs.declared.types.delivery_state.DeliveryState.{DeliveryState}
use Rattle.amqp_link_types.specs.Entries.{Entries}
use Rattle.amqp_link_endpoint.specs.Attaching.{IsDivided, NeverFitsFrame}
use Rattle.amqp_link_endpoint.specs.LinkStates.{Call, next_state}
use Rattle.amqp_link_endpoint.specs.Shown.{Shown, attach_stated}

-- An endpoint sends the attach that it states, with as many of the entries as fit; the state moves as after a
-- complete or an incomplete attach.
pub record SendsAttach {D : Type 0} (s : Shown D) (entries : Entries (Option DeliveryState)) (sent : LinkFrame) (next : LinkState) : Type 0 where
  pub number : OutputHandle
  pub handle_is : s.output_handle ≡ Some number
  pub attach : Attach
  pub sent_is : sent ≡ frame.Attach attach
  pub divided : IsDivided (attach_stated s number) entries s.max_frame_size attach
  pub step : next_state Call.SendAttach attach.incomplete_unsettled s.local_state ≡ Some next

-- there are a handle and a transition, and the attach does not fit, with however few of the entries
pub record IsTooLarge {D : Type 0} (s : Shown D) (entries : Entries (Option DeliveryState)) : Type 0 where
  pub number : OutputHandle
  pub handle_is : s.output_handle ≡ Some number
  pub next : LinkState
  pub step : next_state Call.SendAttach false s.local_state ≡ Some next
  pub never : NeverFitsFrame (attach_stated s number) entries s.max_frame_size
