-- The attach that an endpoint sends, and the state after it.
use Rattle.std.specs.Prelude.{◌≡◌, Option, Some}
use Rattle.amqp_link_types.specs.declared.frame.LinkFrame.{LinkFrame}
use Rattle.amqp_link_types.specs.declared.frame.LinkFrame.TheVariants as frame
use Rattle.amqp_link_state.specs.declared.state.LinkState.{LinkState}
use Rattle.amqp_link_types.specs.declared.types.attach.Attach.{Attach}
use Rattle.amqp_link_types.specs.declared.types.definitions.OutputHandle.{OutputHandle}
use Rattle.amqp_link_types.specs.declared.types.delivery_state.DeliveryState.{DeliveryState}
use Rattle.amqp_link_types.specs.Entries.{Entries}
use Rattle.amqp_link_endpoint.specs.Attaching.{IsDivided}
use Rattle.amqp_link_endpoint.specs.AttachSent.{SendsAttach}
use Rattle.amqp_link_endpoint.specs.LinkStates.{Call, next_state}
use Rattle.amqp_link_endpoint.specs.Shown.{Shown, attach_stated}

module _ {D : Type 0} (s : Shown D) (entries : Entries (Option DeliveryState)) (number : OutputHandle) (attach : Attach) (sent : LinkFrame) (next : LinkState) where
  pub sends_attach : s.output_handle ≡ Some number → IsDivided (attach_stated s number) entries s.max_frame_size attach → sent ≡ frame.Attach attach
      → next_state Call.SendAttach attach.incomplete_unsettled s.local_state ≡ Some next → SendsAttach s entries sent next
  sends_attach handle divided made step = record {
    number = number;
    handle_is = handle;
    attach = attach;
    sent_is = made;
    divided = divided;
    step = step;
  }
