-- An endpoint sends its attach with all its deliveries.
use Rattle.std.proofs.Common.{◌≡◌, ◌∙◌, sym, ap, subst, ℕ, zero, suc, false, Some, arith}
use Rattle.amqp_link_types.specs.declared.frame.LinkFrame.{LinkFrame}
use Rattle.amqp_link_types.specs.declared.frame.LinkFrame.TheVariants as frames
use Rattle.amqp_link_types.specs.declared.types.attach.Attach.{Attach}
use Rattle.amqp_link_types.specs.declared.types.definitions.OutputHandle.{OutputHandle}
use Rattle.amqp_link_state.specs.declared.state.LinkState.{LinkState}
use Rattle.amqp_link_endpoint.specs.AttachSent.{SendsAttach}
use Rattle.amqp_link_endpoint.specs.Attaching.{FitsFrame, Divided, IsDivided, States, with_entries}
use Rattle.amqp_link_endpoint.specs.LinkStates.{Call, next_state}
use Rattle.amqp_link_endpoint.specs.Shown.{Shown, attach_stated}
use Rattle.amqp_link_worlds.specs.Attachable.{CanAttach}

-- an attach that fits is not halved
undivided : (whole : Attach) (entries : States) (frame : ℕ) (now : Attach) (j : ℕ) → Divided whole entries j frame
    → now ≡ with_entries whole entries j → FitsFrame (with_entries whole entries 0) frame → now ≡ with_entries whole entries 0
undivided whole entries frame now zero d e h = e
undivided whole entries frame now (suc j) d e h = absurd (d.least 0 (omega arith) h)

-- what fits is sent whole
whole_sent : (whole : Attach) (entries : States) (frame : ℕ) (now : Attach) → IsDivided whole entries frame now
    → FitsFrame (with_entries whole entries 0) frame → now ≡ with_entries whole entries 0
whole_sent whole entries frame now d h = undivided whole entries frame now d.halvings d.fewest d.sent h

attach_is : {a b : Attach} → frames.Attach a ≡ frames.Attach b → a ≡ b
attach_is h = cc

pub some_is : {A : Type 0} {x y : A} → Some x ≡ Some y → x ≡ y
some_is h = cc

-- an endpoint that can attach sends the whole attach, and takes the step of a whole one
module _ {D : Type 0} (from : Shown D) (can : CanAttach from) (sent : LinkFrame) (to : LinkState) (attach : Attach) (s : SendsAttach from from.entries sent to) (is : sent ≡ frames.Attach attach) where
  -- it fits at the handle that it is sent at
  fitting : FitsFrame (with_entries (attach_stated from s.number) from.entries 0) from.max_frame_size
  fitting =
      let same : can.number ≡ s.number = some_is (sym can.handle_is ∙ s.handle_is) in
      subst (λ n. FitsFrame (with_entries (attach_stated from n) from.entries 0) from.max_frame_size) same can.fits

  -- so nothing is left out
  whole : s.attach ≡ with_entries (attach_stated from s.number) from.entries 0
  whole = whole_sent (attach_stated from s.number) from.entries from.max_frame_size s.attach s.divided fitting

  pub sends_whole : (number : OutputHandle) → from.output_handle ≡ Some number → attach ≡ with_entries (attach_stated from number) from.entries 0
  sends_whole number h =
      let same : number ≡ s.number = some_is (sym h ∙ s.handle_is) in
      attach_is (sym is ∙ s.sent_is) ∙ whole ∙ ap (λ n. with_entries (attach_stated from n) from.entries 0) (sym same)

  pub steps_to : (next : LinkState) → next_state Call.SendAttach false from.local_state ≡ Some next → to ≡ next
  steps_to next h = some_is (sym s.step ∙ ap (λ (a : Attach). next_state Call.SendAttach a.incomplete_unsettled from.local_state) whole ∙ h)
