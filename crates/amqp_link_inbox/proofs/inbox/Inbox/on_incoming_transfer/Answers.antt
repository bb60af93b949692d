use Rattle.std.proofs.Common.{◌≡◌, ◌⊎◌, ◌∙◌, None, Some, inl, inr, not, rules, subst, sym}
use Rattle.std.specs.Prelude.{◌&&◌, ◌==◌}
use Rattle.amqp_link_types.specs.Refusals.{refusal}
use Rattle.amqp_link_types.specs.declared.types.errors.ReceiverTransferError.TheVariants.{OutOfMemory}
use Rattle.amqp_link_receiver.specs.ReceiverDeliveries.{session_record}
use Rattle.amqp_link_inbox.specs.Inboxes.{Arrives, field_tests, is_new, tests_by_contents}
use Rattle.amqp_link_inbox.specs.declared.arrival.Arrived.{Arrived}
use Rattle.amqp_link_inbox.proofs.HandledLemmas.{arrives, refused_first, refused_then}
use Rattle.amqp_link_inbox.proofs.inbox.Inbox.on_incoming_transfer.Goals as goal

pub returns-in-Some-clause-refused : goal.returns-in-Some-clause-refused
returns-in-Some-clause-refused g c =
    let s = c.args.self.now in
    let h : refusal (field_tests s c.args.transfer) ≡ Some c.refuse.result.error = search rules in
    inr (refused_first (field_tests s c.args.transfer) (tests_by_contents s c.args.transfer c.args.payload) _ h)

pub returns-in-Err-clause-refused : goal.returns-in-Err-clause-refused
returns-in-Err-clause-refused g c =
    let s = c.args.self.now in
    let fields : refusal (field_tests s c.args.transfer) ≡ None = search rules in
    let h : (c.in-Err.refused.error ≡ OutOfMemory) ⊎ (refusal (tests_by_contents s c.args.transfer c.args.payload) ≡ Some c.in-Err.refused.error) = search rules in
    elim h [
      | inl memory ↦ inl memory
      | inr h ↦ inr (refused_then (field_tests s c.args.transfer) (tests_by_contents s c.args.transfer c.args.payload) fields ∙ h)
    ]

pub returns-clause-arrives : goal.returns-clause-arrives
returns-clause-arrives g c =
    let s = c.args.self.now in
    let t = c.args.transfer in
    let came : Arrived = record {
      arrival = c.in-Ok-handle.made.0;
      tag = c.finish-tag.result;
      replaced = c.in-Ok-handle.made.1;
      without_credit = c.lacks_credit-without_credit.result;
      session = c.in-Ok.session;
    } in
    let credit : came.without_credit ≡ (not t.aborted && is_new s t && (s.link.flow_state.link_credit == 0)) = search rules in
    let session : came.session ≡ session_record s.link t = search rules in
    subst (λ new. Arrives s t c.args.payload came new) (sym c.finish-tag.ensures.after)
    (arrives s c.handle.new.self t c.args.payload came c.in-Ok-handle.ensures.handled c.finish-tag.ensures.tag credit session)
