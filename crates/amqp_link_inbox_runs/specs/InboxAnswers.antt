-- What each call of an inbox answers, and the inbox after it (OASIS AMQP 1.0 core, 2.6.3 to 2.6.7, 2.6.12, 2.6.13 and 2.7.5).
use Rattle.std.specs.Prelude.{◌≡◌, ◌↔◌, ◌⊎◌, Bool, true, false, [], ◌∷◌, Option, Some, None, Ok, Err, IfErr, IfOk, IsErrAnd, IsErrOf, IsOk, IsSomeAnd, MatchOption, MatchResult, OnErr, OnOk, drop, is_none, is_some, if◌then◌else◌}
use Rattle.amqp_link_types.specs.Entries.{Entries, changed_at, entry_at}
use Rattle.amqp_link_types.specs.Refusals.{AnswersOrOutOfMemory, refusal}
use Rattle.amqp_link_types.specs.declared.frame.LinkFrame.TheVariants.{Flow}
use Rattle.amqp_link_types.specs.declared.types.definitions.Role.TheVariants as role
use Rattle.amqp_link_types.specs.declared.types.delivery_state.DeliveryState.{DeliveryState}
use Rattle.amqp_link_types.specs.declared.types.errors.ApplyRemoteDetachError.TheVariants as remote
use Rattle.amqp_link_types.specs.declared.types.errors.DetachError.TheVariants as detach
use Rattle.amqp_link_types.specs.declared.types.errors.FlowError.TheVariants as flow
use Rattle.amqp_link_types.specs.declared.types.errors.LinkRelayError.TheVariants as relay
use Rattle.amqp_link_types.specs.declared.types.errors.ReceiverAttachError.{ReceiverAttachError}
use Rattle.amqp_link_types.specs.declared.types.errors.ReceiverAttachError.TheVariants as attach
use Rattle.amqp_link_types.specs.declared.types.errors.ReceiverTransferError.TheVariants as transfer
use Rattle.amqp_link_types.specs.declared.types.terminus.TargetArchetype.{TargetArchetype}
use Rattle.amqp_link_state.specs.Counts.{receiver_after, receiver_reply, stated_flow, with_stated}
use Rattle.amqp_link_state.specs.declared.state.LinkState.{LinkState}
use Rattle.amqp_link_endpoint.specs.AttachFields.{remote_entries}
use Rattle.amqp_link_endpoint.specs.AttachSent.{IsTooLarge, SendsAttach}
use Rattle.amqp_link_endpoint.specs.Detaching.{detach_frame, recorded, remote_error, reply_error}
use Rattle.amqp_link_endpoint.specs.LinkStates.{Call as Move, next_state}
use Rattle.amqp_link_core.specs.IncompleteRefusals.{AreReturned, with_error}
use Rattle.amqp_link_dispositions.specs.DispositionFrames.{CoverGroups, disposition_frame}
use Rattle.amqp_link_dispositions.specs.Keeping.{is_settled_one}
use Rattle.amqp_link_dispositions.specs.Listed.{kept_in_order}
use Rattle.amqp_link_receiver.specs.ReceiverAttaches.{has_entries, receiver_attached, receiver_exchange_in, receiver_left, receiver_lost, receiver_refusal, receiver_shown}
use Rattle.amqp_link_inbox.specs.Disposing.{AnswersOutcome, after_sender_disposition, all_disposed, disposed, info_to_dispose, infos_to_dispose, outcome_refusal}
use Rattle.amqp_link_inbox.specs.Flows.{moved_by}
use Rattle.amqp_link_inbox.specs.InboxAttaches.{attached_by, forgotten_by, kept_after, refused_by}
use Rattle.amqp_link_inbox.specs.Inboxes.{InboxState, arrival_tests, field_tests}
use Rattle.amqp_link_inbox.specs.Taking.{has_taken, with_taken}
use Rattle.amqp_link_inbox.specs.declared.error.DisposeError.TheVariants as dispose
use Rattle.amqp_link_inbox_runs.specs.declared.call.AnswerOf.{AnswerOf}
use Rattle.amqp_link_inbox_runs.specs.declared.call.AnswerOf.TheVariants as answer
use Rattle.amqp_link_inbox_runs.specs.declared.call.Call.{Call}
use Rattle.amqp_link_inbox_runs.specs.declared.call.Call.TheVariants as call

module _ {T : Type 0} where
  -- a detach has moved the link to this state, and its output handle is released
  abbrev pub detached : InboxState T → LinkState → InboxState T
  detached old next = record old { link = record old.link { local_state = next; output_handle = None } }

  -- what a detach leaves, if there is a transition
  abbrev pub DetachedBy : Move → Bool → InboxState T → InboxState T → Type 0
  DetachedBy move closed old new = MatchOption (next_state move closed old.link.local_state) (new ≡ old) (λ next. new ≡ detached old next)

  -- There are a handle and a transition for an attach, as far as the link's state says.
  abbrev pub MaySendAttach : InboxState T → Type 0
  MaySendAttach old = (is_none old.link.output_handle ≡ false) × (is_none (next_state Move.SendAttach false old.link.local_state) ≡ false)

  -- The first parameters are how a target is sent, how one is taken, and why the peer's is refused beside the own one.
  module _ (sent_as : T → TargetArchetype) (admitted : TargetArchetype → Option T) (refuses : T → T → Option ReceiverAttachError) where
    -- why an attach is not sent that states these deliveries
    abbrev pub AttachRefusal : Entries (Option DeliveryState) → InboxState T → ReceiverAttachError → Type 0
    AttachRefusal entries old error = (error ≡ attach.OutOfMemory)
        ⊎ ((error ≡ attach.IllegalState)
        × ((old.link.output_handle ≡ None) ⊎ (next_state Move.SendAttach false old.link.local_state ≡ None)))
        ⊎ ((error ≡ attach.AttachTooLarge) × IsTooLarge (receiver_shown sent_as old.link) entries)

    module _ {B : Type 0} where
      -- What a call answers, and the inbox after it, beside what a step says of what is handed out and has arrived.
      abbrev pub Answers : InboxState T → Call → AnswerOf B → InboxState T → Type 0
      Answers old (call.SetOutputHandle handle) answer.Done new = new ≡ record old { link = record old.link { output_handle = Some handle } }
      Answers old (call.SendAttach anew) (answer.AttachSent r) new =
          IfOk r (λ frame. SendsAttach (receiver_shown sent_as old.link) (if anew then [] else old.link.unsettled) frame new.link.local_state)
          × OnOk r (new ≡ record old { link = receiver_attached old.link anew new.link.local_state; deliveries = kept_after anew old.deliveries })
          × IfErr r (AttachRefusal (if anew then [] else old.link.unsettled) old)
          × (IsErrOf r attach.OutOfMemory → MaySendAttach old) × OnErr r (new ≡ old)
      Answers old (call.OnIncomingAttach theirs) (answer.Attached r) new =
          IfOk r (λ came. came.0 ≡ receiver_exchange_in new.link.local_state (has_entries (remote_entries theirs)))
          × IfOk r (λ came. came.1.items ≡ forgotten_by theirs old.deliveries)
          × OnOk r (new ≡ attached_by theirs old)
          × MatchResult r (λ _. receiver_refusal admitted refuses old.link theirs ≡ None)
          (λ error. (error ≡ attach.OutOfMemory) ⊎ (receiver_refusal admitted refuses old.link theirs ≡ Some error))
          × IfErr r (λ error. new ≡ refused_by error (receiver_left admitted refuses error old.link theirs) old)
          × (IsErrOf r attach.OutOfMemory → new ≡ old)
      Answers old (call.OnIncomingTransfer t bytes) (answer.Arrived r) new =
          AnswersOrOutOfMemory transfer.OutOfMemory (with_error r) (arrival_tests old t bytes)
          × (IsErrAnd r (λ refused. refused.error ≡ transfer.OutOfMemory) → refusal (field_tests old t) ≡ None)
          × IfErr r (λ refused. AreReturned t bytes refused) × OnErr r (new ≡ old)
      Answers old (call.Take tag) (answer.Taken r) new =
          new ≡ record old { deliveries = if has_taken r then with_taken tag old.deliveries else old.deliveries }
      Answers old call.TakeSettled (answer.SettledTaken r) new = new ≡ record old { settled = if has_taken r then drop 1 old.settled else old.settled }
      Answers old (call.Dispose tag settled state batchable) (answer.Disposed r) new =
          IfOk r (λ frame. IfOk (info_to_dispose old.link.local_state (entry_at old.deliveries tag) tag) (λ info.
          frame ≡ disposition_frame role.Receiver info.delivery_id None (is_settled_one settled old.link.rcv_settle_mode info) state batchable))
          × AnswersOutcome (info_to_dispose old.link.local_state (entry_at old.deliveries tag) tag) r
          × OnOk r (IfOk (info_to_dispose old.link.local_state (entry_at old.deliveries tag) tag) (λ info.
          new ≡ disposed (is_settled_one settled old.link.rcv_settle_mode info) state tag old))
          × OnErr r (new ≡ old)
      Answers old (call.DisposeAll tags settled state batchable) (answer.AllDisposed r) new =
          IfOk r (λ frames. IfOk (infos_to_dispose old.link.local_state old.deliveries tags.items) (λ infos.
          CoverGroups settled old.link.rcv_settle_mode state batchable (kept_in_order old.link.unsettled infos) frames.items))
          × MatchResult r (λ _. IsOk (infos_to_dispose old.link.local_state old.deliveries tags.items))
          (λ refusal. (refusal ≡ dispose.OutOfMemory) ⊎ (infos_to_dispose old.link.local_state old.deliveries tags.items ≡ Err refusal))
          × OnOk r (IfOk (infos_to_dispose old.link.local_state old.deliveries tags.items) (λ infos. new ≡ all_disposed settled state infos old))
          × OnErr r (new ≡ old)
      Answers old (call.KeepOutcome tag state) (answer.OutcomeKept r) new =
          MatchOption (outcome_refusal (entry_at old.deliveries tag)) (r ≡ Ok tt) (λ refusal. r ≡ Err refusal)
          × OnOk r (new ≡ record old { link = record old.link { unsettled = changed_at (λ _. Some state) (tag ∷ []) old.link.unsettled } })
          × OnErr r (new ≡ old)
      Answers old (call.OnIncomingDisposition settled state tag) (answer.DispositionTaken r) new =
          OnOk r (new ≡ after_sender_disposition settled state tag old) × OnErr r (settled ≡ true) × OnErr r (new ≡ old)
      Answers old (call.SendFlow credit drain echo properties) (answer.FlowSent r) new =
          OnOk r (new ≡ record old { link = record old.link { flow_state = with_stated credit drain old.link.flow_state } })
          × IfOk r (λ sent. IsSomeAnd old.link.output_handle (λ handle. sent ≡ Flow (stated_flow new.link.flow_state handle echo properties)))
          × (IsErrOf r flow.IllegalState ↔ (old.link.output_handle ≡ None))
          × (IsErrOf r flow.OutOfMemory → (properties ≡ true) × (is_some old.link.flow_state.properties ≡ true)) × OnErr r (new ≡ old)
      Answers old (call.OnIncomingFlow theirs) (answer.FlowTaken r) new =
          MatchOption old.link.output_handle (r ≡ Err relay.UnattachedHandle)
          (λ handle. r ≡ Ok (receiver_reply theirs (moved_by theirs old.link.flow_state) handle))
          × OnOk r (new ≡ record old { link = record old.link { flow_state = receiver_after theirs (moved_by theirs old.link.flow_state) } })
          × OnErr r (new ≡ old)
      Answers old (call.SendDetach closed error) (answer.DetachSent r) new =
          MatchOption (next_state Move.SendDetach closed old.link.local_state) (r ≡ Err detach.IllegalState)
          (λ _. MatchOption old.link.output_handle (r ≡ Err detach.IllegalState) (λ handle. r ≡ Ok (detach_frame handle closed error)))
          × DetachedBy Move.SendDetach closed old new
      Answers old (call.OnDetachReply reply) (answer.DetachReplied r) new =
          MatchOption (next_state Move.DetachReply reply.closed old.link.local_state) (r ≡ Err detach.IllegalState)
          (λ _. r ≡ recorded reply_error reply.closed reply.error)
          × DetachedBy Move.DetachReply reply.closed old new
      Answers old (call.ApplyRemoteDetachOutcome theirs) (answer.DetachTaken r) new =
          MatchOption (next_state Move.RemoteDetach theirs.closed old.link.local_state) (r ≡ Err remote.IllegalState)
          (λ _. r ≡ recorded remote_error theirs.closed theirs.error)
          × DetachedBy Move.RemoteDetach theirs.closed old new
      Answers old call.OnSessionLost answer.Done new = new ≡ record old { link = receiver_lost old.link; under_way = None }
      Answers old _ _ new = ⊥
