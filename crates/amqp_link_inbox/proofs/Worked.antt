-- Values of the definitions that were worked out by hand: docs/DEFINITIONS.md lists them.
use Rattle.std.proofs.Common.{◌≡◌, [], ◌∷◌, refl, true, false, Some, None, Ok, Err}
use Rattle.amqp_link_payloads.specs.Header.{header_len}
use Rattle.amqp_link_payloads.specs.Position.{starts}
use Rattle.amqp_link_types.specs.declared.types.errors.ReceiverTransferError.TheVariants.{InconsistentFieldInMultiFrameDelivery}
use Rattle.amqp_link_types.specs.declared.types.errors.ReceiverAttachError.TheVariants as attach
use Rattle.amqp_link_types.specs.Frames.{silent}
use Rattle.amqp_link_types.specs.declared.types.delivery_state.DeliveryState.TheVariants.{Accepted, Received}
use Rattle.amqp_link_types.specs.declared.types.definitions.ReceiverSettleMode.TheVariants.{First}
use Rattle.amqp_link_types.specs.Refusals.{refusal}
use Rattle.amqp_link_state.specs.declared.state.LinkState.TheVariants.{Attached, Detached}
use Rattle.amqp_link_types.specs.Entries.{Entries}
use Rattle.amqp_link_inbox.specs.InboxAttaches.{is_stated_in, leaves_all, without_ids}
use Rattle.amqp_link_inbox.specs.Bytes.{bytes_at, bytes_before}
use Rattle.amqp_link_inbox.specs.Disposing.{after_settling, disposed, info_to_dispose, infos_to_dispose, outcome_refusal_in, settled_at}
use Rattle.amqp_link_inbox.specs.Inboxes.{InboxState}
use Rattle.amqp_link_inbox.specs.KeptDeliveries.{empty_test, finished, start_of}
use Rattle.amqp_link_inbox.specs.Storing.{added_arrival, first_arrival, is_unsettled, stage_at, stored}
use Rattle.amqp_link_inbox.specs.Taking.{complete_of, settled_refusal, take_refusal}
use Rattle.amqp_link_inbox.specs.declared.arrival.Arrival.TheVariants as arrival
use Rattle.amqp_link_inbox.specs.declared.error.DisposeError.TheVariants as dispose
use Rattle.amqp_link_inbox.specs.declared.error.TakeError.TheVariants as take
use Rattle.amqp_link_inbox.specs.declared.kept.Contents.TheVariants as contents
use Rattle.amqp_link_inbox.specs.declared.kept.Kept.{Kept}
use Rattle.amqp_link_inbox.specs.declared.kept.Stage.TheVariants as stage

-- a delivery that was taken, with id 4 and mode first
abbrev taken : Kept
taken = record { contents = contents.Taken; settled = false; id = Some 4; mode = Some First }

-- it is kept as 01, and nothing else
abbrev one : Entries Kept
one = (1 ∷ [], taken) ∷ []

-- ---- arrivals

settled_by_its_only_transfer : first_arrival false true ≡ arrival.CompleteSettled
settled_by_its_only_transfer = refl

more_to_come : first_arrival true true ≡ arrival.Begun
more_to_come = refl

last_of_a_begun_one : added_arrival true false false ≡ arrival.Complete
last_of_a_begun_one = refl

resumed_once_complete : added_arrival false true true ≡ arrival.Known
resumed_once_complete = refl

taken_stays_taken : finished false contents.Taken ≡ contents.Taken
taken_stays_taken = refl

bytes_of_a_known_one : refusal (empty_test (7 ∷ [])) ≡ Some InconsistentFieldInMultiFrameDelivery
bytes_of_a_known_one = refl

nothing_of_a_known_one : refusal (empty_test []) ≡ None
nothing_of_a_known_one = refl

nothing_held : bytes_at one (1 ∷ []) ≡ None
nothing_held = refl

new_one_stands_alone : bytes_before true None (Some (7 ∷ [])) ≡ []
new_one_stands_alone = refl

old_bytes_first : bytes_before false None (Some (7 ∷ [])) ≡ 7 ∷ []
old_bytes_first = refl

-- resumed from the second of three bytes on
up_to_the_start : bytes_before false (Some (0, 1)) (Some (7 ∷ 8 ∷ 9 ∷ [])) ≡ 7 ∷ []
unfolding starts header_len
up_to_the_start = refl

-- of three bytes there is no fifth to start from
no_such_place : bytes_before false (Some (0, 5)) (Some (7 ∷ 8 ∷ 9 ∷ [])) ≡ 7 ∷ 8 ∷ 9 ∷ []
unfolding starts header_len
no_such_place = refl

-- only the first transfer in an attachment says where it starts
further_one_has_no_start : start_of false (record silent { state = Some (Received 0 1) }) ≡ None
further_one_has_no_start = refl

first_one_starts_there : start_of true (record silent { state = Some (Received 0 1) }) ≡ Some (0, 1)
first_one_starts_there = refl

-- ---- what is kept

stage_of_01 : stage_at one (1 ∷ []) ≡ Some stage.Taken
stage_of_01 = refl

stage_of_02 : stage_at one (2 ∷ []) ≡ None
stage_of_02 = refl

unsettled_01 : is_unsettled (Some taken) ≡ true
unsettled_01 = refl

-- the last transfer of a delivery that is taken and settled: nothing is kept, and nothing waits
settled_and_gone : stored false (1 ∷ []) (record taken { settled = true }) (record { entries = one; settled = [] }) ≡ record { entries = []; settled = [] }
settled_and_gone = refl

-- of a settled delivery more is to come: it is kept
settled_with_more : (stored true (1 ∷ []) (record taken { settled = true }) (record { entries = one; settled = [] })).entries ≡ (1 ∷ [], record taken { settled = true }) ∷ []
settled_with_more = refl

-- ---- taking

begun_and_detached : take_refusal (Some stage.Begun) None ≡ Some take.NotComplete
begun_and_detached = refl

complete_and_detached : take_refusal (Some stage.Complete) None ≡ Some take.NotAttached
complete_and_detached = refl

nothing_waits : settled_refusal [] None ≡ None
nothing_waits = refl

nothing_to_take : complete_of (Some taken) ≡ None
nothing_to_take = refl

-- ---- dispositions

named_by_its_id : info_to_dispose Attached (Some taken) (1 ∷ []) ≡ Ok (record { delivery_id = 4; delivery_tag = 1 ∷ []; rcv_settle_mode = Some First })
named_by_its_id = refl

not_resumed : info_to_dispose Attached (Some (record taken { id = None })) (1 ∷ []) ≡ Err dispose.NotResumed
not_resumed = refl

detached : info_to_dispose Detached None (1 ∷ []) ≡ Err dispose.NotAttached
detached = refl

-- the first of two that has no name
second_unknown : infos_to_dispose Attached one ((1 ∷ []) ∷ (2 ∷ []) ∷ []) ≡ Err dispose.UnknownTag
second_unknown = refl

settled_one : outcome_refusal_in true contents.Taken ≡ Some dispose.UnknownTag
settled_one = refl

settled_by_its_sender : settled_at (1 ∷ []) (record { entries = one; settled = [] }) ≡ record { entries = []; settled = [] }
settled_by_its_sender = refl

settled_by_its_receiver : {T : Type 0} (w : InboxState T)
    → disposed true Accepted (1 ∷ []) (record w { link = record w.link { unsettled = (1 ∷ [], None) ∷ [] }; deliveries = one })
    ≡ record w { link = record w.link { unsettled = [] }; deliveries = [] }
settled_by_its_receiver w = refl

kept_unless_settled : after_settling false (1 ∷ []) one ≡ one
kept_unless_settled = refl

-- ---- attaches

no_map_states_nothing : is_stated_in {V = Kept} None (1 ∷ []) ≡ false
no_map_states_nothing = refl

stated : is_stated_in (Some one) (1 ∷ []) ≡ true
stated = refl

no_id_yet : without_ids one ≡ (1 ∷ [], record taken { id = None }) ∷ []
no_id_yet = refl

state_has_moved : leaves_all attach.IncomingSourceIsNone ≡ false
state_has_moved = refl
