-- Values of the definitions that were worked out by hand: docs/DEFINITIONS.md lists them.
use Rattle.std.proofs.Common.{◌≡◌, ℕ, Bool, true, false, List, [], ◌∷◌, refl, Option, Some, None, Ok, nat_eq}
use Rattle.amqp_link_payloads.specs.Header.{header_len}
use Rattle.amqp_link_payloads.specs.Position.{starts}
use Rattle.amqp_link_types.specs.Refusals.{refusal}
use Rattle.amqp_link_types.specs.declared.types.errors.ReceiverTransferError.{ReceiverTransferError}
use Rattle.amqp_link_types.specs.declared.delivery.UnsettledMessage.{UnsettledMessage}
use Rattle.amqp_link_types.specs.declared.types.delivery_state.DeliveryState.TheVariants.{Accepted, Received}
use Rattle.amqp_link_types.specs.declared.types.errors.ReceiverTransferError.TheVariants.{DeliveryIdIsNone, DeliveryTagIsNone, InconsistentFieldInMultiFrameDelivery}
use Rattle.amqp_link_types.specs.declared.types.transfer.Transfer.{Transfer}
use Rattle.amqp_link_core.specs.Held.{Held, held_bytes}
use Rattle.amqp_link_payloads.specs.Sections.{is_too_long}
use Rattle.amqp_link_core.specs.IncompleteRefusals.{differs, is_inconsistent, is_of_another, start_tests, resume_tests, add_tests}
use Rattle.amqp_link_core.specs.Merging.{present, settled_by, state_by}
use Rattle.amqp_link_core.specs.Resuming.{is_beyond, rest_from, resolution}
use Rattle.amqp_link_core.specs.declared.resumption.Resolution.TheVariants.{Resuming, Outcome}
use Rattle.amqp_link_core.specs.declared.resumption.ResumingDelivery.TheVariants.{Abort, Resume}

-- a transfer at handle 0 that carries nothing else
abbrev bare : Transfer
bare = record {
  handle = record { 0 = 0 };
  delivery_id = None;
  delivery_tag = None;
  message_format = None;
  settled = None;
  more = false;
  rcv_settle_mode = None;
  state = None;
  resume = false;
  aborted = false;
  batchable = false;
}

abbrev three_bytes : Held
three_bytes = record { performative = bare; pieces = (1 ∷ 2 ∷ []) ∷ [] ∷ (3 ∷ []) ∷ [] }

pieces_are_joined : held_bytes three_bytes ≡ 1 ∷ 2 ∷ 3 ∷ []
pieces_are_joined = refl

a_true_flag_stays : settled_by (present (None ∷ Some true ∷ Some false ∷ [])) ≡ Some true
a_true_flag_stays = refl

a_false_flag_is_kept : settled_by (present (None ∷ Some false ∷ [])) ≡ Some false
a_false_flag_is_kept = refl

a_terminal_state_stays : state_by (Received 0 1 ∷ Accepted ∷ Received 0 2 ∷ []) ≡ Some Accepted
a_terminal_state_stays = refl

the_last_state_counts : state_by (Received 0 1 ∷ Received 0 2 ∷ []) ≡ Some (Received 0 2)
the_last_state_counts = refl

two_formats_differ : differs nat_eq (Some 1) (Some 2) ≡ true
two_formats_differ = refl

one_format_does_not : differs nat_eq None (Some 2) ≡ false
one_format_does_not = refl

three_bytes_can_be_counted : is_too_long (1 ∷ 2 ∷ 3 ∷ []) ≡ false
unfolding starts header_len
three_bytes_can_be_counted = refl

the_id_is_named_first : refusal (start_tests bare []) ≡ Some DeliveryIdIsNone
unfolding starts header_len
the_id_is_named_first = refl

then_the_tag : refusal (start_tests (record bare { delivery_id = Some 0 }) []) ≡ Some DeliveryTagIsNone
unfolding starts header_len
then_the_tag = refl

-- ---- deliveries that are taken up again

-- another id alone
another_id : is_inconsistent (record bare { delivery_id = Some 7 }) (record bare { delivery_id = Some 8 }) ≡ true
another_id = refl

another_id_of_the_same : is_of_another (record bare { delivery_id = Some 7 }) (record bare { delivery_id = Some 8 }) ≡ false
another_id_of_the_same = refl

of_another_format : refusal (resume_tests (record three_bytes { performative = record bare { message_format = Some 0 } })
    (record bare { delivery_id = Some 8; delivery_tag = Some (1 ∷ []); message_format = Some 1 }) []) ≡ Some InconsistentFieldInMultiFrameDelivery
unfolding starts header_len
of_another_format = refl

-- of a delivery of id 7, a further transfer of id 8, by whether it begins a delivery in this attachment
abbrev further_test : Bool → Option ReceiverTransferError
further_test begins =
    refusal (add_tests begins (record three_bytes { performative = record bare { delivery_id = Some 7 } })
    (record bare { delivery_id = Some 8; delivery_tag = Some (1 ∷ []) }) [])

further_of_another_id : (further_test false ≡ Some InconsistentFieldInMultiFrameDelivery) × (further_test true ≡ None)
unfolding starts header_len
further_of_another_id = (refl, refl)

abbrev eight : List ℕ
eight = 0x00 ∷ 0x53 ∷ 0x70 ∷ 0xC0 ∷ 0x00 ∷ 0x53 ∷ 0x77 ∷ 0x41 ∷ []

rest_of_the_first_section : rest_from eight 0 5 ≡ 0x53 ∷ 0x77 ∷ 0x41 ∷ []
unfolding starts header_len
rest_of_the_first_section = refl

no_rest : rest_from eight 1 4 ≡ []
unfolding starts header_len
no_rest = refl

all_where_there_is_no_place : rest_from eight 2 0 ≡ eight
unfolding starts header_len
all_where_there_is_no_place = refl

-- two sections, the second with its code in eight bytes
abbrev fifteen : List ℕ
fifteen = 0x00 ∷ 0x53 ∷ 0x70 ∷ 0x45 ∷ 0x00 ∷ 0x80 ∷ 0 ∷ 0 ∷ 0 ∷ 0 ∷ 0 ∷ 0 ∷ 0 ∷ 0x77 ∷ 0x41 ∷ []

rest_within_a_long_header : rest_from fifteen 0 13 ≡ 0x77 ∷ 0x41 ∷ []
unfolding starts header_len
rest_within_a_long_header = refl

all_past_a_long_header : rest_from fifteen 0 14 ≡ fifteen
unfolding starts header_len
all_past_a_long_header = refl

a_later_section_is_beyond : is_beyond 1 0 0 6 ≡ true
a_later_section_is_beyond = refl

no_front_is_beyond_itself : is_beyond 1 2 1 2 ≡ false
no_front_is_beyond_itself = refl

-- a delivery of format 5, whose state is not known
abbrev entry_of_eight : UnsettledMessage
entry_of_eight = record { payload = eight; state = None; message_format = 5 }

resumed_from_the_remote_place : resolution (1 ∷ []) entry_of_eight (Some (Some (Received 0 5)))
    ≡ Resuming (Resume entry_of_eight (0x53 ∷ 0x77 ∷ 0x41 ∷ []))
unfolding starts header_len
resumed_from_the_remote_place = refl

given_up_past_the_remote_place : resolution (1 ∷ []) (record entry_of_eight { state = Some Accepted }) (Some None)
    ≡ Resuming (Abort 5 (Some (1 ∷ [])))
unfolding starts header_len
given_up_past_the_remote_place = refl

ended_at_the_sender_alone : resolution (1 ∷ []) (record entry_of_eight { state = Some Accepted }) None
    ≡ Outcome (Ok (Some Accepted))
unfolding starts header_len
ended_at_the_sender_alone = refl
