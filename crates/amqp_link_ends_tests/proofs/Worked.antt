-- Values of the definitions that were worked out by hand: docs/DEFINITIONS.md lists them.
use Rattle.std.proofs.Common.{◌≡◌, ℕ, true, false, List, [], ◌∷◌, refl, Some, None, Result, Ok}
use Rattle.std.specs.Prelude.{codes}
use Rattle.amqp_link_types.specs.Refusals.{refusal}
use Rattle.amqp_link_types.specs.Size.{transfer_len, before, list_of}
use Rattle.amqp_link_types.specs.declared.types.transfer.Transfer.{Transfer}
use Rattle.amqp_link_state.specs.declared.role.SenderMarker.{SenderMarker}
use Rattle.amqp_link_state.specs.declared.state.LinkState.TheVariants.{Attached, Detached}
use Rattle.amqp_link_types.specs.declared.types.definitions.ReceiverSettleMode.TheVariants.{First, Second}
use Rattle.amqp_link_types.specs.declared.types.definitions.SenderSettleMode.TheVariants as mode
use Rattle.amqp_link_types.specs.declared.types.errors.LinkStateError.TheVariants.{IllegalState, NoRoom}
use Rattle.amqp_link_types.specs.Frames.{frame_of}
use Rattle.amqp_link_types.specs.declared.types.definitions.InputHandle.{InputHandle}
use Rattle.amqp_link_split.specs.Fitting.{frame_len}
use Rattle.amqp_link_split.specs.Room.{worst, has_room, payload_limit}
use Rattle.amqp_link_types.specs.declared.types.terminus.Target.{Target}
use Rattle.amqp_link_payloads.specs.declared.error.DecodeError.{DecodeError}
use Rattle.amqp_link_types.specs.declared.types.errors.ReceiverTransferError.TheVariants.{DeliveryIdIsNone, TransferLimitExceeded}
use Rattle.amqp_link_payloads.specs.declared.message.Message.{Message}
use Rattle.amqp_link_endpoint.specs.declared.link_inner.LinkInner.{LinkInner}
use Rattle.amqp_link_endpoint.specs.Links.{Endpoint, inner_of, released, with_inner, without_session}
use Rattle.amqp_link_endpoint.specs.AttachTests.{first_of}
use Rattle.amqp_link_receiver.specs.Completing.{is_illegal_mode, info_of, unsettled_tag, transfer_refusal, completion_refusal}
use Rattle.amqp_link_receiver.specs.ReceiverDeliveries.{is_settled, session_record}
use Rattle.amqp_link_receiver.specs.Receivers.{Receiver}
use Rattle.amqp_link_sender.specs.Senders.{Sender, next_tag, delivery_of, settled_by_mode, payload_tests, missing_credit, refused}

-- the transfer of a new delivery at handle 0 with a 4-byte tag, format 0, not settled
abbrev at_rest : Transfer
at_rest = record {
  handle = record { 0 = 0 };
  delivery_id = None;
  delivery_tag = Some (0 ∷ 0 ∷ 0 ∷ 0 ∷ []);
  message_format = Some 0;
  settled = Some false;
  more = false;
  rcv_settle_mode = None;
  state = None;
  resume = false;
  aborted = false;
  batchable = false;
}

worst_at_rest : worst at_rest ≡ 21
unfolding transfer_len before list_of
worst_at_rest = refl

limit_at_30 : payload_limit at_rest 30 ≡ 5
unfolding transfer_len before list_of
limit_at_30 = refl

room_for_none_at_25 : has_room at_rest 25 [] ≡ true
unfolding transfer_len before list_of
room_for_none_at_25 = refl

no_room_for_one_at_25 : has_room at_rest 25 (7 ∷ []) ≡ false
unfolding transfer_len before list_of
no_room_for_one_at_25 = refl

-- twelve bytes at a limit of 30
abbrev at_handle : InputHandle
at_handle = record { 0 = 0 }

first_of_three : frame_len (frame_of at_handle at_rest 0 3 (7 ∷ 7 ∷ 7 ∷ 7 ∷ 7 ∷ [])) ≡ 30
unfolding transfer_len before list_of
first_of_three = refl

second_of_three : frame_len (frame_of at_handle at_rest 1 3 (7 ∷ 7 ∷ 7 ∷ 7 ∷ 7 ∷ [])) ≡ 21
unfolding transfer_len before list_of
second_of_three = refl

third_of_three : frame_len (frame_of at_handle at_rest 2 3 (7 ∷ 7 ∷ [])) ≡ 13
unfolding transfer_len before list_of
third_of_three = refl

-- ---- sends

-- the link "l" in mode first with handles 0, at this count, at 25 bytes a frame, with this credit
abbrev attached_at : {D M : Type 0} → ℕ → ℕ → D → M → Endpoint Target D M
attached_at count credit unsettled more = record {
  local_state = Attached;
  name = codes "l";
  snd_settle_mode = mode.Mixed;
  rcv_settle_mode = First;
  source = None;
  target = None;
  max_message_size = 0;
  offered_capabilities = None;
  desired_capabilities = None;
  output_handle = Some (record { 0 = 0 });
  input_handle = Some (record { 0 = 0 });
  flow_state = record {
    initial_delivery_count = 0;
    delivery_count = count;
    link_credit = credit;
    available = 0;
    drain = false;
    properties = None;
  };
  max_frame_size = 25;
  verify_incoming_source = false;
  verify_incoming_target = false;
  unsettled = unsettled;
  more = more;
}

-- a sender, whose count is 258, with this credit
abbrev link : ℕ → Sender Target
link credit = attached_at 258 credit [] tt

-- the part that both roles hold, put back, released by a detach, and after the session is lost
abbrev part : LinkInner SenderMarker Target
part = inner_of (link 0)

own_part_changes_nothing : with_inner (link 0) part ≡ link 0
own_part_changes_nothing = refl

detach_releases_one_handle : with_inner (link 0) (released Detached part) ≡ record (link 0) { local_state = Detached; output_handle = None }
detach_releases_one_handle = refl

lost_session_releases_both : with_inner (link 0) (without_session part) ≡ record (link 0) { local_state = Detached; output_handle = None; input_handle = None }
lost_session_releases_both = refl

count_names_the_delivery : next_tag (link 0) ≡ 0 ∷ 0 ∷ 1 ∷ 2 ∷ []
count_names_the_delivery = refl

settled_mode_settles : settled_by_mode mode.Settled (Some false) ≡ true
settled_mode_settles = refl

mixed_mode_asks : settled_by_mode mode.Mixed (Some true) ≡ true
mixed_mode_asks = refl

unset_is_unsettled : settled_by_mode mode.Mixed None ≡ false
unset_is_unsettled = refl

handle_comes_first : refusal (payload_tests (record (link 0) { output_handle = None }) (delivery_of 0 None None false) []) ≡ Some (refused IllegalState)
unfolding transfer_len before list_of
handle_comes_first = refl

then_the_credit : refusal (payload_tests (link 0) (delivery_of 0 None None false) (7 ∷ [])) ≡ Some missing_credit
unfolding transfer_len before list_of
then_the_credit = refl

then_the_room : refusal (payload_tests (link 1) (delivery_of 0 None None false) (7 ∷ [])) ≡ Some (refused NoRoom)
unfolding transfer_len before list_of
then_the_room = refl

nothing_stands_against_it : refusal (payload_tests (link 1) (delivery_of 0 None None false) []) ≡ None
unfolding transfer_len before list_of
nothing_stands_against_it = refl

-- ---- deliveries that a receiver takes

-- a receiver at the last count, with this credit
abbrev receiver : ℕ → Receiver Target
receiver credit = attached_at 4294967295 credit [] false

-- the transfer of delivery 3 with tag 01, in mode second
abbrev third : Transfer
third = record at_rest {
  delivery_id = Some 3;
  delivery_tag = Some (1 ∷ []);
  settled = None;
  rcv_settle_mode = Some Second;
}

unset_flag_settles_nothing : is_settled third ≡ false
unset_flag_settles_nothing = refl

session_gets_it_in_mode_second : session_record (record (receiver 1) { rcv_settle_mode = Second }) third ≡ Some (3, 1 ∷ [])
session_gets_it_in_mode_second = refl

session_gets_nothing_in_mode_first : session_record (receiver 1) third ≡ None
session_gets_nothing_in_mode_first = refl

second_is_illegal_at_first : is_illegal_mode First (Some Second) ≡ true
second_is_illegal_at_first = refl

first_is_legal_at_second : is_illegal_mode Second (Some First) ≡ false
first_is_legal_at_second = refl

settled_delivery_has_no_mode : info_of (record third { settled = Some true }) ≡
    record { delivery_id = 3; delivery_tag = 1 ∷ []; rcv_settle_mode = None }
settled_delivery_has_no_mode = refl

settled_delivery_is_not_kept : unsettled_tag (record third { settled = Some true }) ≡ None
settled_delivery_is_not_kept = refl

unsettled_delivery_is_kept : unsettled_tag third ≡ Some (1 ∷ [])
unsettled_delivery_is_kept = refl

first_line_that_stands : first_of {E = ℕ} (None ∷ Some 5 ∷ Some 7 ∷ []) ≡ Some 5
first_line_that_stands = refl

id_is_missed_first : transfer_refusal (receiver 1) (record third { delivery_id = None; delivery_tag = None }) ≡ Some DeliveryIdIsNone
id_is_missed_first = refl

-- a message of no bytes
abbrev read : Result (Message (List ℕ)) DecodeError
read = Ok (record { preamble = []; body = []; footer = [] })

missing_id_costs_the_credit : completion_refusal (receiver 1) (record third { delivery_id = None }) 0 2 read ≡
    Some (
      DeliveryIdIsNone,
      record (receiver 0) {
        flow_state = record {
          initial_delivery_count = 0;
          delivery_count = 0;
          link_credit = 0;
          available = 0;
          drain = false;
          properties = None;
        };
      },
    )
missing_id_costs_the_credit = refl

missing_credit_costs_nothing : completion_refusal (receiver 0) (record third { delivery_id = None }) 0 2 read ≡
    Some (TransferLimitExceeded, receiver 0)
missing_credit_costs_nothing = refl
