-- Values of the definitions that were worked out by hand: docs/DEFINITIONS.md lists them.
use Rattle.std.proofs.Common.{◌≡◌, [], ◌∷◌, refl, List, true, false, Option, Some, None, Ok, Err}
use Rattle.amqp_link_types.specs.declared.delivery.UnsettledMessage.{UnsettledMessage}
use Rattle.amqp_link_types.specs.declared.types.delivery_state.DeliveryState.TheVariants as state
use Rattle.amqp_link_types.specs.declared.types.delivery_state.DeliveryState.{DeliveryState}
use Rattle.amqp_link_types.specs.declared.types.errors.LinkStateError.TheVariants as error
use Rattle.amqp_link_types.specs.declared.types.definitions.ReceiverSettleMode.TheVariants.{First, Second}
use Rattle.amqp_link_types.specs.Deliveries.{Info}
use Rattle.amqp_link_types.specs.Entries.{Entries}
use Rattle.amqp_link_dispositions.specs.Listed.{tags_in_order, firsts, kept_in_order}
use Rattle.amqp_link_dispositions.specs.Ending.{settled_of, ended_of, does_end, all_closed, detach_allocates}
use Rattle.amqp_link_dispositions.specs.Groups.{group_out}
use Rattle.amqp_link_dispositions.specs.DispositionFrames.{settles_at_once, is_settled_by, disposition_of_run, numbers_named_by}
use Rattle.amqp_link_dispositions.specs.Keeping.{is_settled_one, after_dispositions}

tags_by_number : tags_in_order ((5, 1 ∷ []) ∷ (3, 2 ∷ []) ∷ (5, 3 ∷ []) ∷ []) ≡ (2 ∷ []) ∷ (1 ∷ []) ∷ (3 ∷ []) ∷ []
tags_by_number = refl

firsts_of_three : firsts ((1 ∷ []) ∷ (2 ∷ []) ∷ (1 ∷ []) ∷ []) ≡ (1 ∷ []) ∷ (2 ∷ []) ∷ []
firsts_of_three = refl

-- 01 with state accepted, 02 with none
abbrev two_kept : Entries UnsettledMessage
two_kept =
    (1 ∷ [], record { payload = []; state = Some state.Accepted; message_format = 0 })
    ∷ (2 ∷ [], record { payload = []; state = None; message_format = 0 })
    ∷ []

-- the stored states, each once, and none of 03, which is not kept
ended_by_stored_state : settled_of two_kept ((2 ∷ []) ∷ (3 ∷ []) ∷ (1 ∷ []) ∷ (2 ∷ []) ∷ []) ≡ (2 ∷ [], Ok None) ∷ (1 ∷ [], Ok (Some state.Accepted)) ∷ []
ended_by_stored_state = refl

nothing_ends_unsettled : ended_of false ((1 ∷ []) ∷ []) two_kept ≡ []
nothing_ends_unsettled = refl

received_does_not_end : does_end false (Some (state.Received 0 3)) ≡ false
received_does_not_end = refl

accepted_ends : does_end false (Some state.Accepted) ≡ true
accepted_ends = refl

closed_without_error : all_closed None two_kept ≡ (1 ∷ [], Err error.RemoteClosed) ∷ (2 ∷ [], Err error.RemoteClosed) ∷ []
closed_without_error = refl

-- a closing detach without error resolves those two; without deliveries there is nothing to allocate
closing_two_allocates : detach_allocates (record { handle = record { 0 = 3 }; closed = true; error = None }) two_kept ≡ true
closing_two_allocates = refl

closing_none_does_not : detach_allocates (record { handle = record { 0 = 3 }; closed = true; error = None }) [] ≡ false
closing_none_does_not = refl

detaching_two_does_not : detach_allocates (record { handle = record { 0 = 3 }; closed = false; error = None }) two_kept ≡ false
detaching_two_does_not = refl

group_of_two : group_out (record { run = record { first = 1; last = 2 }; mode = Some Second }) ≡ (1, Some Second) ∷ (2, Some Second) ∷ []
group_of_two = refl

-- as its user passes, else by its own mode, else by the link's
user_decides : is_settled_by (Some false) First (Some First) ≡ false
user_decides = refl

own_mode_decides : is_settled_by None First (Some Second) ≡ false
own_mode_decides = refl

link_decides : is_settled_by None First None ≡ true
link_decides = refl

mode_first_settles_at_once : settles_at_once First ≡ true
mode_first_settles_at_once = refl

-- one number stands alone, and names itself
one_is_named : numbers_named_by (disposition_of_run true state.Accepted false (record { first = 7; last = 7 })) ≡ 7 ∷ []
one_is_named = refl

-- three deliveries of which the first has no mode of its own, and the others are to be settled after
-- the sender has
abbrev three_listed : List Info
three_listed =
    record { delivery_id = 0; delivery_tag = 0 ∷ []; rcv_settle_mode = None }
    ∷ record { delivery_id = 1; delivery_tag = 1 ∷ []; rcv_settle_mode = Some Second }
    ∷ record { delivery_id = 2; delivery_tag = 2 ∷ []; rcv_settle_mode = Some Second }
    ∷ []

abbrev three_kept : Entries (Option DeliveryState)
three_kept = (0 ∷ [], None) ∷ (1 ∷ [], None) ∷ (2 ∷ [], None) ∷ []

-- at a link that settles at once the first goes, and the last moves into the gap
-- the second is not kept
first_and_last_are_kept : kept_in_order {V = Option DeliveryState} ((0 ∷ [], None) ∷ (2 ∷ [], None) ∷ []) three_listed ≡
    record { delivery_id = 0; delivery_tag = 0 ∷ []; rcv_settle_mode = None }
    ∷ record { delivery_id = 2; delivery_tag = 2 ∷ []; rcv_settle_mode = Some Second }
    ∷ []
first_and_last_are_kept = refl

settled_one_goes : after_dispositions (is_settled_one None First) state.Accepted three_listed three_kept
    ≡ (2 ∷ [], Some state.Accepted) ∷ (1 ∷ [], Some state.Accepted) ∷ []
settled_one_goes = refl

-- listed twice, once to be settled, a delivery goes and does not come back
settled_stays_away : after_dispositions (is_settled_one None First) state.Accepted
    (record { delivery_id = 0; delivery_tag = 0 ∷ []; rcv_settle_mode = Some First } ∷ record { delivery_id = 1; delivery_tag = 0 ∷ []; rcv_settle_mode = Some Second } ∷ [])
    ((0 ∷ [], None) ∷ []) ≡ []
settled_stays_away = refl
