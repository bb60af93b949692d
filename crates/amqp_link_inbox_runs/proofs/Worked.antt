-- Values of the definitions that were worked out by hand: docs/DEFINITIONS.md lists them.
use Rattle.std.proofs.Common.{◌≡◌, [], ◌∷◌, refl, true, false, Some, None, Ok}
use Rattle.amqp_link_payloads.specs.Header.{header_len}
use Rattle.amqp_link_payloads.specs.Position.{starts}
use Rattle.amqp_link_types.specs.Frames.{silent}
use Rattle.amqp_link_types.specs.declared.types.delivery_state.DeliveryState.TheVariants.{Accepted}
use Rattle.amqp_link_types.specs.declared.types.performatives.LinkFlow.{LinkFlow}
use Rattle.amqp_link_types.specs.declared.types.transfer.Transfer.{Transfer}
use Rattle.amqp_link_inbox.specs.Inboxes.{InboxState}
use Rattle.amqp_link_inbox.specs.declared.arrival.Arrival.TheVariants as arrival
use Rattle.amqp_link_inbox.specs.declared.arrival.Arrived.{Arrived}
use Rattle.amqp_link_inbox_runs.specs.FromLedger.{brought, since_begun}
use Rattle.amqp_link_inbox_runs.specs.InboxRuns.{Moment, came, come_by, does_begin, is_among, joined, last_stated, names, start_for, takes, until_begun}
use Rattle.amqp_link_inbox_runs.specs.declared.call.AnswerOf.TheVariants as answer
use Rattle.amqp_link_inbox_runs.specs.declared.call.Call.TheVariants as call

named : names (1 ∷ []) (Some (1 ∷ [])) ≡ true
named = refl

not_named : names (1 ∷ []) None ≡ false
not_named = refl

second_of_two : is_among (2 ∷ []) ((1 ∷ []) ∷ (2 ∷ []) ∷ []) ≡ true
second_of_two = refl

-- the first transfer of a delivery
abbrev first : Transfer
first = record silent { delivery_id = Some 0; delivery_tag = Some (1 ∷ []) }

module _ (T B : Type 0) (w : InboxState T) (arrived : Arrived) (flow : LinkFlow) where
  -- 07 comes as the first transfer of 01
  abbrev begun : Moment T B
  begun = record {
    before = record w { under_way = None };
    call = call.OnIncomingTransfer first (7 ∷ []);
    answer = answer.Arrived (Ok arrived);
    after = w;
  }

  -- an outcome of 01 is kept
  abbrev accepted : Moment T B
  accepted = record { before = w; call = call.KeepOutcome (1 ∷ []) Accepted; answer = answer.OutcomeKept (Ok tt); after = w }

  -- a flow comes
  abbrev flowed : Moment T B
  flowed = record { before = w; call = call.OnIncomingFlow flow; answer = answer.FlowTaken (Ok None); after = w }

  begins_01 : does_begin (1 ∷ []) begun ≡ true
  begins_01 = refl

  brings_of_01 : brought (1 ∷ []) begun ≡ 7 ∷ []
  brings_of_01 = refl

  brings_nothing_of_02 : brought (2 ∷ []) begun ≡ []
  brings_nothing_of_02 = refl

  stands_alone : came (9 ∷ []) (1 ∷ []) (flowed ∷ begun ∷ []) ≡ 7 ∷ []
  stands_alone = refl

  of_02_all_stays : came (9 ∷ []) (2 ∷ []) (flowed ∷ begun ∷ []) ≡ 9 ∷ []
  of_02_all_stays = refl

  -- resumed from the second byte on
  stands_where_it_starts : come_by true false (Some (0, 1)) (8 ∷ 9 ∷ []) (7 ∷ 8 ∷ []) ≡ 7 ∷ 8 ∷ 9 ∷ []
  unfolding starts header_len
  stands_where_it_starts = refl

  known_one_starts_nowhere : start_for arrival.Known (Some (0, 1)) ≡ None
  known_one_starts_nowhere = refl

  since_it_began : since_begun (1 ∷ []) (flowed ∷ begun ∷ accepted ∷ []) ≡ begun ∷ accepted ∷ []
  since_it_began = refl

  until_it_began : until_begun (1 ∷ []) (flowed ∷ begun ∷ accepted ∷ []) ≡ flowed ∷ []
  until_it_began = refl

  takes_nothing : takes (1 ∷ []) accepted ≡ false
  takes_nothing = refl

  states_the_outcome : last_stated (1 ∷ []) (accepted ∷ flowed ∷ []) ≡ Some (Some Accepted)
  states_the_outcome = refl

  joins_nothing : joined flowed ≡ []
  joins_nothing = refl
