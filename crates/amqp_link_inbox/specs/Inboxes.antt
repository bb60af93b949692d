-- An inbox as its callers see it, and what a transfer does to it (OASIS AMQP 1.0 core, 2.6.7, 2.6.12 and 2.7.5).
use Rattle.std.specs.Prelude.{◌≡◌, ◌++◌, ◌+◌, ◌%◌, ◌^◌, ◌&&◌, ◌==◌, not, Bool, true, false, ℕ, List, [], ◌∷◌, Option, Some, None, is_none, option_and_then, if◌then◌else◌}
use Rattle.std.specs.Option.{option_or}
use Rattle.amqp_link_types.specs.Entries.{Tag, Entries, entry_at}
use Rattle.amqp_link_types.specs.declared.types.errors.ReceiverTransferError.TheVariants.{DeliveryIdIsNone, DeliveryTagIsNone, IllegalRcvSettleModeInTransfer, IllegalState}
use Rattle.amqp_link_types.specs.declared.types.transfer.Transfer.{Transfer}
use Rattle.amqp_link_state.specs.Counts.{moved_to}
use Rattle.amqp_link_endpoint.specs.declared.link_parts.LinkParts.{LinkParts}
use Rattle.amqp_link_core.specs.Held.{Held}
use Rattle.amqp_link_core.specs.IncompleteRefusals.{Test, start_tests}
use Rattle.amqp_link_receiver.specs.Completing.{asks_for_another_mode, may_receive}
use Rattle.amqp_link_receiver.specs.ReceiverDeliveries.{forgotten, session_record}
use Rattle.amqp_link_receiver.specs.Receivers.{Receiver, receiver_of_parts}
use Rattle.amqp_link_inbox.specs.KeptDeliveries.{start_of}
use Rattle.amqp_link_inbox.specs.Storing.{AddsTo, Begins, Store, dropped, kept_tests, stage_at}
use Rattle.amqp_link_inbox.specs.declared.arrival.Arrival.{Arrival}
use Rattle.amqp_link_inbox.specs.declared.arrival.Arrival.TheVariants as arrival
use Rattle.amqp_link_inbox.specs.declared.arrival.Arrived.{Arrived}
use Rattle.amqp_link_inbox.specs.declared.kept.Kept.{Kept}
use Rattle.amqp_link_inbox.specs.declared.kept.Stage.{Stage}

-- What a caller sees of an inbox with a target of type T.
pub record InboxState (T : Type 0) : Type 0 where
  pub link : Receiver T
  -- what is kept of each delivery by its tag
  pub deliveries : Entries Kept
  -- what is held of the complete deliveries that are settled and were not taken, in the order in which they became so
  pub settled : List Held
  -- the tag of the delivery of which more is to come
  pub under_way : Option Tag

-- The tests of a transfer by its contents: none of one that aborts its delivery; those of a first one that begins a new
-- delivery; of any other those by what is kept.
abbrev pub content_tests : Bool → Bool → Bool → Option Kept → Transfer → List ℕ → List Test
content_tests true new begins kept t bytes = []
content_tests false true begins kept t bytes = start_tests t bytes
content_tests false false begins kept t bytes = kept_tests begins kept t bytes

module _ {T : Type 0} where
  -- an inbox of a link with these parts: not attached, and nothing is kept
  abbrev pub inbox_of_parts : LinkParts T → InboxState T
  inbox_of_parts parts = record { link = receiver_of_parts parts; deliveries = []; settled = []; under_way = None }

  -- an inbox of this link, with what is kept of all deliveries
  abbrev pub inbox_with : Store → Receiver T → Option Tag → InboxState T
  inbox_with store link under_way = record { link = link; deliveries = store.entries; settled = store.settled; under_way = under_way }

  abbrev pub store_of : InboxState T → Store
  store_of s = record { entries = s.deliveries; settled = s.settled }

  -- ---- a transfer

  -- whether it is the first one of a delivery in this attachment
  abbrev pub begins : InboxState T → Bool
  begins s = is_none s.under_way

  -- the tag of its delivery: of the one under way, or the one that it carries
  abbrev pub tag_of : InboxState T → Transfer → Option Tag
  tag_of s t = option_or s.under_way t.delivery_tag

  -- what is kept of that delivery
  abbrev pub kept_by : InboxState T → Transfer → Option Kept
  kept_by s t = option_and_then (entry_at s.deliveries) (tag_of s t)

  -- whether it begins a new delivery, for one credit
  abbrev pub is_new : InboxState T → Transfer → Bool
  is_new s t = begins s && not t.resume

  -- the position from which it resumes its delivery, if it says so
  abbrev pub resumed_at : InboxState T → Transfer → Option (ℕ × ℕ)
  resumed_at s t = start_of (begins s) t

  -- a delivery that its sender has begun is counted, and what the sender may reach stays
  abbrev pub counted : Receiver T → Receiver T
  counted r = record r { flow_state = moved_to ((r.flow_state.delivery_count + 1) % 2 ^ 32) r.flow_state }

  -- the tests of its fields
  abbrev pub field_tests : InboxState T → Transfer → List Test
  field_tests s t =
      (not (may_receive s.link.local_state), IllegalState)
      ∷ (begins s && is_none t.delivery_id, DeliveryIdIsNone)
      ∷ (begins s && is_none t.delivery_tag, DeliveryTagIsNone)
      ∷ (is_new s t && asks_for_another_mode s.link t, IllegalRcvSettleModeInTransfer)
      ∷ []

  -- What it does to what is kept and to the link. One that aborts its delivery leaves nothing of it; one that begins a new
  -- delivery is counted; any other is added to what is kept.
  abbrev pub Handles : Bool → Bool → Bool → Tag → Transfer → List ℕ → Store → Receiver T → Arrival → Option Stage → Store → Receiver T → Type 0
  Handles true new begins tag t bytes old before came replaced store after =
      (store ≡ dropped tag old) × (after ≡ forgotten tag before) × (came ≡ arrival.Aborted (stage_at old.entries tag)) × (replaced ≡ None)
  Handles false true begins tag t bytes old before came replaced store after =
      (link : Receiver T) × Begins tag t bytes old before came replaced store link × (after ≡ counted link)
  Handles false false begins tag t bytes old before came replaced store after =
      AddsTo (entry_at old.entries tag) begins tag t bytes old before came store after × (replaced ≡ None)

  abbrev pub tests_by_contents : InboxState T → Transfer → List ℕ → List Test
  tests_by_contents s t bytes = content_tests t.aborted (is_new s t) (begins s) (kept_by s t) t bytes

  -- all tests
  abbrev pub arrival_tests : InboxState T → Transfer → List ℕ → List Test
  arrival_tests s t bytes = field_tests s t ++ tests_by_contents s t bytes

  -- the inbox once the transfer is handled, and before the link notes whether more is to come
  pub record IsHandled (old : InboxState T) (t : Transfer) (bytes : List ℕ) (came : Arrival) (replaced : Option Stage) (new : InboxState T) : Type 0 where
    pub tag : Tag
    pub tag_is : tag_of old t ≡ Some tag
    pub handles : Handles t.aborted (is_new old t) (begins old) tag t bytes (store_of old) old.link came replaced (store_of new) new.link
    pub under_way : new.under_way ≡ Some tag

  -- The whole: the delivery's tag is kept while more of it is to come, and returned with the last transfer.
  pub record Arrives (old : InboxState T) (t : Transfer) (bytes : List ℕ) (came : Arrived) (new : InboxState T) : Type 0 where
    pub tag : Tag
    pub tag_is : tag_of old t ≡ Some tag
    pub link : Receiver T
    pub handles : Handles t.aborted (is_new old t) (begins old) tag t bytes (store_of old) old.link came.arrival came.replaced (store_of new) link
    pub link_is : new.link ≡ record link { more = t.more }
    pub under_way : new.under_way ≡ (if t.more then Some tag else None)
    pub last : came.tag ≡ (if t.more then None else Some tag)
    pub credit : came.without_credit ≡ (not t.aborted && is_new old t && (old.link.flow_state.link_credit == 0))
    pub session : came.session ≡ session_record old.link t
