-- Deliveries of an inbox are disposed of, or settled by their sender (OASIS AMQP 1.0 core, 2.6.12 and 2.7.6).
use Rattle.std.specs.Prelude.{◌≡◌, ◌⊎◌, ℕ, Bool, true, false, List, [], ◌∷◌, Option, Some, None, Result, Ok, Err, if◌then◌else◌}
use Rattle.std.specs.List.{filter}
use Rattle.amqp_link_state.specs.declared.state.LinkState.{LinkState}
use Rattle.amqp_link_types.specs.Deliveries.{Info}
use Rattle.amqp_link_types.specs.Entries.{Tag, Entries, entry_at, without_entries, without_entry}
use Rattle.amqp_link_types.specs.declared.types.delivery_state.DeliveryState.{DeliveryState}
use Rattle.amqp_link_types.specs.declared.types.definitions.ReceiverSettleMode.{ReceiverSettleMode}
use Rattle.amqp_link_dispositions.specs.Keeping.{after_dispositions, after_one, is_settled_one, map_after_sender_disposition, tags_of}
use Rattle.amqp_link_dispositions.specs.Listed.{kept_in_order}
use Rattle.amqp_link_receiver.specs.Completing.{may_receive}
use Rattle.amqp_link_inbox.specs.Inboxes.{InboxState, inbox_with, store_of}
use Rattle.amqp_link_inbox.specs.KeptDeliveries.{has_begun}
use Rattle.amqp_link_inbox.specs.Storing.{Store, stored}
use Rattle.amqp_link_inbox.specs.declared.error.DisposeError.{DisposeError}
use Rattle.amqp_link_inbox.specs.declared.error.DisposeError.TheVariants as error
use Rattle.amqp_link_inbox.specs.declared.kept.Contents.{Contents}
use Rattle.amqp_link_inbox.specs.declared.kept.Contents.TheVariants as contents
use Rattle.amqp_link_inbox.specs.declared.kept.Kept.{Kept}

-- ---- by the receiver's user

-- why an outcome of this delivery is not taken; a settled one has none
abbrev pub outcome_refusal_in : Bool → Contents → Option DisposeError
outcome_refusal_in true contents = Some error.UnknownTag
outcome_refusal_in false contents.Taken = None
outcome_refusal_in false contents = Some error.NotTaken

abbrev pub outcome_refusal : Option Kept → Option DisposeError
outcome_refusal None = Some error.UnknownTag
outcome_refusal (Some kept) = outcome_refusal_in kept.settled kept.contents

-- the info of a delivery with an id
abbrev pub info_with : Tag → Option ReceiverSettleMode → Option ℕ → Result Info DisposeError
info_with tag mode None = Err error.NotResumed
info_with tag mode (Some id) = Ok (record { delivery_id = id; delivery_tag = tag; rcv_settle_mode = mode })

abbrev pub info_kept : Option Kept → Tag → Result Info DisposeError
info_kept None tag = Err error.UnknownTag
info_kept (Some kept) tag = info_with tag kept.mode kept.id

abbrev pub info_unless : Option DisposeError → Option Kept → Tag → Result Info DisposeError
info_unless (Some refusal) kept tag = Err refusal
info_unless None kept tag = info_kept kept tag

-- What a disposition of this delivery names it by: its id in the present attachment, its tag and its mode; or why there
-- is none.
abbrev pub info_to_dispose : LinkState → Option Kept → Tag → Result Info DisposeError
info_to_dispose state kept tag =
    if may_receive state then info_unless (outcome_refusal kept) kept tag else Err error.NotAttached

-- those of several, or why the first of them that has none has none
abbrev pub infos_and : Result Info DisposeError → Result (List Info) DisposeError → Result (List Info) DisposeError
infos_and (Err refusal) rest = Err refusal
infos_and (Ok info) (Err refusal) = Err refusal
infos_and (Ok info) (Ok infos) = Ok (info ∷ infos)

abbrev pub infos_to_dispose : LinkState → Entries Kept → List Tag → Result (List Info) DisposeError
infos_to_dispose state entries [] = Ok []
infos_to_dispose state entries (tag ∷ tags) =
    infos_and (info_to_dispose state (entry_at entries tag) tag) (infos_to_dispose state entries tags)

-- the tags of those that a disposition settles, by the flag that is passed and the link's mode
abbrev pub settled_tags : Option Bool → ReceiverSettleMode → List Info → List Tag
settled_tags given own infos = tags_of (filter (is_settled_one given own) infos)

-- the answer of a call for what is asked; memory comes after every refusal
abbrev pub AnswersOutcome : {A I : Type 0} → Result I DisposeError → Result A DisposeError → Type 0
AnswersOutcome {I = I} asked (Ok answer) = (info : I) × (asked ≡ Ok info)
AnswersOutcome {I = I} asked (Err refusal) = ((refusal ≡ error.OutOfMemory) × (info : I) × (asked ≡ Ok info)) ⊎ (asked ≡ Err refusal)

-- what is kept once a disposition has settled a delivery, or not
abbrev pub after_settling : Bool → Tag → Entries Kept → Entries Kept
after_settling settled tag entries = if settled then without_entry entries tag else entries

-- ---- by its sender

-- What is kept once the sender has settled a delivery: a complete one waits to be taken, and one that was taken is kept no
-- longer.
abbrev pub settled_in : Option Kept → Tag → Store → Store
settled_in None tag s = s
settled_in (Some kept) tag s = stored (has_begun kept.contents) tag (record kept { settled = true }) s

abbrev pub settled_at : Tag → Store → Store
settled_at tag s = settled_in (entry_at s.entries tag) tag s

-- ---- the inbox after it

module _ {T : Type 0} where
  -- a delivery is disposed of, and settled or not
  abbrev pub disposed : Bool → DeliveryState → Tag → InboxState T → InboxState T
  disposed settled state tag s = record s {
    link = record s.link { unsettled = after_one settled state tag s.link.unsettled };
    deliveries = after_settling settled tag s.deliveries;
  }

  -- several are, each settled by the flag that is passed, its own mode, or the link's
  abbrev pub all_disposed : Option Bool → DeliveryState → List Info → InboxState T → InboxState T
  all_disposed given state infos s = record s {
    link = record s.link {
      unsettled = after_dispositions (is_settled_one given s.link.rcv_settle_mode) state (kept_in_order s.link.unsettled infos) s.link.unsettled;
    };
    deliveries = without_entries s.deliveries (settled_tags given s.link.rcv_settle_mode infos);
  }

  -- the sender has settled a delivery, or stated this state of it
  abbrev pub after_sender_disposition : Bool → Option DeliveryState → Tag → InboxState T → InboxState T
  after_sender_disposition settled state tag s = inbox_with (if settled then settled_at tag (store_of s) else store_of s)
      (record s.link { unsettled = map_after_sender_disposition settled state tag s.link.unsettled }) s.under_way
