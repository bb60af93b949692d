-- How an inbox is attached (OASIS AMQP 1.0 core, 2.6.3 and 2.6.13).
use Rattle.std.specs.Prelude.{not, ◌&&◌, Bool, true, false, List, [], map, Option, Some, None, is_some, if◌then◌else◌}
use Rattle.std.specs.List.{filter}
use Rattle.amqp_link_types.specs.Entries.{Tag, Entries, entry_at, without_entries}
use Rattle.amqp_link_types.specs.declared.types.attach.Attach.{Attach}
use Rattle.amqp_link_types.specs.declared.types.errors.ReceiverAttachError.{ReceiverAttachError}
use Rattle.amqp_link_types.specs.declared.types.errors.ReceiverAttachError.TheVariants as error
use Rattle.amqp_link_receiver.specs.ReceiverAttaches.{receiver_taken}
use Rattle.amqp_link_receiver.specs.Receivers.{Receiver}
use Rattle.amqp_link_inbox.specs.Inboxes.{InboxState}
use Rattle.amqp_link_inbox.specs.KeptDeliveries.{stage_of}
use Rattle.amqp_link_inbox.specs.declared.inbox.attach.Forgotten.{Forgotten}
use Rattle.amqp_link_inbox.specs.declared.kept.Kept.{Kept}

-- ---- the attach that is sent

-- one that reattaches gives up all that is kept by a tag
abbrev pub kept_after : Bool → Entries Kept → Entries Kept
kept_after is_reattaching entries = if is_reattaching then [] else entries

-- ---- the attach that arrives

-- whether a map has an entry for the delivery; no map has none
abbrev pub is_stated_in : {V : Type 0} → Option (Entries V) → Tag → Bool
is_stated_in None tag = false
is_stated_in (Some entries) tag = is_some (entry_at entries tag)

-- the sender does not know the delivery any more: its map is complete, and lacks it
abbrev pub forgets : Attach → Tag → Bool
forgets attach tag = not attach.incomplete_unsettled && not (is_stated_in attach.unsettled tag)

-- those of the deliveries that are kept which it forgets, and how far each had come
abbrev pub forgotten_by : Attach → Entries Kept → List Forgotten
forgotten_by attach entries =
    map (λ e. record { tag = e.0; stage = stage_of e.1 }) (filter (λ e. forgets attach e.0) entries)

abbrev pub forgotten_tags : List Forgotten → List Tag
forgotten_tags forgotten = map (λ f. f.tag) forgotten

-- no delivery has an id in the present attachment before its sender has resumed it
abbrev pub without_ids : Entries Kept → Entries Kept
without_ids entries = map (λ e. (e.0, record e.1 { id = None })) entries

-- whether a refusal leaves the link as it was
abbrev pub leaves_all : ReceiverAttachError → Bool
leaves_all error.IllegalState = true
leaves_all error.OutOfMemory = true
leaves_all _ = false

module _ {T : Type 0} where
  -- the inbox once the attach is taken: of what its sender has forgotten nothing is kept, and nothing is stated
  abbrev pub attached_by : Attach → InboxState T → InboxState T
  attached_by attach s = record s {
    link = record (receiver_taken s.link attach) {
      unsettled = without_entries s.link.unsettled (forgotten_tags (forgotten_by attach s.deliveries));
    };
    deliveries = without_ids (without_entries s.deliveries (forgotten_tags (forgotten_by attach s.deliveries)));
    under_way = None;
  }

  -- the inbox once it is refused, with the link that the refusal leaves
  abbrev pub refused_by : ReceiverAttachError → Receiver T → InboxState T → InboxState T
  refused_by refusal link s = if leaves_all refusal then record s { link = link }
      else record s { link = link; deliveries = without_ids s.deliveries; under_way = None }
