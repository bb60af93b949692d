-- Sends of a ledger (OASIS AMQP 1.0 core, 2.6.12 and 2.7.5): the tag under which a delivery is registered,
-- and the records after it.
use Rattle.std.specs.Prelude.{◌≡◌, ◌==◌, ◌&&◌, ◌||◌, not, Bool, Option, Some, None, IsTrue, is_some, is_none, if◌then◌else◌}
use Rattle.amqp_link_types.specs.Entries.{Tag}
use Rattle.amqp_link_types.specs.declared.delivery.Settlement.{Settlement}
use Rattle.amqp_link_types.specs.declared.delivery.Settlement.TheVariants as settlement
use Rattle.amqp_link_types.specs.declared.types.transfer.Transfer.{Transfer}
use Rattle.amqp_link_sender.specs.declared.sender_link.Sending.{Sending}
use Rattle.amqp_link_sender.specs.declared.sender_link.Sending.TheVariants as sending
use Rattle.amqp_link_sender.specs.declared.sender_link.Waiting.{Waiting}
use Rattle.amqp_link_sender.specs.declared.sender_link.Waiting.TheVariants as waiting
use Rattle.amqp_link_sender.specs.Senders.{Sender, settled_by_mode, settled_on_send}
use Rattle.amqp_link_ledger.specs.Fates.{Records, RecordsAndRoom, Enters, after, pending_count}

-- ---- the records after a send

-- a delivery that awaits its outcome is registered
abbrev pub after_settlement : Settlement → Records → Records
after_settlement (settlement.Settled tag) records = records
after_settlement (settlement.Unsettled tag) records = after (Enters tag) records

abbrev pub records_after_sending : Sending → Records → Records
records_after_sending (sending.Sent settlement frames) records = after_settlement settlement records
records_after_sending sending.CreditMissing records = records

-- ---- whether a send needs room for a registration

module _ {T : Type 0} where
  -- whether a payload that is sent now awaits its outcome, if it is sent at all
  abbrev pub does_await : Sender T → Option Bool → Bool
  does_await s settled =
      is_some s.output_handle && is_some s.input_handle && not (s.flow_state.link_credit == 0) && not (settled_by_mode s.snd_settle_mode settled)

  -- the tag under which it is then registered, of a send under this tag: none if something is pending before the send
  abbrev pub tag_to_register : Sender T → Tag → Waiting → Option Bool → Option Tag
  tag_to_register s tag waiting.Nothing settled = if does_await s settled then Some tag else None
  tag_to_register s tag _ settled = None

  -- the tag under which the delivery of this transfer is registered: none if it is settled or there is no
  -- input handle
  abbrev pub tag_of_unsettled : Sender T → Transfer → Option Tag
  tag_of_unsettled s t = if is_none s.input_handle || settled_on_send s t then None else t.delivery_tag

-- ---- a registration: a helper

-- there is room to register an unsettled delivery that was sent, and its tag is free
abbrev pub IsRoomFor : Settlement → Option Tag → RecordsAndRoom → Type 0
IsRoomFor (settlement.Settled tag) reserved all = Unit {0}
IsRoomFor (settlement.Unsettled tag) reserved all =
    (reserved ≡ Some tag) × IsTrue all.has_room × (pending_count tag all.records ≡ 0)
