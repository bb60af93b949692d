-- One delivery of the list that an exchange of unsettled maps leaves to resume (OASIS AMQP 1.0 core, 2.6.13).
use Rattle.std.specs.Prelude.{ℕ, Bool, true, false, List, length, drop, Option, Some, None}
use Rattle.amqp_link_core.specs.Held.{Held, held_bytes}
use Rattle.amqp_link_core.specs.declared.resumption.ResumingDelivery.{ResumingDelivery}
use Rattle.amqp_link_core.specs.declared.resumption.ResumingDelivery.TheVariants.{Abort, Resend, Resume}
use Rattle.amqp_link_types.specs.declared.delivery.UnsettledMessage.{UnsettledMessage}

-- its entry at the sender, with the whole payload
abbrev pub entry_of : ResumingDelivery → Option UnsettledMessage
entry_of (Resend entry) = Some entry
entry_of (Resume entry rest) = Some entry
entry_of _ = None

-- How the list has a delivery of the sender's map, by what the receiver holds of it: it is sent again if that is nothing,
-- otherwise resumed with the bytes that follow what is held.
abbrev pub next_of : UnsettledMessage → Option Held → ResumingDelivery
next_of entry None = Resend entry
next_of entry (Some held) = Resume entry (drop (length (held_bytes held)) entry.payload)

-- the bytes still to be sent
abbrev pub rest_of : ResumingDelivery → Option (List ℕ)
rest_of (Resend entry) = Some entry.payload
rest_of (Resume entry rest) = Some rest
rest_of _ = None

-- whether the receiver holds something of it, so that its transfer has resume = true
abbrev pub resumes : ResumingDelivery → Bool
resumes (Resume entry rest) = true
resumes _ = false

-- whether it is aborted
abbrev pub is_abort : ResumingDelivery → Bool
is_abort (Abort message_format tag) = true
is_abort _ = false
