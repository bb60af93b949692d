-- A sender's link endpoint, and what became of each of its registrations (OASIS AMQP 1.0 core, 2.6.12 and
-- 2.6.13).
use Rattle.amqp_link_sender.specs.Senders.{Sender}
use Rattle.amqp_link_ledger.specs.Fates.{Records}

-- what a caller sees of a ledger of a sender with a target of type T
pub record Ledger (T : Type 0) : Type 0 where
  pub link : Sender T
  -- the registrations by number
  pub records : Records
