-- What follows once a relay's link is attached again (OASIS AMQP 1.0 core, 2.6.13).
use Rattle.std.specs.Prelude.{Bool, true, false}
use Rattle.amqp_link.specs.declared.sender_link.SenderAttachExchange.{SenderAttachExchange}
use Rattle.amqp_link.specs.declared.sender_link.SenderAttachExchange.TheVariants.{IncompleteUnsettled}

-- an attach of the exchange did not state all deliveries
abbrev pub is_incomplete : SenderAttachExchange → Bool
is_incomplete (IncompleteUnsettled list) = true
is_incomplete _ = false
