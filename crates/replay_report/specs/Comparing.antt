-- When what an endpoint has made is what a row states of it.
use Rattle.std.specs.Prelude.{◌≡◌, ℕ, ◌+◌, ◌%◌, ◌^◌, unwrap_or}
use Rattle.amqp_link_types.specs.declared.types.LinkFlow.{LinkFlow}
use Rattle.frame_rows.specs.declared.row.HandedOut.{HandedOut}
use Rattle.frame_rows.specs.declared.row.Sent.{Sent}

-- the delivery-count up to which a sender may send by this flow: it wraps (2.6.7)
abbrev pub limit_of : LinkFlow → ℕ
limit_of flow = (unwrap_or flow.delivery_count 0 + unwrap_or flow.link_credit 0) % 2 ^ 32

-- a flow of the same handle, with drain or without, and up to the same limit: both ends may count a delivery at another transfer
pub record IsSameFlow (stated made : LinkFlow) : Type 0 where
  pub handle : stated.handle ≡ made.handle
  pub drain : stated.drain ≡ made.drain
  pub limit : limit_of stated ≡ limit_of made

-- a delivery that is sent is that which is stated
pub record IsSameSent (stated made : Sent) : Type 0 where
  pub tag : stated.tag ≡ made.tag
  pub settled : stated.settled ≡ made.settled
  pub format : stated.format ≡ made.format
  pub payload : stated.payload ≡ made.payload

-- the same of a delivery that is handed out
pub record IsSameHandedOut (stated made : HandedOut) : Type 0 where
  pub id : stated.id ≡ made.id
  pub tag : stated.tag ≡ made.tag
  pub settled : stated.settled ≡ made.settled
  pub payload : stated.payload ≡ made.payload
