use Rattle.std.proofs.Common.{◌≡◌, ◌<◌, ◌≤◌, ◌-◌, ℕ, get_or, false}
use Rattle.amqp_link_payloads.specs.Header.{may_end}
use Rattle.amqp_link_payloads.proofs.position.header.may_hold_end.Given as goal

abbrev pub invariant-loop-i : goal.invariant-loop-i
invariant-loop-i l = l.found ≡ false → (k : ℕ) → 2 ≤ k → k < l.i → may_end (get_or l.bytes (k - 2) 0) (get_or l.bytes k 0) ≡ false
