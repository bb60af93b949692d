use Rattle.std.proofs.Common.{◌≡◌, ◌+◌, drop, length, sum_by}
use Rattle.amqp_link_values.proofs.length.value.total_len.Given as goal

-- what is counted and what is left make the whole
abbrev pub invariant-loop-name : goal.invariant-loop-name
invariant-loop-name l =
    l.total + sum_by (λ s. l.each + length s) (drop l.name-index l.names)
    ≡ sum_by (λ s. l.each + length s) l.names
