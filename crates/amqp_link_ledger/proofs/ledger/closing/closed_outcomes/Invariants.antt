use Rattle.std.proofs.Common.{◌≡◌, ◌++◌, map}
use Rattle.amqp_link_dispositions.specs.Ending.{all_closed}
use Rattle.amqp_link_ledger.proofs.ledger.closing.closed_outcomes.Given as goal

-- what was copied and what is left make the whole
abbrev pub invariant-loop : goal.invariant-loop
invariant-loop l = l.copies.items ++ map (λ ended. ended.1) (all_closed l.error l.iterator') ≡ map (λ ended. ended.1) (all_closed l.error l.fn.pairs)
