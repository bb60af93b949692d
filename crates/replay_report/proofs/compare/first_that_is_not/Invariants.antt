use Rattle.std.proofs.Common.{◌≡◌, drop}
use Rattle.std.specs.List.{list_all}
use Rattle.replay_report.proofs.compare.first_that_is_not.Given as goal

-- what is ahead decides
abbrev pub invariant-loop-word : goal.invariant-loop-word
invariant-loop-word l = list_all (λ pair. pair.1) (drop l.word-index l.pairs) ≡ list_all (λ pair. pair.1) l.pairs
