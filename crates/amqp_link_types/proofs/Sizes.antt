-- A part is no longer than the whole.
use Rattle.std.proofs.Common.{ℕ, ◌≤◌, Option, Some, None, arith}
use Rattle.std.proofs.lemmas.Bool.Decides.{nat_tests}
use Rattle.amqp_link_types.specs.Size.{before, list_of}

pub le-before : (f : Option ℕ) (rest : ℕ) → rest ≤ before f rest
unfolding before
le-before None rest = grind (arith, nat_tests)
le-before (Some n) rest = omega arith

pub le-before-field : (n rest : ℕ) → n ≤ before (Some n) rest
unfolding before
le-before-field n rest = omega arith

pub le-list_of : (c : ℕ) → c ≤ list_of c
unfolding list_of
le-list_of c = grind (arith, nat_tests)

pub ruleset sizes = (le-before, le-before-field, le-list_of)
