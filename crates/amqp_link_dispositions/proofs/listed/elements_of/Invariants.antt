use Rattle.std.proofs.Common.{◌≡◌, ◌++◌, map, drop}
use Rattle.amqp_link_dispositions.proofs.listed.elements_of.Given as goal

-- what is taken up and what is left make the whole
abbrev pub invariant-loop-element : goal.invariant-loop-element
invariant-loop-element g l = l.elements.items ++ map (λ pair. pair.1) (drop l.element-index l.pairs) ≡ map (λ pair. pair.1) l.pairs
