use Rattle.std.proofs.Common.{◌≡◌, ◌++◌, map}
use Rattle.amqp_link_values.specs.View.{view_entry}
use Rattle.amqp_link_verification.specs.Filters.{names_missing}
use Rattle.amqp_link_verification.proofs.filter.missing_names.Given as goal

abbrev pub invariant-loop-name : goal.invariant-loop-name
invariant-loop-name l = l.missing.items ++ names_missing l.supported (map view_entry l.name-iterator) ≡ names_missing l.supported l.desired
