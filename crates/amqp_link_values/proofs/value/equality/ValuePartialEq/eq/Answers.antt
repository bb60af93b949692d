use Rattle.std.proofs.lemmas.Bool.Decides.{Decides-at}
use Rattle.amqp_link_values.specs.SameLaws.{same_data-Decides}
use Rattle.amqp_link_values.proofs.value.equality.ValuePartialEq.eq.Goals as goal

pub returns-clause-equal : goal.returns-clause-equal
returns-clause-equal c = Decides-at _ _ c.same.ensures (same_data-Decides _ _)
