use Rattle.std.proofs.Common.{◌∙◌}
use Rattle.amqp_link_values.proofs.Entries.{view_of_clones}
use Rattle.amqp_link_values.proofs.fields.FieldsClone.clone.Goals as goal

pub returns-clause-copy : goal.returns-clause-copy
returns-clause-copy c = view_of_clones _ _ c.in_ok-clone.ensures.cases ∙ c.self.view_is
