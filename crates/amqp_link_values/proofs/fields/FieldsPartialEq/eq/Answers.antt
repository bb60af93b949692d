use Rattle.std.proofs.Common.{◌∙◌}
use Rattle.std.proofs.lemmas.Bool.Decides.{Decides-at}
use Rattle.amqp_link_values.proofs.SameLevels.{same_entries-view}
use Rattle.amqp_link_values.proofs.fields.FieldsPartialEq.eq.Goals as goal
use Rattle.amqp_link_values.specs.SameLaws.{same_entries-Decides}

pub returns-clause-value : goal.returns-clause-value
returns-clause-value c =
    let mine = c.self.inside.entries.entries in
    let theirs = c.other.inside.entries.entries in
    let compared = rw (c.as_slice.ensures.entries, c.as_slice-2.ensures.entries) at c.eq.ensures in
    rw (← c.self.view_is, ← c.other.view_is) (compared ∙ same_entries-view mine theirs)

pub returns-clause-equal : goal.returns-clause-equal
returns-clause-equal c = Decides-at _ _ (returns-clause-value c) (same_entries-Decides _ _)
