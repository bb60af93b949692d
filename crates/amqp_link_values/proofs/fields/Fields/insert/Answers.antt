use Rattle.std.proofs.Common.{rules}
use Rattle.std.specs.Str.{bytes_eq}
use Rattle.amqp_link_values.proofs.Entries.{view-insert_entry, view-replaced, view-absent}
use Rattle.amqp_link_values.proofs.fields.Fields.insert.Goals as goal

pub returns-clause-ok : goal.returns-clause-ok
returns-clause-ok c = rw (← c.self.view_is, ← view-insert_entry) (search rules)

pub returns-clause-replaced : goal.returns-clause-replaced
returns-clause-replaced c =
    rw (← c.self.view_is)
    (view-replaced c.insert.result (bytes_eq c.args.name) c.self.inside.entries.entries c.insert.ensures.old)

pub returns-clause-absent : goal.returns-clause-absent
returns-clause-absent c =
    rw (← c.self.view_is)
    (view-absent c.insert.result (bytes_eq c.args.name) c.self.inside.entries.entries c.insert.ensures.absent)
