use Rattle.std.proofs.Common.{◌≡◌, map}
use Rattle.std.specs.Str.{bytes_eq}
use Rattle.indexmap.specs.IndexMap.{insert_all}
use Rattle.amqp_link_values.specs.View.{view_entry}
use Rattle.amqp_link_values.proofs.fields.Fields.merged.Given as goal

abbrev pub invariant-loop-name : goal.invariant-loop-name
invariant-loop-name l = insert_all bytes_eq l.both (map view_entry l.name-iterator) ≡ insert_all bytes_eq l.self l.other
