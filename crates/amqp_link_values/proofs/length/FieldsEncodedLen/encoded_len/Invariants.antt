use Rattle.std.proofs.Common.{◌≡◌, ◌+◌, map, sum_by}
use Rattle.amqp_link_values.specs.Length.{field_len}
use Rattle.amqp_link_values.specs.View.{view_entry}
use Rattle.amqp_link_values.proofs.length.FieldsEncodedLen.encoded_len.Given as goal

-- what is counted and what is left make the whole
abbrev pub invariant-loop-name : goal.invariant-loop-name
invariant-loop-name l =
    l.content + sum_by field_len (map view_entry l.name-iterator) ≡ sum_by field_len l.self
