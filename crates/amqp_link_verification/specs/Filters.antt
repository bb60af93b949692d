-- Which of the filters that were asked for are in place (OASIS AMQP 1.0 core, 3.5.8).
use Rattle.std.specs.Prelude.{ℕ, Bool, true, false, not, List, [], Option, None, Some, map, filter}
use Rattle.std.specs.Map.{lookup}
use Rattle.std.specs.Str.{bytes_eq}
use Rattle.amqp_link_values.specs.Data.{Data, null}
use Rattle.amqp_link_types.specs.declared.types.errors.ReceiverAttachError.{ReceiverAttachError}
use Rattle.amqp_link_types.specs.declared.types.errors.ReceiverAttachError.TheVariants.{DesiredFilterNotSupported, OutOfMemory}
use Rattle.amqp_link_verification.specs.declared.filter.FilterError.{FilterError}
use Rattle.amqp_link_verification.specs.declared.filter.FilterError.TheVariants as filter_error

-- filters by their names
abbrev pub Filters : Type 0
Filters = List (List ℕ × Data)

-- a filter is there, and is not null
abbrev pub is_filter : Option Data → Bool
is_filter None = false
is_filter (Some null) = false
is_filter (Some value) = true

-- whether a filter of this name is in place; without a map none is
abbrev pub is_in_place : Option Filters → List ℕ → Bool
is_in_place None name = false
is_in_place (Some filters) name = is_filter (lookup (bytes_eq name) filters)

-- the names of those of these filters that are not in place, in their order
abbrev pub names_missing : Option Filters → Filters → List (List ℕ)
names_missing supported desired = filter (λ name. not (is_in_place supported name)) (map (λ entry. entry.0) desired)

-- the names of the filters that were asked for and are not in place, in the order in which they were asked for
abbrev pub filters_missing : Option Filters → Option Filters → List (List ℕ)
filters_missing None supported = []
filters_missing (Some desired) supported = names_missing supported desired

-- the error of an attach for an error of its filters
abbrev pub attach_error : FilterError → ReceiverAttachError
attach_error (filter_error.DesiredFilterNotSupported names) = DesiredFilterNotSupported names
attach_error filter_error.OutOfMemory = OutOfMemory
