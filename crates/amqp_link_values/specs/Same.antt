-- The tests behind `==` of values, descriptors and maps. Two values are compared by the trees of numbers that
-- store them (`Code`), so that the test of a whole value is one recursion.
use Rattle.std.specs.Prelude.{ℕ, Bool, true, false, ◌&&◌, ◌==◌, List}
use Rattle.std.specs.Cmp.Lexicographic.{pointwise}
use Rattle.std.specs.Ordering.{on}
use Rattle.std.specs.Str.{bytes_eq}
use base.Stored.{Gv, gnil, gnum, gcons}
use Rattle.amqp_link_values.specs.Code.{data_to, items_to, pairs_to, kind_to}
use Rattle.amqp_link_values.specs.Data.{Data, Items, Pairs}
use Rattle.amqp_link_values.specs.declared.value.Descriptor.{Descriptor}

-- two trees of the same shape with the same numbers
abbrev pub same_tree : Gv → Gv → Bool
same_tree gnil gnil = true
same_tree (gnum m) (gnum n) = m == n
same_tree (gcons a b) (gcons c d) = same_tree a c && same_tree b d
same_tree _ _ = false

-- two values of the same kind with the same content
abbrev pub same_data : Data → Data → Bool
same_data = on data_to same_tree

-- two lists of values, equal one by one
abbrev pub same_items : Items → Items → Bool
same_items = on items_to same_tree

-- two lists of pairs, equal one by one
abbrev pub same_pairs : Pairs → Pairs → Bool
same_pairs = on pairs_to same_tree

-- two descriptors: the same code, or the same name
abbrev pub same_kind : Descriptor → Descriptor → Bool
same_kind = on kind_to same_tree

-- two entries of a map: the same name, and the same value
abbrev pub same_entry : List ℕ × Data → List ℕ × Data → Bool
same_entry e f = bytes_eq e.0 f.0 && same_data e.1 f.1

-- the entries of two maps, equal one by one: their order counts
abbrev pub same_entries : List (List ℕ × Data) → List (List ℕ × Data) → Bool
same_entries = pointwise same_entry
