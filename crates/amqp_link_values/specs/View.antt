-- The data that a `Value` stands for.
use Rattle.std.specs.Prelude.{ℕ, List, [], ◌∷◌, map as each, string_bytes}
use Rattle.amqp_link_values.specs.Data.{Data, null, boolean, ubyte, ushort, uint, ulong}
use Rattle.amqp_link_values.specs.Data.{byte, short, int, long, timestamp, binary, string, symbol}
use Rattle.amqp_link_values.specs.Data.{list, map, symbol_array, described}
use Rattle.amqp_link_values.specs.Data.{Items, no_items, item, Pairs, no_pairs, pair}
use Rattle.amqp_link_values.specs.declared.value.Value.{Value, fold-Value}
use Rattle.amqp_link_values.specs.declared.value.Value.TheOpen.{Value-F}

-- the items of a list, one by one
abbrev pub items_of : List Data → Items
items_of [] = no_items
items_of (d ∷ ds) = item d (items_of ds)

-- the pairs of a map, one by one
abbrev pub pairs_of : List (Data × Data) → Pairs
pairs_of [] = no_pairs
pairs_of (p ∷ ps) = pair p.0 p.1 (pairs_of ps)

-- one level, in which the values inside are replaced by their data
abbrev pub view_step : Value-F Data → Data
view_step Value-F.Null = null
view_step (Value-F.Bool b) = boolean b
view_step (Value-F.Ubyte n) = ubyte n
view_step (Value-F.Ushort n) = ushort n
view_step (Value-F.Uint n) = uint n
view_step (Value-F.Ulong n) = ulong n
view_step (Value-F.Byte z) = byte z
view_step (Value-F.Short z) = short z
view_step (Value-F.Int z) = int z
view_step (Value-F.Long z) = long z
view_step (Value-F.Timestamp z) = timestamp z
view_step (Value-F.Binary v) = binary v.items
view_step (Value-F.String s) = string (string_bytes s)
view_step (Value-F.Symbol s) = symbol s
view_step (Value-F.List v) = list (items_of v.items)
view_step (Value-F.Map v) = map (pairs_of v.items)
view_step (Value-F.SymbolArray v) = symbol_array v.items
view_step (Value-F.Described d b) = described d b.value

-- a value's data, level by level
abbrev pub view : Value → Data
view = fold-Value Data view_step

-- the data of a list's values
abbrev pub items_view : List Value → Items
items_view vs = items_of (each view vs)

-- the data of a key and its value
abbrev pub view_pair : Value × Value → Data × Data
view_pair p = (view p.0, view p.1)

-- the data of a map's pairs
abbrev pub pairs_view : List (Value × Value) → Pairs
pairs_view ps = pairs_of (each view_pair ps)

-- a name and the data of its value
abbrev pub view_entry : List ℕ × Value → List ℕ × Data
view_entry e = (e.0, view e.1)
