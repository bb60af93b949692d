-- What a copy allocates: whether a value carries anything that is copied into memory of its own.
use Rattle.std.specs.Prelude.{ℕ, Bool, true, false, List, length, nat_lt}
use Rattle.amqp_link_values.specs.Data.{Data, binary, string, symbol, list, map, symbol_array, described}
use Rattle.amqp_link_values.specs.Data.{no_items, item, no_pairs, pair}
use Rattle.amqp_link_values.specs.declared.value.Descriptor.{Descriptor}
use Rattle.amqp_link_values.specs.declared.value.Descriptor.TheVariants.{Code, Name}

-- a text, a symbol, or a map or a list of these: one that is not empty
abbrev pub carries_any : {A : Type 0} → List A → Bool
carries_any xs = nat_lt 0 (length xs)

-- a tag of more than 16 bytes
abbrev pub tag_carries_more : List ℕ → Bool
tag_carries_more tag = nat_lt 16 (length tag)

-- a descriptor: its name
abbrev pub kind_carries_more : Descriptor → Bool
kind_carries_more (Code n) = false
kind_carries_more (Name name) = carries_any name

-- a value: what is not empty of bytes, texts, symbols, lists and maps, and each described value
abbrev pub data_carries_more : Data → Bool
data_carries_more (binary bytes) = carries_any bytes
data_carries_more (string bytes) = carries_any bytes
data_carries_more (symbol bytes) = carries_any bytes
data_carries_more (list no_items) = false
data_carries_more (list (item d ds)) = true
data_carries_more (map no_pairs) = false
data_carries_more (map (pair k v ps)) = true
data_carries_more (symbol_array names) = carries_any names
data_carries_more (described kind d) = true
data_carries_more _ = false
