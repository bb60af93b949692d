-- How many bytes a value takes in its shortest code (OASIS AMQP 1.0 core, 1.6). A comment has the codes of
-- its line, in hexadecimal.
use Rattle.std.specs.Prelude.{◌≡◌, ◌≤◌, ◌+◌, ◌^◌, ◌==◌, ◌&&◌, if◌then◌else◌, nat_le}
use Rattle.std.specs.Prelude.{ℕ, ℤ, Bool, pos, negsuc, List, length, sum_by, Option, MatchOption}
use Rattle.std.specs.List.{list_all}
use Rattle.amqp_link_values.specs.Data.{Data, null, boolean, ubyte, ushort, uint, ulong}
use Rattle.amqp_link_values.specs.Data.{byte, short, int, long, timestamp, binary, string, symbol}
use Rattle.amqp_link_values.specs.Data.{list, map, symbol_array, described}
use Rattle.amqp_link_values.specs.Data.{Items, no_items, item, Pairs, no_pairs, pair}
use Rattle.amqp_link_values.specs.declared.value.Descriptor.{Descriptor}
use Rattle.amqp_link_values.specs.declared.value.Descriptor.TheVariants.{Code, Name}

-- the number, or none exactly if a u64 does not hold it
abbrev pub IsU64Of : ℕ → Option ℕ → Type 0
IsU64Of n o = MatchOption o (2 ^ 64 ≤ n) (λ m. m ≡ n)

-- an unsigned number whose widest code takes `wide` bytes: 43 or 44 for zero, 52 or 53 to 255
abbrev pub unsigned_len : ℕ → ℕ → ℕ
unsigned_len wide n = if n == 0 then 1 else (if nat_le n 255 then 2 else wide)

-- a signed number whose widest code takes `wide` bytes: 54 or 55 from -128 to 127
abbrev pub signed_len : ℕ → ℤ → ℕ
signed_len wide (pos n) = if nat_le n 127 then 2 else wide
signed_len wide (negsuc n) = if nat_le n 127 then 2 else wide

-- n bytes of data or text: a0, a1 or a3 with a size of one byte, b0, b1 or b3 with one of four
abbrev pub text_len : ℕ → ℕ
text_len n = if nat_le n 255 then 2 + n else 5 + n

-- an unsigned number of 32 bits
abbrev pub uint_len : ℕ → ℕ
uint_len n = unsigned_len 5 n

-- an unsigned number of 64 bits
abbrev pub ulong_len : ℕ → ℕ
ulong_len n = unsigned_len 9 n

-- a binary, a text or a symbol
abbrev pub bytes_len : List ℕ → ℕ
bytes_len bytes = text_len (length bytes)

-- a truth value that is present: 41 or 42
abbrev pub bool_len : Bool → ℕ
bool_len b = 1

-- a list or a map whose parts take c bytes: c0 or c1 with a size and a count of one byte each, d0 or d1 with
-- four bytes each; the size includes the bytes of the count
abbrev pub compound_len : ℕ → ℕ
compound_len c = if nat_le c 254 then 3 + c else 9 + c

-- the elements of an array of symbols: all have a size of one byte, or all have one of four
abbrev pub elements_len : List (List ℕ) → ℕ
elements_len names =
    if list_all (λ s. nat_le (length s) 255) names
    then sum_by (λ s. 1 + length s) names
    else sum_by (λ s. 4 + length s) names

-- an array of `count` elements, which take c bytes: e0 or f0, with the code of the elements after the size
-- and the count
abbrev pub counted_len : ℕ → ℕ → ℕ
counted_len count c = if nat_le c 253 && nat_le count 255 then 4 + c else 10 + c

-- an array of symbols
abbrev pub array_len : List (List ℕ) → ℕ
array_len names = counted_len (length names) (elements_len names)

-- a descriptor is an unsigned number of up to nine bytes, or a symbol
abbrev pub descriptor_len : Descriptor → ℕ
descriptor_len (Code n) = unsigned_len 9 n
descriptor_len (Name s) = text_len (length s)

-- a list whose items take c bytes: one without items has a code of its own, 45
abbrev pub list_len : Items → ℕ → ℕ
list_len no_items c = 1
list_len (item d ds) c = compound_len c

abbrev mutual
  -- a value
  pub encoded_len : Data → ℕ
  encoded_len null = 1
  encoded_len (boolean b) = 1
  encoded_len (ubyte n) = 2
  encoded_len (ushort n) = 3
  encoded_len (uint n) = unsigned_len 5 n
  encoded_len (ulong n) = unsigned_len 9 n
  encoded_len (byte z) = 2
  encoded_len (short z) = 3
  encoded_len (int z) = signed_len 5 z
  encoded_len (long z) = signed_len 9 z
  encoded_len (timestamp z) = 9
  encoded_len (binary bytes) = text_len (length bytes)
  encoded_len (string bytes) = text_len (length bytes)
  encoded_len (symbol bytes) = text_len (length bytes)
  encoded_len (list ds) = list_len ds (items_len ds)
  encoded_len (map ps) = compound_len (pairs_len ps)
  encoded_len (symbol_array names) = array_len names
  encoded_len (described kind d) = 1 + descriptor_len kind + encoded_len d

  -- the items of a list, one after the other
  pub items_len : Items → ℕ
  items_len no_items = 0
  items_len (item d ds) = encoded_len d + items_len ds

  -- the keys and values of a map, one after the other
  pub pairs_len : Pairs → ℕ
  pairs_len no_pairs = 0
  pairs_len (pair k v ps) = encoded_len k + encoded_len v + pairs_len ps

-- a name and its value, in a map from symbols to values
abbrev pub field_len : List ℕ × Data → ℕ
field_len field = text_len (length field.0) + encoded_len field.1

-- a map from symbols to values (2.8.13)
abbrev pub fields_len : List (List ℕ × Data) → ℕ
fields_len fields = compound_len (sum_by field_len fields)
