-- The data that a `Value` stands for, however it is stored in memory (OASIS AMQP 1.0 core, 1.6).
use Rattle.std.specs.Prelude.{ℕ, ℤ, Bool, List}
use Rattle.amqp_link_values.specs.declared.value.Descriptor.{Descriptor}

mutual
  -- one value: its kind and its content; binaries, texts and symbols have their bytes
  pub data Data : Type 0 where
    null : Data
    boolean : Bool → Data
    ubyte : ℕ → Data
    ushort : ℕ → Data
    uint : ℕ → Data
    ulong : ℕ → Data
    byte : ℤ → Data
    short : ℤ → Data
    int : ℤ → Data
    long : ℤ → Data
    timestamp : ℤ → Data
    binary : List ℕ → Data
    string : List ℕ → Data
    symbol : List ℕ → Data
    list : Items → Data
    map : Pairs → Data
    symbol_array : List (List ℕ) → Data
    described : Descriptor → Data → Data

  -- the values of a list, in order
  pub data Items : Type 0 where
    no_items : Items
    item : Data → Items → Items

  -- the pairs of a map, in order: a key, its value, and the others
  pub data Pairs : Type 0 where
    no_pairs : Pairs
    pair : Data → Data → Pairs → Pairs
