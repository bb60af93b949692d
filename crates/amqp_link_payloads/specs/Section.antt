-- An encoded data section (OASIS AMQP 1.0 core, 3.2.6): a descriptor, then a binary value (1.6.19).
use Rattle.std.specs.Prelude.{◌≡◌, ℕ, ◌<◌, ◌^◌, List, [], ◌∷◌, ◌++◌, length, drop, Option, Some, None, ◌&&◌, nat_lt, if◌then◌else◌}
use Rattle.std.specs.Int.{w8, w32, w64, to_be_bytes}
use Rattle.std.specs.Option.{option_or}
use Rattle.std.specs.Str.{bytes_eq}

-- a number is encoded in one byte, or in four or eight
pub data Form : Type 0 where
  Short : Form
  Long : Form

-- the descriptor of a data section, the ulong 117
abbrev pub descriptor : Form → List ℕ
descriptor Short = 0x00 ∷ 0x53 ∷ to_be_bytes w8 117
descriptor Long = 0x00 ∷ 0x80 ∷ to_be_bytes w64 117

-- a binary value
abbrev pub binary : Form → List ℕ → List ℕ
binary Short contents = 0xA0 ∷ to_be_bytes w8 (length contents) ++ contents
binary Long contents = 0xB0 ∷ to_be_bytes w32 (length contents) ++ contents

-- the first length that a form cannot encode
abbrev pub limit : Form → ℕ
limit Short = 2 ^ 8
limit Long = 2 ^ 32

-- a data section with its descriptor in the form d and its value in the form l
abbrev pub section : Form → Form → List ℕ → List ℕ
section d l contents = descriptor d ++ binary l contents

-- the bytes are exactly one binary value
pub record IsBinary (bytes contents : List ℕ) : Type 0 where
  pub l : Form
  pub written : bytes ≡ binary l contents
  pub fits : length contents < limit l

-- the bytes are exactly one data section
pub record IsDataSection (bytes contents : List ℕ) : Type 0 where
  pub d : Form
  pub value : List ℕ
  pub written : bytes ≡ descriptor d ++ value
  pub is_value : IsBinary value contents

-- the bytes after as many as an empty section has, if encoding them gives the bytes again
abbrev pub contents_in : Form → Form → List ℕ → Option (List ℕ)
contents_in d l bytes =
    let rest = drop (length (section d l [])) bytes in
    if bytes_eq bytes (section d l rest) && nat_lt (length rest) (limit l) then Some rest else None

-- the contents of the data section, if the bytes are exactly one
unfoldable pub contents_of : List ℕ → Option (List ℕ)
contents_of bytes =
    option_or (contents_in Short Short bytes)
    (option_or (contents_in Short Long bytes)
    (option_or (contents_in Long Short bytes) (contents_in Long Long bytes)))
