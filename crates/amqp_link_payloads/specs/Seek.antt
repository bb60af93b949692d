-- What a search for a place keeps of the bytes that it has read.
use Rattle.std.specs.Prelude.{ℕ, List, ◌≡◌, ◌+◌, ◌^◌, ◌<◌, ◌≤◌, length, slice_get}
use Rattle.amqp_link_payloads.specs.declared.position.places.Seek.{Seek}
use Rattle.amqp_link_payloads.specs.Places.{header_end}
use Rattle.amqp_link_payloads.specs.Position.{starts}

-- the search for the section of this number has read F, of which the last n bytes are of the piece that is read
pub record HasSought (number : ℕ) (s : Seek) (F : List ℕ) (n : ℕ) : Type 0 where
  pub number_is : s.number ≡ number
  pub length_is : s.before + n ≡ length F
  pub seen_within : s.seen ≤ length F
  pub seen_is : s.seen + 1 ≡ length (starts F)
  pub start_is : s.start ≡ slice_get (starts F) number
  pub end_is : s.end ≡ header_end F (number + 1)

-- the same, of bytes of which a u64 holds the number
abbrev pub Seeks : ℕ → Seek → List ℕ → ℕ → Type 0
Seeks number s F n = length F < 2 ^ 64 → HasSought number s F n
