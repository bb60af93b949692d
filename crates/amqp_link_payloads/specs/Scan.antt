-- What a scan keeps of the bytes that it reads.
use Rattle.std.specs.Prelude.{ℕ, List, ◌≡◌, ◌+◌, ◌++◌, length, drop, take, get_or}
use Rattle.amqp_link_payloads.specs.Position.{starts}
use Rattle.amqp_link_payloads.specs.Tail.{recent}

-- What s has of F, of which the last n bytes are of the piece that is read, it has while bytes follow that bring no
-- start.
abbrev pub Keeps : {S : Type 0} → (S → List ℕ → ℕ → Type 0) → S → List ℕ → ℕ → Type 0
Keeps has s F n = (xs : List ℕ) → starts (F ++ xs) ≡ starts F → has s (F ++ xs) (n + length xs)

-- the first nine of these bytes are the last of F, and the others follow them; the first byte of all is blank
pub record IsNext (F bytes : List ℕ) : Type 0 where
  pub last : take 9 bytes ≡ recent 9 F
  pub blank : get_or (F ++ drop 9 bytes) 0 0xff ≡ 0xff
