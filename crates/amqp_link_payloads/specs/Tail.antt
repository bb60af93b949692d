-- The last bytes of those that were read.
use Rattle.std.specs.Prelude.{ℕ, List, [], ◌∷◌, ◌++◌, ◌≡◌, ◌+◌, ◌<◌, ◌==◌, length, drop, replicate}
use Rattle.amqp_link_payloads.specs.declared.position.scan.Tail.{Tail}
use Rattle.amqp_link_payloads.specs.Header.{header_len}

-- a whole header stands at n and ends where G ends
pub record EndsAt (G : List ℕ) (n : ℕ) : Type 0 where
  pub whole : 0 < header_len (drop n G)
  pub ends : n + header_len (drop n G) ≡ length G

-- the last n bytes of F; if F has fewer, bytes 0xff in front of them
unfoldable pub recent : ℕ → List ℕ → List ℕ
recent n F = drop (length F) (replicate n 0xff ++ F)

-- F with 0xff in place of its first byte, so that no header begins there: the first byte is a start whatever it is
abbrev pub blanked : List ℕ → List ℕ
blanked [] = []
blanked (x ∷ xs) = 0xff ∷ xs

-- t has the last bytes of F, the bytes that were read
pub record IsTailOf (t : Tail) (F : List ℕ) : Type 0 where
  pub last_is : t.last ≡ recent 9 (blanked F)
  pub new_is : t.is_new ≡ (length F == 0)
