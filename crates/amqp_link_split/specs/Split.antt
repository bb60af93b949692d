-- A payload in pieces, each for one frame (OASIS AMQP 1.0 core, 2.7.5).
use Rattle.std.specs.Prelude.{◌≡◌, ℕ, ◌+◌, ◌<◌, ◌≤◌, List, [], length, All, slice_index_or}
use Rattle.std.specs.List.{concat}

-- The pieces joined are P, all but the last have m bytes, the last has at most m and is not empty
-- unless P is, and an empty P is one piece.
pub record IsSplit (P : List ℕ) (m : ℕ) (pieces : List (List ℕ)) : Type 0 where
  pub joined : concat pieces ≡ P
  pub some : 1 ≤ length pieces
  pub full : (i : ℕ) → i + 1 < length pieces → length (slice_index_or pieces i []) ≡ m
  pub within : (i : ℕ) → i + 1 ≡ length pieces → length (slice_index_or pieces i []) ≤ m
  pub filled : (i : ℕ) → i + 1 ≡ length pieces → 0 < length P → 0 < length (slice_index_or pieces i [])
  pub one : length P ≡ 0 → length pieces ≡ 1

-- pieces of at most m bytes each, at least one, that joined are P
abbrev pub ArePiecesOf : List ℕ → ℕ → List (List ℕ) → Type 0
ArePiecesOf P m pieces = (1 ≤ length pieces) × (concat pieces ≡ P) × All (λ piece. length piece ≤ m) pieces

-- n is the least number of such pieces
pub record IsFewestPieces (P : List ℕ) (m n : ℕ) : Type 0 where
  pub reached : (pieces : List (List ℕ)) × (ArePiecesOf P m pieces × (length pieces ≡ n))
  pub fewest : (pieces : List (List ℕ)) → ArePiecesOf P m pieces → n ≤ length pieces
