-- The pieces into which a payload is cut.
use Rattle.std.specs.Prelude.{ℕ, List, length, nat_lt, count_by}

-- how many pieces hold bytes
abbrev pub full_count : List (List ℕ) → ℕ
full_count pieces = count_by (λ piece. nat_lt 0 (length piece)) pieces
