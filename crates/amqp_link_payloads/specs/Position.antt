-- Positions in a list of bytes (OASIS AMQP 1.0 core, 3.4.1): sections are counted by the whole headers in it,
-- wherever they stand.
use Rattle.std.specs.Prelude.{ℕ, Bool, List, ◌∷◌, ◌+◌, ◌-◌, ◌<◌, ◌≡◌, ◌⊎◌, ◌&&◌, not, length, drop, filter, slice_index, nat_lt, nat_le, Option, Some, None, if◌then◌else◌}
use Rattle.std.specs.List.{range_with_len}
use Rattle.amqp_link_payloads.specs.Header.{header_len}

-- whether a whole header stands in P at place i
abbrev pub is_header_at : List ℕ → ℕ → Bool
is_header_at P i = nat_lt 0 (header_len (drop i P))

-- the starts of P, in rising order: 0, and each place from 1 on at which a whole header stands
unfoldable pub starts : List ℕ → List ℕ
starts P = 0 ∷ filter (is_header_at P) (range_with_len 1 (length P))

-- the number of the last start, which is the number of starts past 0
abbrev pub last_number : List ℕ → ℕ
last_number P = length (starts P) - 1

-- the position of the end of F: the number of starts past 0, and the distance from the last start
abbrev pub position : List ℕ → ℕ × ℕ
position F = (last_number F, length F - slice_index (starts F) (last_number F))

-- place i is past the header at the start after start number s, if there is one
abbrev pub passes_next : List ℕ → ℕ → ℕ → Bool
passes_next P s i =
    nat_lt (s + 1) (length (starts P))
    && nat_le (slice_index (starts P) (s + 1) + header_len (drop (slice_index (starts P) (s + 1)) P)) i

-- The place in P of offset o in section s: o past start number s. It is within P, and before the end of the
-- next start's header: a front that ends within that header does not have it whole.
abbrev pub place : List ℕ → ℕ → ℕ → Option ℕ
place P s o =
    let i = slice_index (starts P) s + o in
    if nat_lt s (length (starts P)) && nat_le i (length P) && not (passes_next P s i)
    then Some i else None

-- position a comes before position b: by section, then by offset
abbrev pub IsBefore : ℕ × ℕ → ℕ × ℕ → Type 0
IsBefore a b = (a.0 < b.0) ⊎ ((a.0 ≡ b.0) × (a.1 < b.1))
