-- A place, from what a search for it has found.
use Rattle.std.specs.Prelude.{ℕ, List, ◌+◌, ◌&&◌, not, nat_le, slice_get, drop, option_map, Option, Some, None, if◌then◌else◌}
use Rattle.amqp_link_payloads.specs.Header.{header_len}
use Rattle.amqp_link_payloads.specs.Position.{starts}

-- the end of the header that stands at start number s of P
abbrev pub header_end : List ℕ → ℕ → Option ℕ
header_end P s = option_map (λ start. start + header_len (drop start P)) (slice_get (starts P) s)

-- the place at offset o from a start, if it is within n bytes and before the end of the next header
abbrev pub place_by : Option ℕ → Option ℕ → ℕ → ℕ → Option ℕ
place_by None end n o = None
place_by (Some start) None n o = if nat_le (start + o) n then Some (start + o) else None
place_by (Some start) (Some end) n o =
    if nat_le (start + o) n && not (nat_le end (start + o)) then Some (start + o) else None
