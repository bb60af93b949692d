-- Differences of serial numbers of 32 bits (RFC 1982).
use Rattle.std.specs.Prelude.{ℕ, ℤ, pos, negsuc, ◌≡◌, ◌+◌, ◌%◌, ◌^◌, ◌<◌}

-- z lies from -2^31 to 2^31 - 1, and b + z is a modulo 2^32
abbrev pub IsSerialDifference : ℕ → ℕ → ℤ → Type 0
IsSerialDifference a b (pos d) = (d < 2 ^ 31) × ((b + d) % 2 ^ 32 ≡ a % 2 ^ 32)
IsSerialDifference a b (negsuc d) = (d < 2 ^ 31) × (b % 2 ^ 32 ≡ (a + (d + 1)) % 2 ^ 32)
