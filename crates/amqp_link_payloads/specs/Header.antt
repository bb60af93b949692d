-- Section headers: the only place that defines which bytes are a header (OASIS AMQP 1.0 core, 3.2). A header
-- describes a section by its code, a number from 70 to 78: 00, then 53 and the code in one byte, or 80 and the
-- code in eight (1.6.7).
use Rattle.std.specs.Prelude.{ℕ, Bool, true, false, List, [], ◌∷◌, ◌==◌, nat_le, ◌&&◌, if◌then◌else◌, length, drop}

-- whether the bytes begin with this form, which has the least and the greatest value of each byte
abbrev pub begins_with : List (ℕ × ℕ) → List ℕ → Bool
begins_with [] xs = true
begins_with (r ∷ rs) [] = false
begins_with (r ∷ rs) (x ∷ xs) = nat_le r.0 x && nat_le x r.1 && begins_with rs xs

-- the form with a code of one byte
abbrev pub small_form : List (ℕ × ℕ)
small_form = (0, 0) ∷ (0x53, 0x53) ∷ (0x70, 0x78) ∷ []

-- the form with a code of eight bytes, of which seven are 00
abbrev pub large_form : List (ℕ × ℕ)
large_form =
    (0, 0) ∷ (0x80, 0x80) ∷ (0, 0) ∷ (0, 0) ∷ (0, 0) ∷ (0, 0) ∷ (0, 0) ∷ (0, 0) ∷ (0, 0) ∷ (0x70, 0x78) ∷ []

-- the length of the header with which the bytes begin: 0 if they begin with none
unfoldable pub header_len : List ℕ → ℕ
header_len xs =
    if begins_with small_form xs then length small_form
    else (if begins_with large_form xs then length large_form else 0)

-- whether a header may end in the byte `last`, where `first` stands two bytes before it: either form ends in 00, one
-- more byte, and 70 to 78
abbrev pub may_end : ℕ → ℕ → Bool
may_end first last = first == 0 && nat_le 0x70 last && nat_le last 0x78

-- the length of the header in which these ten bytes end: 0 if they end in none
abbrev pub ending : List ℕ → ℕ
ending bytes = if header_len (drop 7 bytes) == 3 then 3 else (if header_len bytes == 10 then 10 else 0)
