-- Which statuses a value that C passes is refused with.
use Rattle.std.specs.Prelude.{◌≡◌, ◌⊎◌, ℕ, Bool, List, IsTrue, IsUtf8}

-- out of memory, or no text
abbrev pub IsTextRefusal : ℕ → Type 0
IsTextRefusal status = (status ≡ 3) ⊎ (status ≡ 4)

-- out of memory, or a number that stands for nothing
abbrev pub IsNumberRefusal : ℕ → Type 0
IsNumberRefusal status = (status ≡ 3) ⊎ (status ≡ 5)

-- out of memory, no text, or a number that stands for nothing
abbrev pub IsValueRefusal : ℕ → Type 0
IsValueRefusal status = (status ≡ 3) ⊎ ((status ≡ 4) ⊎ (status ≡ 5))

-- the bytes are in UTF-8, if they are to be a text
abbrev pub IsText : Bool → List ℕ → Type 0
IsText is_there bytes = IsTrue is_there → IsUtf8 bytes

-- the texts of an error are in UTF-8, if it is carried
abbrev pub AreTexts : Type 0 → Bool → List ℕ → List ℕ → Type 0
AreTexts Carried has_description condition description =
    Carried → IsUtf8 condition × IsText has_description description

-- illegal state, or the error that the peer's detach carries
abbrev pub IsDetachRefusal : ℕ → Type 0
IsDetachRefusal status = (status ≡ 10) ⊎ ((status ≡ 15) ⊎ (status ≡ 17))
