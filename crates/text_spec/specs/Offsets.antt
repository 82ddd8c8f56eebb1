-- Offsets in a text whose scalars have widths: 1 to 4 bytes in UTF-8, 1 or 2 units in UTF-16, or 1 each for scalars themselves.
use Rattle.std.specs.Prelude.{ℕ, zero, suc, ◌+◌, ◌-◌, ◌≤◌, List, [], ◌∷◌, length, nat_lt, nat_le, if◌then◌else◌}

-- how many UTF-16 code units a scalar takes (The Unicode Standard, section 3.9, D91)
abbrev pub len_utf16 : ℕ → ℕ
len_utf16 scalar = if nat_lt scalar 0x1_0000 then 1 else 2

-- where scalar k begins, and for the number of scalars where the text ends
abbrev pub start : (ℕ → ℕ) → List ℕ → ℕ → ℕ
start width [] k = 0
start width (scalar ∷ text) zero = 0
start width (scalar ∷ text) (suc k) = width scalar + start width text k

-- the greatest number of a scalar that begins at the offset or before it
abbrev pub down : (ℕ → ℕ) → List ℕ → ℕ → ℕ
down width [] offset = 0
down width (scalar ∷ text) offset = if nat_le (width scalar) offset then suc (down width text (offset - width scalar)) else 0

-- k is the greatest number of a scalar, or of the text's end, that begins at the offset or before it
pub record IsGreatestStart (width : ℕ → ℕ) (text : List ℕ) (offset k : ℕ) : Type 0 where
  pub inside : k ≤ length text
  pub not_after : start width text k ≤ offset
  pub greatest : (other : ℕ) → other ≤ length text → start width text other ≤ offset → other ≤ k
