-- Scalar boundaries as offsets.
use Rattle.std.specs.Prelude.{◌≡◌, ℕ, List}
use Rattle.text_spec.specs.Offsets.{start, down}

-- a scalar, or the text's end, begins at the offset
abbrev pub IsScalarBoundary : (ℕ → ℕ) → List ℕ → ℕ → Type 0
IsScalarBoundary width text offset = start width text (down width text offset) ≡ offset
