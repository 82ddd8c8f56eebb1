-- What contracts see of a slice of a value: the value, and where the slice begins and ends in it.
use Rattle.std.specs.Prelude.{ℕ, ◌≤◌, List}
use Rattle.word_units.specs.Parts.{Part, part_of, IsBoundaryIn, scalars_before, text_in}
use Rattle.str_value.specs.Meaning.{Meaning, storage_of, own_part}

pub record Slice : Type 0 where
  -- what contracts see of the value
  pub base : Meaning
  -- the slice's two ends, as places in the code units of the value's storage
  pub low : ℕ
  pub high : ℕ

-- the slice as the part of the value's text that lies between its ends
abbrev pub part_in : Slice → Part
part_in slice = part_of (storage_of slice.base.row) slice.base.text
    (scalars_before (own_part slice.base) slice.low) (scalars_before (own_part slice.base) slice.high)

-- the slice's own text
abbrev pub text_of : Slice → List ℕ
text_of slice = text_in (part_in slice)

-- the ends are scalar boundaries, in order
pub record IsSlice (slice : Slice) : Type 0 where
  pub low : IsBoundaryIn (own_part slice.base) slice.low
  pub high : IsBoundaryIn (own_part slice.base) slice.high
  pub order : slice.low ≤ slice.high
