-- The scalar boundary of an index, and the index that has none: what every call over a text refuses an index with.
use Rattle.std.specs.Prelude.{◌≡◌, ℕ, ◌⊎◌, Option, Some, None}
use Rattle.std.specs.Option.{option_map}
use Rattle.text_spec.specs.Offsets.{start}
use Rattle.text_spec.specs.Rounding.{Place}
use Rattle.text_spec.specs.Views.{width_in}
use Rattle.index_words.specs.Fields.{position_of}
use Rattle.word_units.specs.declared.bounds.OutOfBounds.{OutOfBounds}
use Rattle.word_units.specs.Parts.{Part, scalars_before}
use Rattle.rounding.specs.Resolving.{resolved, read_width}

-- the number of the scalar of the storage that an index is rounded down to, or none where the index is out of range
abbrev pub scalar_of : Part → ℕ → Option ℕ
scalar_of t index = option_map (λ place. scalars_before t (place.0)) (resolved t index)

-- where that scalar begins, in code units of the storage
abbrev pub boundary_of : Part → ℕ → Option ℕ
boundary_of t index = option_map (λ place. start (width_in t.storage) t.whole (scalars_before t (place.0))) (resolved t index)

-- what an index that is out of range is refused with, in the unit that it is read in
abbrev pub out_of_range : Part → ℕ → OutOfBounds
out_of_range t index = record {
  position = position_of index;
  low = start (read_width t.storage index) t.whole t.first;
  high = start (read_width t.storage index) t.whole t.end;
}

-- the index is out of range
abbrev pub IsOutOfRange : Part → ℕ → OutOfBounds → Type 0
IsOutOfRange t index out = (resolved t index ≡ None) × (out ≡ out_of_range t index)

-- the first of the two indices is out of range, or the first is in range and the second isn't
abbrev pub IsEitherOut : Part → ℕ → ℕ → OutOfBounds → Type 0
IsEitherOut t from to out = IsOutOfRange t from out ⊎ ((place : Place) × (resolved t from ≡ Some place) × IsOutOfRange t to out)
