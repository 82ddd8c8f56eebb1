-- A text as a part of the text that its storage holds: the scalars from number `first` of that to number `end`.
-- Places are in code units of the storage, and are counted from where the whole text begins.
use Rattle.std.specs.Prelude.{ℕ, ◌-◌, List, length}
use Rattle.text_spec.specs.declared.encoding.Encoding.{Encoding}
use Rattle.text_spec.specs.Boundaries.{IsScalarBoundary}
use Rattle.text_spec.specs.Offsets.{start, down}
use Rattle.text_spec.specs.Views.{width_in, size_in, part}

pub record Part : Type 0 where
  pub storage : Encoding
  pub whole : List ℕ
  pub first : ℕ
  pub end : ℕ

abbrev pub part_of : Encoding → List ℕ → ℕ → ℕ → Part
part_of storage whole first end = record { storage = storage; whole = whole; first = first; end = end }

-- the text
abbrev pub text_in : Part → List ℕ
text_in t = part t.whole t.first t.end

-- how many scalars it has
abbrev pub scalars_in : Part → ℕ
scalars_in t = t.end - t.first

-- where it begins and where it ends
abbrev pub low_of : Part → ℕ
low_of t = start (width_in t.storage) t.whole t.first

abbrev pub high_of : Part → ℕ
high_of t = start (width_in t.storage) t.whole t.end

-- how many code units the storage holds
abbrev pub storage_size : Part → ℕ
storage_size t = size_in t.storage t.whole

-- a scalar of the storage, or its end, begins at the place
abbrev pub IsBoundaryIn : Part → ℕ → Type 0
IsBoundaryIn t at = IsScalarBoundary (width_in t.storage) t.whole at

-- how many scalars of the storage end at the place or before it
abbrev pub scalars_before : Part → ℕ → ℕ
scalars_before t at = down (width_in t.storage) t.whole at

-- all of what a storage holds
abbrev pub all_of : Encoding → List ℕ → Part
all_of storage whole = part_of storage whole 0 (length whole)
