-- What an index word stands for in a text, and the index words that calls answer. The rules are the project's own.
use Rattle.std.specs.Prelude.{◌≡◌, ℕ, ◌≤◌, ◌<◌, ◌^◌, ◌==◌, ◌&&◌, not, length, Bool, Option, if◌then◌else◌}
use Rattle.text_spec.specs.declared.encoding.Encoding.{Encoding}
use Rattle.text_spec.specs.declared.encoding.Encoding.TheVariants.{Utf8, Utf16}
use Rattle.text_spec.specs.Offsets.{start}
use Rattle.text_spec.specs.Rounding.{Place, resolve_own, resolve_other, unit_floor, other_floor}
use Rattle.text_spec.specs.Views.{width_in, other_width}
use Rattle.index_words.specs.declared.layout.TheConstants.{UTF8_BIT, UTF16_BIT}
use Rattle.index_words.specs.Fields.{position_of, transcoded_of, is_set, is_utf8, is_utf16, plain, word_of}
use Rattle.word_units.specs.Parts.{Part, low_of, high_of, storage_size, IsBoundaryIn, scalars_before}

abbrev pub index_place : ℕ → Place
index_place index = (position_of index, transcoded_of index)

-- an index that is marked for the other encoding alone is read as an offset in that encoding
abbrev pub reads_other : Encoding → ℕ → Bool
reads_other Utf8 index = is_set index UTF16_BIT && not (is_set index UTF8_BIT)
reads_other Utf16 index = is_set index UTF8_BIT && not (is_set index UTF16_BIT)

-- how many of the units that an index is read in a scalar takes
abbrev pub read_width : Encoding → ℕ → ℕ → ℕ
read_width encoding index = if reads_other encoding index then other_width encoding else width_in encoding

-- the place of an index that is read in code units of the storage, or none where it is out of range
abbrev pub own_place : Part → ℕ → Option Place
own_place t index = resolve_own (width_in t.storage) t.whole t.first t.end (index_place index)

-- the same of one that is read as an offset in the other encoding
abbrev pub other_place : Part → ℕ → Option Place
other_place t offset = resolve_other (width_in t.storage) (other_width t.storage) t.whole t.first t.end offset

-- the place that an index stands for, or none where it is out of range
abbrev pub resolved : Part → ℕ → Option Place
resolved t index = if reads_other t.storage index then other_place t (position_of index) else own_place t index

-- whether a place is a scalar boundary, with nothing of a scalar passed
abbrev pub is_boundary : Part → Place → Bool
is_boundary t place = (start (width_in t.storage) t.whole (scalars_before t (place.0)) == place.0) && (place.1 == 0)

-- the index word of a place, marked for the storage's encoding alone
abbrev pub index_at : Part → Place → ℕ
index_at t place = word_of (record (plain (place.0) (place.1) t.storage) { scalar_aligned = is_boundary t place })

-- the same where a boundary is only marked if it is known for one
abbrev pub index_known : Part → Bool → Place → ℕ
index_known t known place = word_of (record (plain (place.0) (place.1) t.storage) { scalar_aligned = known && is_boundary t place })

-- an index that is marked for the storage's encoding alone and in range, as each answer of `resolve` is
pub record IsResolved (t : Part) (index : ℕ) : Type 0 where
  pub marked8 : is_set index UTF8_BIT ≡ is_utf8 t.storage
  pub marked16 : is_set index UTF16_BIT ≡ is_utf16 t.storage
  pub not_below : low_of t ≤ position_of index
  pub not_above : position_of index ≤ high_of t

-- a scalar boundary, and how many units of the other encoding lie before it
pub record Reaches (t : Part) (at units : ℕ) : Type 0 where
  pub boundary : IsBoundaryIn t at
  pub offset : start (other_width t.storage) t.whole (scalars_before t at) ≡ units

-- where a text begins and ends in its storage: two scalar boundaries
pub record Bounds (t : Part) (low high : ℕ) : Type 0 where
  pub low_is : low ≡ low_of t
  pub high_is : high ≡ high_of t
  pub first_is : scalars_before t low ≡ t.first
  pub end_is : scalars_before t high ≡ t.end
  pub low_boundary : IsBoundaryIn t low
  pub high_boundary : IsBoundaryIn t high
  pub order : low ≤ high
  pub low_inside : low ≤ storage_size t
  pub high_inside : high ≤ storage_size t
  pub end_inside : t.end ≤ length t.whole
  pub low_small : low < 2 ^ 48
  pub high_small : high < 2 ^ 48
  pub origin : Reaches t 0 0

-- the floor among the units of the encoding that the storage hasn't
abbrev pub floor_across : Part → Place → Place
floor_across t place = other_floor (width_in t.storage) (other_width t.storage) t.whole (high_of t) place

-- the floor in a view of units; the first encoding is the view's, the second the storage's
abbrev pub floor_by : Encoding → Encoding → Part → Place → Place
floor_by Utf8 Utf8 t place = unit_floor place
floor_by Utf8 Utf16 t place = floor_across t place
floor_by Utf16 Utf8 t place = floor_across t place
floor_by Utf16 Utf16 t place = unit_floor place

abbrev pub floor_in : Encoding → Part → Place → Place
floor_in encoding t place = floor_by encoding t.storage t place

-- the greatest scalar boundary that isn't after a resolved index
pub record IsFloor (t : Part) (index at : ℕ) : Type 0 where
  pub is : at ≡ start (width_in t.storage) t.whole (scalars_before t (position_of index))
  pub boundary : IsBoundaryIn t at
  pub number : scalars_before t at ≡ scalars_before t (position_of index)
  pub not_after : at ≤ position_of index
  pub within : at ≤ high_of t
  pub inside : at ≤ storage_size t
  pub small : at < 2 ^ 48
