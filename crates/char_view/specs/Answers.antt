-- The view of Characters: the offset and the index of each.
use Rattle.std.specs.Prelude.{◌≡◌, ℕ, ◌+◌, ◌-◌, ◌<◌, true, Option, Some, nat_le, if◌then◌else◌}
use Rattle.std.specs.Option.{option_map}
use Rattle.text_spec.specs.declared.encoding.Encoding.{Encoding}
use Rattle.text_spec.specs.Offsets.{start}
use Rattle.text_spec.specs.Views.{width_in}
use Rattle.index_words.specs.Fields.{Fields, position_of, transcoded_of, stride_of, fields_of, plain, word_of}
use Rattle.word_units.specs.Parts.{Part, scalars_before, text_in}
use Rattle.rounding.specs.Elements.{ElementsOf}
use Rattle.rounding.specs.Refusals.{scalar_of}
use Rattle.rounding.specs.Resolving.{IsResolved}
use Rattle.char_view.specs.Characters.{character_count, character_start, character_of}

-- how many Characters the text has
abbrev pub characters_in : Part → ℕ
characters_in t = character_count (text_in t)

-- where Character n begins, in code units of the storage; for the number of Characters, where the text ends
abbrev pub character_position : Part → ℕ → ℕ
character_position t n = start (width_in t.storage) t.whole (t.first + character_start (text_in t) n)

-- the stride that an index keeps: 0 where six bits don't hold it
abbrev pub kept_stride : ℕ → ℕ
kept_stride length = if nat_le length 63 then length else 0

-- the fields of the index of a Character that begins at `from` and ends at `to`, both in code units of the storage
abbrev pub character_fields : Encoding → ℕ → ℕ → Fields
character_fields storage from to =
    record (plain from 0 storage) { stride = kept_stride (to - from); character_aligned = true; scalar_aligned = true }

-- the index word of Character n, and for the number of Characters that of the text's end, whose stride is 0
abbrev pub character_index : Part → ℕ → ℕ
character_index t n = word_of (character_fields t.storage (character_position t n) (character_position t (n + 1)))

-- the same index without a stride
abbrev pub without_stride : ℕ → ℕ
without_stride index = word_of (record (fields_of index) { stride = 0 })

-- the number of the Character that a scalar of the storage lies in
abbrev pub character_over : Part → ℕ → ℕ
character_over t scalar = character_of (text_in t) (scalar - t.first)

-- the number of the Character that a place is rounded down to
abbrev pub offset_at : Part → ℕ → ℕ
offset_at t position = character_over t (scalars_before t position)

-- the number of the Character that an index is rounded down to, or none where the index is out of range
abbrev pub character_offset : Part → ℕ → Option ℕ
character_offset t index = option_map (character_over t) (scalar_of t index)

-- the view: what its calls answer and refuse is told over this. An element is a Character's two bounds.
abbrev pub characters_of : Part → ElementsOf (ℕ × ℕ)
characters_of t = record {
  text = t;
  count = characters_in t;
  element_of = λ n. (character_index t n, character_index t (n + 1));
  offset_of = character_offset t;
  index_of = character_index t;
  place_of = character_position t;
}

-- `floor` is the index of the Character that the index is rounded down to, or of the end
abbrev pub IsFloorOf : Part → ℕ → ℕ → Type 0
IsFloorOf t index floor = (n : ℕ) × (character_offset t index ≡ Some n) × (floor ≡ character_index t n)

-- ---- the index that is taken at its word
-- the index is resolved on the text and stands at the start of Character n, and its stride is that Character's length
pub record IsTrueAt (t : Part) (index n : ℕ) : Type 0 where
  pub resolved : IsResolved t index
  pub inside : n < characters_in t
  pub position : position_of index ≡ character_position t n
  pub none_passed : transcoded_of index ≡ 0
  pub stride : position_of index + stride_of index ≡ character_position t (n + 1)
