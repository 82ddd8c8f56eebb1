-- The views of a text as Unicode scalars, UTF-8 and UTF-16: the offset and the index of each element.
use Rattle.std.specs.Prelude.{ℕ, Bool, true, false, List, length, slice_index, Option, if◌then◌else◌}
use Rattle.std.specs.Char.{encode_utf8}
use Rattle.std.specs.Char.Escape.{encode_utf16}
use Rattle.std.specs.Option.{option_map}
use Rattle.text_spec.specs.declared.encoding.Encoding.{Encoding}
use Rattle.text_spec.specs.declared.encoding.Encoding.TheVariants.{Utf8, Utf16}
use Rattle.text_spec.specs.Rounding.{Place, scalar_floor, scalar_offset, unit_offset, other_offset, scalar_index, unit_index, other_index}
use Rattle.text_spec.specs.Text.{utf8, utf16}
use Rattle.text_spec.specs.Views.{width_in, other_width}
use Rattle.word_units.specs.Parts.{Part, text_in}
use Rattle.rounding.specs.Resolving.{resolved, floor_in, index_at}
use Rattle.rounding.specs.Elements.{ElementsOf}
use Rattle.unit_views.specs.declared.kind.ElementKind.{ElementKind}
use Rattle.unit_views.specs.declared.kind.ElementKind.TheVariants.{Scalars, Units}

abbrev pub same_encoding : Encoding → Encoding → Bool
same_encoding Utf8 Utf8 = true
same_encoding Utf8 Utf16 = false
same_encoding Utf16 Utf8 = false
same_encoding Utf16 Utf16 = true

-- whether the elements of a view are the code units of the storage
abbrev pub is_own : ElementKind → Encoding → Bool
is_own Scalars storage = false
is_own (Units encoding) storage = same_encoding encoding storage

-- how many elements of a view a scalar has
abbrev pub view_width : ElementKind → ℕ → ℕ
view_width Scalars = λ scalar. 1
view_width (Units encoding) = width_in encoding

-- the code units of a text
abbrev pub units_of_text : Encoding → List ℕ → List ℕ
units_of_text Utf8 text = utf8 text
units_of_text Utf16 text = utf16 text

-- and those of a scalar
abbrev pub units_of_scalar : Encoding → ℕ → List ℕ
units_of_scalar Utf8 scalar = encode_utf8 scalar
units_of_scalar Utf16 scalar = encode_utf16 scalar

-- the elements of a text in a view
abbrev pub elements : ElementKind → List ℕ → List ℕ
elements Scalars text = text
elements (Units encoding) text = units_of_text encoding text

-- how many there are
abbrev pub element_count : ElementKind → Part → ℕ
element_count view t = length (elements view (text_in t))

-- the element with an offset
abbrev pub element_at : ElementKind → Part → ℕ → ℕ
element_at view t offset = slice_index (elements view (text_in t)) offset

-- the place of an element that a place is rounded down to
abbrev pub floor_of : ElementKind → Part → Place → Place
floor_of Scalars t place = scalar_floor (width_in t.storage) t.whole place
floor_of (Units encoding) t place = floor_in encoding t place

-- how many elements lie before such a place
abbrev pub offset_of : ElementKind → Part → Place → ℕ
offset_of Scalars t place = scalar_offset (width_in t.storage) t.whole t.first place
offset_of (Units encoding) t place =
    if same_encoding encoding t.storage
    then unit_offset (width_in t.storage) t.whole t.first place
    else other_offset (width_in t.storage) (other_width t.storage) t.whole t.first place

-- the place of the element with an offset
abbrev pub element_place : ElementKind → Part → ℕ → Place
element_place Scalars t offset = scalar_index (width_in t.storage) t.whole t.first offset
element_place (Units encoding) t offset =
    if same_encoding encoding t.storage
    then unit_index (width_in t.storage) t.whole t.first offset
    else other_index (width_in t.storage) (other_width t.storage) t.whole t.first offset

-- the offset of the element that an index is rounded down to, or none where the index is out of range
abbrev pub element_offset : ElementKind → Part → ℕ → Option ℕ
element_offset view t index = option_map (λ place. offset_of view t (floor_of view t place)) (resolved t index)

-- the index word of the element with an offset, and for the number of elements that of the text's end
abbrev pub element_index : ElementKind → Part → ℕ → ℕ
element_index view t offset = index_at t (element_place view t offset)

-- the view: what its calls answer and refuse is told over this
abbrev pub elements_of : ElementKind → Part → ElementsOf ℕ
elements_of view t = record {
  text = t;
  count = element_count view t;
  element_of = element_at view t;
  offset_of = element_offset view t;
  index_of = element_index view t;
  place_of = λ offset. (element_place view t offset).0;
}
