-- The views of a text, as the widths of its scalars, and what an element's offset is in each.
-- A text may be a part of the whole text that its storage holds: the scalars from number `first` to number `end`.
use Rattle.std.specs.Prelude.{ℕ, ◌-◌, List, length, take, drop}
use Rattle.std.specs.Char.{len_utf8}
use Rattle.text_spec.specs.declared.encoding.Encoding.{Encoding}
use Rattle.text_spec.specs.declared.encoding.Encoding.TheVariants.{Utf8, Utf16}
use Rattle.text_spec.specs.Offsets.{len_utf16, start}

-- how many code units of an encoding a scalar takes (The Unicode Standard, section 3.9)
abbrev pub width_in : Encoding → ℕ → ℕ
width_in Utf8 = len_utf8
width_in Utf16 = len_utf16

-- the same in the encoding that it isn't
abbrev pub other_width : Encoding → ℕ → ℕ
other_width Utf8 = len_utf16
other_width Utf16 = len_utf8

-- how many code units a whole text takes
abbrev pub size_in : Encoding → List ℕ → ℕ
size_in encoding whole = start (width_in encoding) whole (length whole)

-- the text that lies from scalar `first` of the whole one to scalar `end`
abbrev pub part : List ℕ → ℕ → ℕ → List ℕ
part whole first end = take (end - first) (drop first whole)
