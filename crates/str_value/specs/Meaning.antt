-- What contracts see of a value: its text; the row of its two words, which tells the form, the flags and the number of code units;
-- its content words; and where these stand.
use Rattle.std.specs.Prelude.{◌≡◌, ℕ, List, Bool, true, false, Option, Some, None, if◌then◌else◌}
use Rattle.std.specs.Char.{len_utf8}
use Rattle.text_spec.specs.declared.encoding.Encoding.{Encoding}
use Rattle.text_spec.specs.declared.encoding.Encoding.TheVariants.{Utf8, Utf16}
use Rattle.text_spec.specs.Editing.{replaced}
use Rattle.text_spec.specs.Offsets.{start, down}
use Rattle.text_spec.specs.Views.{width_in, part}
use Rattle.word_units.specs.Parts.{Part, all_of}
use Rattle.object_words.specs.Rows.{Row, small, native, literal, foreign, owned}
use Rattle.slot_table.specs.Owners.{PassSeen, RefSeen, LiteralSeen}

-- in the value itself or in a vector of its own; in a slot, of which it holds a reference; in a literal of the heap
pub data Place : Type 0 where
  own : Place
  shared : RefSeen → Place
  fixed : LiteralSeen → Place

pub record Meaning : Type 0 where
  -- the Unicode scalars, in order
  pub text : List ℕ
  -- what the two words say
  pub row : Row
  -- the content words: eight bytes of UTF-8 or four units of UTF-16 each, least first
  pub words : List ℕ
  -- where they stand
  pub place : Place

-- the encoding of the storage
abbrev pub storage_of : Row → Encoding
storage_of (small bytes) = Utf8
storage_of (native ascii nfc count slot) = Utf8
storage_of (literal ascii nfc count number) = Utf8
storage_of (foreign ascii count slot) = Utf16
storage_of (owned utf16 ascii nfc count) = if utf16 then Utf16 else Utf8

-- the text as all of what the storage holds
abbrev pub own_part : Meaning → Part
own_part s = all_of (storage_of s.row) s.text

-- the text between two places of the storage, which are scalar boundaries in its code units
abbrev pub text_between : Meaning → ℕ → ℕ → List ℕ
text_between s low high = part s.text (down (width_in (storage_of s.row)) s.text low) (down (width_in (storage_of s.row)) s.text high)

-- where a scalar boundary of the storage stands in the UTF-8 of the text
abbrev pub byte_place : Meaning → ℕ → ℕ
byte_place s low = start len_utf8 s.text (down (width_in (storage_of s.row)) s.text low)

-- the text with another one in place of what lies between two such places
abbrev pub spliced : Meaning → ℕ → ℕ → List ℕ → List ℕ
spliced s low high with = replaced s.text (down (width_in (storage_of s.row)) s.text low) (down (width_in (storage_of s.row)) s.text high) with

-- the value belongs to the heap of the pass
abbrev pub OfHeap : PassSeen → Place → Type 0
OfHeap p own = Unit {0}
OfHeap p (shared r) = r.heap ≡ p.heap
OfHeap p (fixed l) = l.heap ≡ p.heap

-- the credits that a value holds
abbrev pub credit_of : Place → ℕ
credit_of own = 0
credit_of (shared r) = 1
credit_of (fixed l) = 0

-- whether it is known to be the only holder of its slot, and, besides, that no breadcrumbs are attached
abbrev pub sole_of : Place → Bool
sole_of own = false
sole_of (shared r) = r.sole
sole_of (fixed l) = false

abbrev pub bare_of : Place → Bool
bare_of own = false
bare_of (shared r) = r.bare
bare_of (fixed l) = false

-- the slot that is known to have its breadcrumbs
abbrev pub side_of : Place → Option ℕ
side_of own = None
side_of (shared r) = r.side
side_of (fixed l) = None

abbrev pub is_there : Option ℕ → Bool
is_there None = false
is_there (Some d) = true
