-- The forms of a value and the two words of each. How the words are made or read is not said here.
-- NFC: Unicode Standard Annex 15. The words are the project's own.
use Rattle.std.specs.Prelude.{◌≡◌, ℕ, ◌+◌, ◌-◌, ◌*◌, ◌^◌, ◌<◌, ◌≤◌, ◌&&◌, Bool, true, false, IsTrue, List, [], ◌∷◌, ◌++◌, length, take, drop, replicate, slice_index, nat_lt, Option, Some, None, if◌then◌else◌}
use Rattle.std.specs.Int.{w64, from_le_bytes}
use Rattle.std.specs.Str.{IsUtf8}
use Rattle.object_words.specs.declared.form.Form.{Form}
use Rattle.object_words.specs.declared.form.Form.TheVariants.{Small, Native, Literal, Foreign, Owned}
use Rattle.object_words.specs.declared.layout.TheConstants.{SMALL_CAPACITY, WORD_BYTES, SLOT_WIDTH, TOP_SHIFT, NATIVE_TOP, FOREIGN_TOP, OWNED_TOP, LITERAL_TOP, SMALL_TOP, SMALL_ASCII_TOP}
use Rattle.object_words.specs.CountWord.{IsCount, count_word}

-- whether all code units are ASCII (The Unicode Standard, chapter 3: UTF-8)
abbrev pub is_ascii : List ℕ → Bool
is_ascii [] = true
is_ascii (unit ∷ units) = nat_lt unit 0x80 && is_ascii units

-- a value, by its form and what its words say
pub data Row : Type 0 where
  -- the bytes of the text
  small : List ℕ → Row
  -- whether ASCII, whether known to be in NFC, the number of code units, and the slot or the literal
  native : Bool → Bool → ℕ → ℕ → Row
  literal : Bool → Bool → ℕ → ℕ → Row
  -- whether ASCII, and so in NFC; the number of code units, and the slot
  foreign : Bool → ℕ → ℕ → Row
  -- whether UTF-16, whether ASCII, whether known to be in NFC, and the number of code units
  owned : Bool → Bool → Bool → ℕ → Row

-- the number of a slot or a literal that fits word 1
abbrev pub IsSlot : ℕ → Type 0
IsSlot slot = slot < 2 ^ SLOT_WIDTH

-- ASCII is always in NFC
abbrev pub Implies : Bool → Bool → Type 0
Implies one other = IsTrue one → IsTrue other

-- the rows that a value may have
abbrev pub IsRow : Row → Type 0
IsRow (small bytes) = (length bytes ≤ SMALL_CAPACITY) × ((i : ℕ) → slice_index bytes i < 256) × IsUtf8 bytes
IsRow (native ascii nfc count slot) = Implies ascii nfc × IsCount count × IsSlot slot
IsRow (literal ascii nfc count number) = Implies ascii nfc × IsCount count × IsSlot number
IsRow (foreign ascii count slot) = IsCount count × IsSlot slot
IsRow (owned utf16 ascii nfc count) = Implies ascii nfc × (IsTrue utf16 → Implies nfc ascii) × IsCount count

-- word 1 of a value that isn't Small
abbrev pub form_word : ℕ → ℕ → ℕ
form_word top slot = top * 2 ^ TOP_SHIFT + slot

-- the byte that tells a Small value, how many bytes it has, and whether they are ASCII
abbrev pub small_top : List ℕ → ℕ
small_top bytes = (if is_ascii bytes then SMALL_ASCII_TOP else SMALL_TOP) + length bytes

-- the sixteen bytes of a Small value: those of the text, zeros, and the byte that tells the form
abbrev pub small_bytes : List ℕ → List ℕ
small_bytes bytes = bytes ++ (replicate (SMALL_CAPACITY - length bytes) 0 ++ small_top bytes ∷ [])

-- the two words of a row
abbrev pub words_of : Row → ℕ × ℕ
words_of (small bytes) = (from_le_bytes w64 (take WORD_BYTES (small_bytes bytes)), from_le_bytes w64 (drop WORD_BYTES (small_bytes bytes)))
words_of (native ascii nfc count slot) = (count_word ascii nfc true true false count, form_word NATIVE_TOP slot)
words_of (literal ascii nfc count number) = (count_word ascii nfc false true false count, form_word LITERAL_TOP number)
words_of (foreign ascii count slot) = (count_word ascii ascii false false true count, form_word FOREIGN_TOP slot)
words_of (owned utf16 ascii nfc count) = (count_word ascii nfc false false utf16 count, form_word OWNED_TOP 0)

-- a row that a value may have, and its words
pub record Describes (row : Row) (words : ℕ × ℕ) : Type 0 where
  pub is_row : IsRow row
  pub says : words_of row ≡ words

-- the words that some row describes
abbrev pub IsObject : ℕ × ℕ → Type 0
IsObject words = (row : Row) × Describes row words

abbrev pub form_of : Row → Form
form_of (small bytes) = Small
form_of (native ascii nfc count slot) = Native
form_of (literal ascii nfc count number) = Literal
form_of (foreign ascii count slot) = Foreign
form_of (owned utf16 ascii nfc count) = Owned

-- how many code units a value has
abbrev pub count_of : Row → ℕ
count_of (small bytes) = length bytes
count_of (native ascii nfc count slot) = count
count_of (literal ascii nfc count number) = count
count_of (foreign ascii count slot) = count
count_of (owned utf16 ascii nfc count) = count

-- whether a value is ASCII
abbrev pub ascii_of : Row → Bool
ascii_of (small bytes) = is_ascii bytes
ascii_of (native ascii nfc count slot) = ascii
ascii_of (literal ascii nfc count number) = ascii
ascii_of (foreign ascii count slot) = ascii
ascii_of (owned utf16 ascii nfc count) = ascii

-- the slot or the literal of a value that has one
abbrev pub slot_of : Row → Option ℕ
slot_of (small bytes) = None
slot_of (native ascii nfc count slot) = Some slot
slot_of (literal ascii nfc count number) = Some number
slot_of (foreign ascii count slot) = Some slot
slot_of (owned utf16 ascii nfc count) = None
