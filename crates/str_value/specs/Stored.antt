-- What a value keeps, as the text, the row and the content words that it means.
use Rattle.std.specs.Prelude.{◌≡◌, ℕ, ◌*◌, ◌/◌, ◌%◌, ◌^◌, ◌<◌, ◌≤◌, List, [], ◌∷◌, length, drop, slice_index, chars, IsUtf8, MatchOption, None, true, false}
use Rattle.index_words.specs.Crumbs.{crumbs}
use Rattle.text_spec.specs.Packed.{bytes_of, units_of}
use Rattle.text_spec.specs.Text.{utf8, repair}
use Rattle.word_units.specs.Packing.{byte_words, unit_words}
use Rattle.object_words.specs.CountWord.{marks_utf16, unit_count}
use Rattle.object_words.specs.Rows.{Row, small, native, literal, foreign, owned, is_ascii, Describes}
use Rattle.object_words.specs.declared.layout.TheConstants.{TOP_SHIFT, SMALL_COUNTS, SLOT_WIDTH}
use Rattle.slot_table.specs.Owners.{RefSeen, LiteralSeen}
use Rattle.slot_edits.specs.Texts.{native_count}
use Rattle.str_value.specs.declared.storage.Storage.{Storage}
use Rattle.str_value.specs.declared.storage.Storage.TheVariants.{Words, Native, Foreign, Literal, Bytes, Units}
use Rattle.str_value.specs.declared.limits.TheConstants.{MAX_TEXT_BYTES}
use Rattle.str_value.specs.Meaning.{Meaning, Place, own, shared, fixed}

-- how many bytes the words of a Small value hold
abbrev pub small_count : ℕ × ℕ → ℕ
small_count object = object.1 / 2 ^ TOP_SHIFT % SMALL_COUNTS

-- the content words of a slot or a literal, which stand behind its count word, and how many code units this says
abbrev pub content : List ℕ → List ℕ
content words = drop 1 words

abbrev pub counted : List ℕ → ℕ
counted words = unit_count (slice_index words 0)

-- the code units that are kept
abbrev pub held : ℕ × ℕ → Storage → List ℕ
held object Words = bytes_of (object.0 ∷ object.1 ∷ []) (small_count object)
held object (Native r n) = bytes_of (content r.known) (counted r.known)
held object (Foreign r) = units_of (content r.known) (counted r.known)
held object (Literal l) = bytes_of (content l.words) (counted l.words)
held object (Bytes v) = v.items
held object (Units v) = v.items

abbrev pub text_of : ℕ × ℕ → Storage → List ℕ
text_of object Words = chars (held object Words)
text_of object (Native r n) = chars (held object (Native r n))
text_of object (Foreign r) = repair (held object (Foreign r))
text_of object (Literal l) = chars (held object (Literal l))
text_of object (Bytes v) = chars v.items
text_of object (Units v) = repair v.items

abbrev pub row_of : ℕ × ℕ → Storage → Row
row_of object Words = small (held object Words)
row_of object (Native r n) = let bytes = held object (Native r n) in native (is_ascii bytes) (is_ascii bytes) (length bytes) r.slot
row_of object (Foreign r) = let units = held object (Foreign r) in foreign (is_ascii units) (length units) r.slot
row_of object (Literal l) = let bytes = held object (Literal l) in literal (is_ascii bytes) (is_ascii bytes) (length bytes) (object.1 % 2 ^ SLOT_WIDTH)
row_of object (Bytes v) = owned false (is_ascii v.items) (is_ascii v.items) (length v.items)
row_of object (Units v) = owned true (is_ascii v.items) (is_ascii v.items) (length v.items)

-- the content words that are read of it
abbrev pub words_of : ℕ × ℕ → Storage → List ℕ
words_of object Words = object.0 ∷ object.1 ∷ []
words_of object (Native r n) = content r.known
words_of object (Foreign r) = content r.known
words_of object (Literal l) = content l.words
words_of object (Bytes v) = byte_words v.items
words_of object (Units v) = unit_words v.items

abbrev pub place_of : Storage → Place
place_of Words = own
place_of (Native r n) = shared r
place_of (Foreign r) = shared r
place_of (Literal l) = fixed l
place_of (Bytes v) = own
place_of (Units v) = own

-- what contracts see of it
abbrev pub meaning_of : ℕ × ℕ → Storage → Meaning
meaning_of object storage = record { text = text_of object storage; row = row_of object storage; words = words_of object storage; place = place_of storage }

-- the number of words of the known breadcrumbs
abbrev pub crumb_words : Storage → ℕ
crumb_words Words = 0
crumb_words (Native r n) = n
crumb_words (Foreign r) = 0
crumb_words (Literal l) = 0
crumb_words (Bytes v) = 0
crumb_words (Units v) = 0

-- so many words of a side are the text's breadcrumbs, and none where no side is known
abbrev pub IsSide : RefSeen → ℕ → List ℕ → Type 0
IsSide r n text = MatchOption r.side (n ≡ 0) (λ d. (0 < n) × (length r.side_words ≡ n) × (r.side_words ≡ crumbs text 64))

-- the words of a slot hold UTF-8, and the reference has no places
pub record HoldsUtf8 (r : RefSeen) (n : ℕ) : Type 0 where
  pub says : slice_index r.known 0 ≡ native_count (is_ascii (bytes_of (content r.known) (counted r.known))) (counted r.known)
  pub marked : marks_utf16 (slice_index r.known 0) ≡ false
  pub room : counted r.known ≤ 8 * length (content r.known)
  pub some : 0 < length r.known
  pub utf8 : IsUtf8 (bytes_of (content r.known) (counted r.known))
  pub within : length r.known ≤ r.heap.layout.capacity_words
  pub clean : r.places ≡ []
  pub side : IsSide r n (chars (bytes_of (content r.known) (counted r.known)))
  pub alone : r.bare ≡ true → r.side ≡ None

-- the words of a slot hold UTF-16
pub record HoldsUtf16 (r : RefSeen) : Type 0 where
  pub marked : marks_utf16 (slice_index r.known 0) ≡ true
  pub room : counted r.known ≤ 4 * length (content r.known)
  pub some : 0 < length r.known
  pub within : length r.known ≤ r.heap.layout.capacity_words
  pub clean : r.places ≡ []
  pub no_side : r.side ≡ None

-- the words of a literal hold UTF-8
pub record IsLiteralText (l : LiteralSeen) : Type 0 where
  pub room : counted l.words ≤ 8 * length (content l.words)
  pub some : 0 < length l.words
  pub utf8 : IsUtf8 (bytes_of (content l.words) (counted l.words))

-- what is kept is a text's: UTF-8, or any 16-bit units
abbrev pub IsKept : ℕ × ℕ → Storage → Type 0
IsKept object Words = IsUtf8 (held object Words)
IsKept object (Native r n) = HoldsUtf8 r n
IsKept object (Foreign r) = HoldsUtf16 r
IsKept object (Literal l) = IsLiteralText l
IsKept object (Bytes v) = IsUtf8 v.items × ((i : ℕ) → slice_index v.items i < 2 ^ 8)
IsKept object (Units v) = (i : ℕ) → slice_index v.items i < 2 ^ 16

-- the two words are those of what is kept, and the text is within the limit
pub record IsStored (object : ℕ × ℕ) (storage : Storage) : Type 0 where
  pub describes : Describes (row_of object storage) object
  pub kept : IsKept object storage
  pub limit : length (utf8 (text_of object storage)) ≤ MAX_TEXT_BYTES
