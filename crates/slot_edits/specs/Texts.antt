-- A text of UTF-8 in the words of a slot: a count word, then its bytes eight to a word. Read by callers.
use Rattle.std.specs.Prelude.{◌≡◌, ℕ, Bool, true, false, List, ◌∷◌, length, map, slice_index}
use Rattle.std.specs.List.{range_with_len}
use Rattle.word_units.specs.Packing.{byte_word, byte_words}
use Rattle.object_words.specs.CountWord.{count_word}
use Rattle.object_words.specs.Rows.{is_ascii, native, Describes}
use Rattle.slot_edits.specs.declared.part.Part.{Part}
use Rattle.slot_edits.specs.Parts.{Fits, spliced}
use Rattle.slot_edits.specs.Words.{content_bytes}

-- the count word of so many bytes: only ASCII is marked as NFC (Unicode Standard Annex 15)
abbrev pub native_count : Bool → ℕ → ℕ
native_count ascii count = count_word ascii ascii true true false count

-- the words that bytes are published as: the count word, then the bytes eight to a word, with zeros behind the last
abbrev pub native_words : List ℕ → List ℕ
native_words bytes = native_count (is_ascii bytes) (length bytes) ∷ byte_words bytes

-- the first of them: the count word and k content words
abbrev pub begun : List ℕ → ℕ → List ℕ
begun bytes k = native_count (is_ascii bytes) (length bytes) ∷ map (byte_word bytes) (range_with_len 0 k)

-- the two words of a value whose text has these bytes, in a slot
abbrev pub IsObjectOf : List ℕ → ℕ → ℕ × ℕ → Type 0
IsObjectOf bytes slot object = Describes (native (is_ascii bytes) (is_ascii bytes) (length bytes) slot) object

-- the words hold a text of so many bytes, and the count word says how many and whether all are ASCII
pub record IsText (known : List ℕ) (count : ℕ) (ascii : Bool) : Type 0 where
  pub says : slice_index known 0 ≡ native_count ascii count
  pub exact : ascii ≡ is_ascii (content_bytes known count)
  pub room : Fits count (length known)

-- the later words hold the text of the earlier ones with other bytes in place of the part
pub record Edited (known : List ℕ) (part : Part) (with later : List ℕ) : Type 0 where
  pub bytes : content_bytes later (length (spliced known part with)) ≡ spliced known part with
  pub text : IsText later (length (spliced known part with)) (is_ascii (spliced known part with))
