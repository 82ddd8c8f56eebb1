-- Texts as lists of scalars, in their two encodings. No word, byte offset or storage is named here.
-- A scalar is a number from 0 to 0xD7FF or from 0xE000 to 0x10FFFF (The Unicode Standard, chapter 3, section 3.9, D76).
use Rattle.std.specs.Prelude.{ℕ, List, Option, Some, None, if◌then◌else◌, chars, encode_utf8_all}
use Rattle.std.specs.List.{flat_map}
use Rattle.std.specs.Str.{is_utf8}
use Rattle.std.specs.Char.Escape.{encode_utf16}
use Rattle.std.specs.Char.Utf16.{utf16_lossy_chars}

-- the UTF-8 of a text, a byte a member (The Unicode Standard, section 3.9, UTF-8: D92)
abbrev pub utf8 : List ℕ → List ℕ
utf8 = encode_utf8_all

-- the UTF-16 of a text, a code unit a member (The Unicode Standard, section 3.9, UTF-16: D91)
abbrev pub utf16 : List ℕ → List ℕ
utf16 text = flat_map encode_utf16 text

-- the text whose UTF-8 these bytes are, or none where there is no such text
abbrev pub decode_utf8 : List ℕ → Option (List ℕ)
decode_utf8 bytes = if is_utf8 bytes then Some (chars bytes) else None

-- the text of any UTF-16 code units: a surrogate without its other half reads as U+FFFD (ours, after Swift; pairs: section 3.9)
abbrev pub repair : List ℕ → List ℕ
repair units = utf16_lossy_chars units
