-- Code units packed into content words, least first, and the text that they denote.
-- UTF-8 and UTF-16 are those of The Unicode Standard, section 3.9 (D92, D91); the packing is ours.
use Rattle.std.specs.Prelude.{ℕ, ◌+◌, ◌*◌, ◌/◌, ◌%◌, ◌^◌, ◌<◌, ◌≤◌, List, length, slice_index, map, nat_le, Option, Some, None, if◌then◌else◌}
use Rattle.std.specs.List.{range_with_len}
use Rattle.text_spec.specs.declared.encoding.Encoding.{Encoding}
use Rattle.text_spec.specs.declared.encoding.Encoding.TheVariants.{Utf8, Utf16}
use Rattle.text_spec.specs.Text.{decode_utf8, repair}

-- byte p of words that hold eight bytes each
abbrev pub byte_of : List ℕ → ℕ → ℕ
byte_of words p = (slice_index words (p / 8) / 2 ^ (8 * (p % 8))) % 256

-- 16-bit unit p of words that hold four units each
abbrev pub unit_of : List ℕ → ℕ → ℕ
unit_of words p = (slice_index words (p / 4) / 2 ^ (16 * (p % 4))) % 65536

-- the first n bytes, and the first n units
abbrev pub bytes_of : List ℕ → ℕ → List ℕ
bytes_of words n = map (byte_of words) (range_with_len 0 n)

abbrev pub units_of : List ℕ → ℕ → List ℕ
units_of words n = map (unit_of words) (range_with_len 0 n)

-- how many content words n code units take
abbrev pub content_words : Encoding → ℕ → ℕ
content_words Utf8 n = (n + 7) / 8
content_words Utf16 n = (n + 3) / 4

-- how many code units fill a number of words
abbrev pub units_in : Encoding → ℕ → ℕ
units_in Utf8 count = 8 * count
units_in Utf16 count = 4 * count

-- the text of a list of code units: none where bytes aren't UTF-8, and lone surrogates read as U+FFFD
abbrev pub decode_packed : Encoding → List ℕ → ℕ → Option (List ℕ)
decode_packed Utf8 words n = decode_utf8 (bytes_of words n)
decode_packed Utf16 words n = Some (repair (units_of words n))

-- the text that the first n code units of the words denote: none where the words hold fewer than n, or where bytes aren't UTF-8
abbrev pub denoted_text : Encoding → List ℕ → ℕ → Option (List ℕ)
denoted_text encoding words n = if nat_le n (units_in encoding (length words)) then decode_packed encoding words n else None

-- u and v are the two halves of a surrogate pair (The Unicode Standard, section 3.8, D71 to D75)
abbrev pub IsPair : ℕ → ℕ → Type 0
IsPair u v = (0xD800 ≤ u) × (u < 0xDC00) × (0xDC00 ≤ v) × (v < 0xE000)
