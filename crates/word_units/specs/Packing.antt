-- Code units packed into content words, least first; what lies behind the last is zero.
use Rattle.std.specs.Prelude.{ℕ, ◌+◌, ◌*◌, ◌^◌, List, length, map, drop, slice_index}
use Rattle.std.specs.Int.{w64, from_le_bytes}
use Rattle.std.specs.List.{range_with_len}
use Rattle.text_spec.specs.declared.encoding.Encoding.TheVariants.{Utf8, Utf16}
use Rattle.text_spec.specs.Packed.{content_words}

-- word k of bytes, and of units
abbrev pub byte_word : List ℕ → ℕ → ℕ
byte_word bytes k = from_le_bytes w64 (drop (8 * k) bytes)

abbrev pub unit_word : List ℕ → ℕ → ℕ
unit_word units k = slice_index units (4 * k) + slice_index units (4 * k + 1) * 2 ^ 16 + slice_index units (4 * k + 2) * 2 ^ 32 + slice_index units (4 * k + 3) * 2 ^ 48

-- all words of bytes, and of units
abbrev pub byte_words : List ℕ → List ℕ
byte_words bytes = map (byte_word bytes) (range_with_len 0 (content_words Utf8 (length bytes)))

abbrev pub unit_words : List ℕ → List ℕ
unit_words units = map (unit_word units) (range_with_len 0 (content_words Utf16 (length units)))
