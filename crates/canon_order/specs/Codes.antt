-- ASCII texts compared a word of each at a time: there a scalar is one code unit of either encoding, and its code is that unit.
use Rattle.std.specs.Prelude.{◌≡◌, ℕ, ◌*◌, ◌/◌, ◌%◌, ◌^◌, ◌<◌, ◌≤◌, List, length, slice_index}
use Rattle.text_spec.specs.declared.encoding.Encoding.{Encoding}
use Rattle.text_spec.specs.declared.encoding.Encoding.TheVariants.{Utf8, Utf16}

-- the code unit at place p of a storage, out of the word that holds it
abbrev pub code_in : Encoding → ℕ → ℕ → ℕ
code_in Utf8 word p = word / 2 ^ (8 * (p % 8)) % 256
code_in Utf16 word p = word / 2 ^ (16 * (p % 4)) % 65536

-- the word holds the members of a list from place `from` to before place `to`
pub record HoldsCodes (encoding : Encoding) (word : ℕ) (text : List ℕ) (from to : ℕ) : Type 0 where
  pub inside : to ≤ length text
  pub codes : (p : ℕ) → from ≤ p → p < to → slice_index text p ≡ code_in encoding word p

-- the encoding of two that has the fewer code units in a word
abbrev pub wider : Encoding → Encoding → Encoding
wider Utf8 Utf8 = Utf8
wider Utf8 Utf16 = Utf16
wider Utf16 other = Utf16

-- how many code units of an encoding a word holds
abbrev pub in_a_word : Encoding → ℕ
in_a_word Utf8 = 8
in_a_word Utf16 = 4
