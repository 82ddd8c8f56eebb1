-- The count word of a text: its flags, and how many code units it has. The word is the project's own.
use Rattle.std.specs.Prelude.{ℕ, ◌+◌, ◌/◌, ◌%◌, ◌^◌, ◌<◌, ◌==◌, Bool, if◌then◌else◌}
use Rattle.object_words.specs.declared.count_word.TheConstants.{ASCII_BIT, NFC_BIT, NATIVE_BIT, TABLE_BIT, UTF16_BIT, COUNT_WIDTH}

-- a number of code units that fits the word
abbrev pub IsCount : ℕ → Type 0
IsCount count = count < 2 ^ COUNT_WIDTH

-- what a bit adds to the word
abbrev pub weight : Bool → ℕ → ℕ
weight set bit = if set then 2 ^ bit else 0

-- the word of these flags and this number of code units
abbrev pub count_word : Bool → Bool → Bool → Bool → Bool → ℕ → ℕ
count_word ascii nfc native table utf16 count = weight ascii ASCII_BIT + weight nfc NFC_BIT + weight native NATIVE_BIT
    + weight table TABLE_BIT + weight utf16 UTF16_BIT + count

-- whether a word marks its content as UTF-16
abbrev pub marks_utf16 : ℕ → Bool
marks_utf16 word = word / 2 ^ UTF16_BIT % 2 == 1

-- how many code units a word says
abbrev pub unit_count : ℕ → ℕ
unit_count word = word % 2 ^ COUNT_WIDTH
