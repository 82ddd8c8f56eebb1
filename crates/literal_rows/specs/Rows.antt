-- The rows of literals: each a count word, and the text's UTF-8 bytes eight to a word. A literal is the list of its bytes.
use Rattle.std.specs.Prelude.{ℕ, zero, suc, ◌+◌, ◌<◌, ◌≤◌, true, false, List, [], ◌∷◌, ◌++◌, length, get_or}
use Rattle.object_words.specs.CountWord.{IsCount, count_word}
use Rattle.object_words.specs.Rows.{is_ascii}
use Rattle.word_units.specs.Packing.{byte_words}

-- word 0 of a literal's row; ASCII alone is known to be in NFC (Unicode Standard Annex 15)
abbrev pub row_head : List ℕ → ℕ
row_head bytes = count_word (is_ascii bytes) (is_ascii bytes) false true false (length bytes)

abbrev pub literal_row : List ℕ → List ℕ
literal_row bytes = row_head bytes ∷ byte_words bytes

-- all rows, one behind the other
abbrev pub rows_of : List (List ℕ) → List ℕ
rows_of [] = []
rows_of (t ∷ ts) = literal_row t ++ rows_of ts

-- how many words stand before the row of literal n
abbrev pub row_start : List (List ℕ) → ℕ → ℕ
row_start [] n = 0
row_start (t ∷ ts) zero = 0
row_start (t ∷ ts) (suc n) = length (literal_row t) + row_start ts n

-- where each row begins, the first of them at `from`
abbrev pub row_starts : ℕ → List (List ℕ) → List ℕ
row_starts from [] = []
row_starts from (t ∷ ts) = from ∷ row_starts (from + length (literal_row t)) ts

-- the words of literal n
abbrev pub row_words : List (List ℕ) → ℕ → List ℕ
row_words ls n = literal_row (get_or ls n [])

-- no literal has more than so many bytes
abbrev pub AllFit : ℕ → List (List ℕ) → Type 0
AllFit most ls = (m : ℕ) → m < length ls → length (get_or ls m []) ≤ most

-- literal n is the first that has more
pub record IsFirstTooLong (most : ℕ) (ls : List (List ℕ)) (n : ℕ) : Type 0 where
  pub below : n < length ls
  pub long : most < length (get_or ls n [])
  pub first : (m : ℕ) → m < n → length (get_or ls m []) ≤ most

-- the number of bytes of each literal fits a count word
abbrev pub AllCounted : List (List ℕ) → Type 0
AllCounted ls = (m : ℕ) → m < length ls → IsCount (length (get_or ls m []))
