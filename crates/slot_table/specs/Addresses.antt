-- Inner: where a heap's words lie in its table, and the words that the table begins with.
use Rattle.std.specs.Prelude.{ℕ, zero, suc, ◌+◌, ◌*◌, List, ◌++◌, replicate, Option, Some, None}
use Rattle.slot_model.specs.declared.layout.Layout.{Layout}
use Rattle.literal_rows.specs.Rows.{rows_of}

-- Word 0 is 0 for ever. Slot x has its reference count, the word that shows its side, and its data words; the rows of the literals follow
abbrev pub count_place : Layout → ℕ → ℕ
count_place k x = x * (k.capacity_words + 2) + 1

abbrev pub side_place : Layout → ℕ → ℕ
side_place k x = x * (k.capacity_words + 2) + 2

abbrev pub data_place : Layout → ℕ → ℕ → ℕ
data_place k x i = x * (k.capacity_words + 2) + 3 + i

-- the number of words before the rows of the literals
abbrev pub table_size : Layout → ℕ
table_size k = k.slots * (k.capacity_words + 2) + 1

-- the word that shows a side: 0 for none, or the side's number and 1
abbrev pub side_word : Option ℕ → ℕ
side_word None = 0
side_word (Some d) = suc d

-- the side that such a word shows
abbrev pub found_in : ℕ → Option ℕ
found_in zero = None
found_in (suc d) = Some d

abbrev pub zeros : ℕ → List ℕ
zeros n = replicate n 0

-- the table's words as the heap opens: every slot is idle, and the rows stand behind
abbrev pub first_table : Layout → List (List ℕ) → List ℕ
first_table k ls = zeros (table_size k) ++ rows_of ls
