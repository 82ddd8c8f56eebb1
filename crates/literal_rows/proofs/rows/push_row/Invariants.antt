use Rattle.std.proofs.Common.{◌≡◌, ◌∷◌, ◌++◌, map}
use Rattle.std.specs.List.{range_with_len}
use Rattle.word_units.specs.Packing.{byte_word}
use Rattle.literal_rows.specs.Rows.{row_head}
use Rattle.literal_rows.proofs.rows.push_row.Given as goal

abbrev pub invariant-loop-k : goal.invariant-loop-k
invariant-loop-k l = l.words.items ≡ l.fn.words.items ++ row_head l.text ∷ map (byte_word l.text) (range_with_len 0 l.k)
