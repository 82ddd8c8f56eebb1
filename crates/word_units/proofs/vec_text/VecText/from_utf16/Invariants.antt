use Rattle.std.proofs.Common.{◌≡◌, map}
use Rattle.std.specs.List.{range_with_len}
use Rattle.word_units.specs.Packing.{unit_word}
use Rattle.word_units.proofs.vec_text.VecText.from_utf16.Given as goal

abbrev pub invariant-loop-k : goal.invariant-loop-k
invariant-loop-k l = l.words.items ≡ map (unit_word l.units) (range_with_len 0 l.k)
