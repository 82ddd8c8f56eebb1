use Rattle.std.proofs.Common.{◌≡◌, map}
use Rattle.std.specs.List.{range_with_len}
use Rattle.word_units.specs.Packing.{byte_word}
use Rattle.word_units.proofs.vec_text.VecText.from_utf8.Given as goal

abbrev pub invariant-loop-k : goal.invariant-loop-k
invariant-loop-k l = l.words.items ≡ map (byte_word l.text) (range_with_len 0 l.k)
