use Rattle.std.proofs.Common.{◌≡◌, ◌∷◌, map}
use Rattle.std.specs.List.{range_with_len}
use Rattle.word_units.specs.Packing.{byte_word}
use Rattle.str_value.proofs.making_utf8.write_utf8.Given as goal

abbrev pub invariant-loop-k : goal.invariant-loop-k
invariant-loop-k g l = l.draft ≡ record l.fn.draft { written = l.head ∷ map (byte_word l.bytes) (range_with_len 0 l.k) }
