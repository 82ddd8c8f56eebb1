use Rattle.std.proofs.Common.{◌≡◌, ◌∷◌, map}
use Rattle.std.specs.List.{range_with_len}
use Rattle.word_units.specs.Packing.{unit_word}
use Rattle.str_value.proofs.making_utf16.write_utf16.Given as goal

abbrev pub invariant-loop-k : goal.invariant-loop-k
invariant-loop-k g l = l.draft ≡ record l.fn.draft { written = l.head ∷ map (unit_word l.units) (range_with_len 0 l.k) }
