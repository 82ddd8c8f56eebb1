use Rattle.std.proofs.Common.{◌≡◌, ◌<◌, ◌≤◌, ◌-◌, ◌/◌, ◌%◌, map, slice_index, vec_capacity}
use Rattle.std.specs.List.{range_with_len}
use Rattle.text_spec.specs.Packed.{unit_of}
use Rattle.str_value.proofs.parts.units_by_words.Given as goal

abbrev pub invariant-loop-p : goal.invariant-loop-p
invariant-loop-p l =
    (l.units.items ≡ map (unit_of l.fn.value.words) (range_with_len l.low (l.p - l.low))) × (l.value ≡ l.fn.value)
    × (l.low < l.p → 0 < l.p % 4 → l.word ≡ slice_index l.fn.value.words (l.p / 4)) × (l.high - l.low ≤ vec_capacity l.units) × (l.low ≤ l.p)
