use Rattle.std.proofs.Common.{◌≡◌, ◌<◌, ◌≤◌, ◌-◌, ◌/◌, ◌%◌, map, slice_index, vec_capacity}
use Rattle.std.specs.List.{range_with_len}
use Rattle.text_spec.specs.Packed.{byte_of}
use Rattle.str_value.proofs.parts.bytes_by_words.Given as goal

abbrev pub invariant-loop-p : goal.invariant-loop-p
invariant-loop-p l =
    (l.bytes.items ≡ map (byte_of l.fn.value.words) (range_with_len l.low (l.p - l.low))) × (l.value ≡ l.fn.value)
    × (l.low < l.p → 0 < l.p % 8 → l.word ≡ slice_index l.fn.value.words (l.p / 8)) × (l.high - l.low ≤ vec_capacity l.bytes) × (l.low ≤ l.p)
