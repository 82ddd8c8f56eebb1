use Rattle.std.proofs.Common.{◌≡◌, ◌+◌, ◌≤◌, ◌++◌, length, vec_capacity}
use Rattle.slot_table.specs.Numbers.{down_from}
use Rattle.slot_table.proofs.numbers.all_slots.Given as goal

abbrev pub invariant-loop-left : goal.invariant-loop-left
invariant-loop-left l = (l.free.items ++ down_from l.left ≡ down_from l.fn.slots) × (length l.free.items + l.left ≡ l.fn.slots) × (l.fn.slots ≤ vec_capacity l.free)

abbrev pub decreases-loop-left : goal.decreases-loop-left
decreases-loop-left l = l.left
