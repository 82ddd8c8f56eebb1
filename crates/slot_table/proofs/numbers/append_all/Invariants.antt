use Rattle.std.proofs.Common.{◌≡◌, ◌++◌, take, vec_capacity}
use Rattle.slot_table.proofs.numbers.append_all.Given as goal

abbrev pub invariant-loop-slot : goal.invariant-loop-slot
invariant-loop-slot l = (l.list.items ≡ l.fn.list.items ++ take l.slot-index l.more) × (vec_capacity l.list ≡ vec_capacity l.fn.list)
