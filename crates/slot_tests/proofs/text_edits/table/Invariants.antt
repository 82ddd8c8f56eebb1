use Rattle.std.proofs.Common.{◌≡◌}
use Rattle.slot_tests.proofs.text_edits.table.Given as goal

abbrev pub invariant-loop-number : goal.invariant-loop-number
invariant-loop-number l = l.pass.heap ≡ l.fn.pass.heap
