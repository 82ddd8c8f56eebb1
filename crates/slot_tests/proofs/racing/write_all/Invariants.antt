use Rattle.std.proofs.Common.{◌≡◌}
use Rattle.slot_tests.proofs.racing.write_all.Given as goal

abbrev pub invariant-loop-word : goal.invariant-loop-word
invariant-loop-word l = l.reference.heap ≡ l.fn.reference.heap
