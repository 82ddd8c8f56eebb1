use Rattle.std.proofs.Common.{◌≡◌}
use Rattle.slot_tests.proofs.racing.both_copy_often.Given as goal

abbrev pub invariant-loop : goal.invariant-loop
invariant-loop g l = l.pass.heap ≡ l.fn.pass.heap
