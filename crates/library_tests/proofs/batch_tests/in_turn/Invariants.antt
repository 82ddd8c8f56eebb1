use Rattle.std.proofs.Common.{◌≡◌}
use Rattle.library_tests.proofs.batch_tests.in_turn.Given as goal

abbrev pub invariant-loop-number : goal.invariant-loop-number
invariant-loop-number l = l.pass.heap ≡ l.fn.pass.heap
