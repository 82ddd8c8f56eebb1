use Rattle.std.proofs.Common.{◌≡◌}
use Rattle.value_tests.proofs.racing_edits.races.Given as goal

abbrev pub invariant-loop-round : goal.invariant-loop-round
invariant-loop-round g l = l.pass.heap ≡ l.fn.pass.heap
