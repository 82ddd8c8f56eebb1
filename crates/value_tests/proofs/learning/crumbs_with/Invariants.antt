use Rattle.std.proofs.Common.{◌≡◌}
use Rattle.value_tests.proofs.learning.crumbs_with.Given as goal

abbrev pub invariant-loop-j : goal.invariant-loop-j
invariant-loop-j g l = l.value ≡ l.fn.value
