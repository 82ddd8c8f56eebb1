use Rattle.std.proofs.Common.{◌≡◌}
use Rattle.view_tests.proofs.crumbs_tests.check_byte.Given as goal

abbrev pub invariant-loop-transcoded : goal.invariant-loop-transcoded
invariant-loop-transcoded g l = l.t ≡ l.fn.t
