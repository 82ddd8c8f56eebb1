use Rattle.std.proofs.Common.{◌≡◌}
use Rattle.view_tests.proofs.crumbs_tests.check_units.Given as goal

abbrev pub invariant-loop-past : goal.invariant-loop-past
invariant-loop-past g l = l.t ≡ l.fn.t
