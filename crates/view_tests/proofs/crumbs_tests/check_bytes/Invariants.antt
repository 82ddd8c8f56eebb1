use Rattle.std.proofs.Common.{◌≡◌}
use Rattle.view_tests.proofs.crumbs_tests.check_bytes.Given as goal

abbrev pub invariant-loop-byte : goal.invariant-loop-byte
invariant-loop-byte g l = l.t ≡ l.fn.t
