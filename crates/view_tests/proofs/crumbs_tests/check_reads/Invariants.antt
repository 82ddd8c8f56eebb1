use Rattle.std.proofs.Common.{◌≡◌}
use Rattle.view_tests.proofs.crumbs_tests.check_reads.Given as goal

abbrev pub invariant-offsets : goal.invariant-offsets
invariant-offsets g l = l.t ≡ l.fn.t

abbrev pub invariant-places : goal.invariant-places
invariant-places g l = l.t ≡ l.fn.t
