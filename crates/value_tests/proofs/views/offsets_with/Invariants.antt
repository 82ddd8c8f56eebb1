use Rattle.std.proofs.Common.{◌≡◌}
use Rattle.value_tests.proofs.views.offsets_with.Given as goal

abbrev pub invariant-loop-offset : goal.invariant-loop-offset
invariant-loop-offset g l = l.value ≡ l.fn.value
