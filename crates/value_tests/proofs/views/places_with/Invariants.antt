use Rattle.std.proofs.Common.{◌≡◌}
use Rattle.value_tests.proofs.views.places_with.Given as goal

abbrev pub invariant-loop-p : goal.invariant-loop-p
invariant-loop-p g l = l.value ≡ l.fn.value
