use Rattle.std.proofs.Common.{◌≡◌}
use Rattle.value_tests.proofs.measuring.words_with.Given as goal

abbrev pub invariant-loop-k : goal.invariant-loop-k
invariant-loop-k g l = l.value ≡ l.fn.value
