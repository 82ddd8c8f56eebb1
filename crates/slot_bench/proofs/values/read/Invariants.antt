use Rattle.std.proofs.Common.{◌≡◌}
use Rattle.slot_bench.proofs.values.read.Given as goal

abbrev pub invariant-rounds : goal.invariant-rounds
invariant-rounds g l = l.t ≡ l.fn.t

abbrev pub invariant-words : goal.invariant-words
invariant-words g l = l.t ≡ l.fn.t
