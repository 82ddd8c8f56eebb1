use Rattle.std.proofs.Common.{◌≡◌}
use Rattle.slot_bench.proofs.values.asked.Given as goal

abbrev pub invariant-loop : goal.invariant-loop
invariant-loop g l = l.t ≡ l.fn.t
