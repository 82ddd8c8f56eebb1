use Rattle.std.proofs.Common.{◌≡◌}
use Rattle.slot_bench.proofs.looks.work.Given as goal

abbrev pub invariant-loop : goal.invariant-loop
invariant-loop l = l.looker.held.heap ≡ l.fn.looker.held.heap
