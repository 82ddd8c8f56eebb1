use Rattle.std.proofs.Common.{◌≡◌}
use Rattle.slot_bench.proofs.copies.work.Given as goal

abbrev pub invariant-loop : goal.invariant-loop
invariant-loop l = (l.sharer.held.heap ≡ l.sharer.pass.heap) × (l.sharer.pass.heap ≡ l.fn.sharer.pass.heap)
