-- the owner stays on its heap
use Rattle.std.proofs.Common.{◌≡◌}
use Rattle.slot_bench.proofs.pairs.work.Given as goal

abbrev pub invariant-loop-word : goal.invariant-loop-word
invariant-loop-word l = l.owner.pass.heap ≡ l.fn.owner.pass.heap
