use Rattle.std.proofs.Common.{◌≡◌, ◌≤◌, length}
use Rattle.slot_bench.proofs.values.written.Given as goal

abbrev pub invariant-loop-k : goal.invariant-loop-k
invariant-loop-k l = (length l.draft.written ≡ l.k) × (7501 ≤ l.draft.heap.layout.capacity_words) × (l.draft.heap ≡ l.pass.heap)
