use Rattle.std.proofs.Common.{◌≡◌, ◌+◌, length}
use Rattle.batch_workers.proofs.Spreading.{Spreading}
use Rattle.batch_workers.proofs.workers.spread.Given as goal

abbrev pub invariant-loop-task : goal.invariant-loop-task
invariant-loop-task l = record {
  spreading : Spreading l.fn.tasks.items l.task-iterator.rest.items l.number l.fn.workers l.bundles.items;
  count : l.number + length l.task-iterator.rest.items ≡ length l.fn.tasks.items;
}
