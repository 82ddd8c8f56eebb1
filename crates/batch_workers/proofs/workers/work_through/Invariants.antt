use Rattle.std.specs.List.{AllByRecursion}
use Rattle.batch_workers.specs.Sharing.{IsReady}
use Rattle.batch_workers.proofs.Spreading.{WorkingOn}
use Rattle.batch_workers.proofs.workers.work_through.Given as goal

abbrev pub invariant-loop-task : goal.invariant-loop-task
invariant-loop-task g l = record {
  working : WorkingOn l.fn.spent l.fn.tasks.items l.task-iterator.rest.items l.finished.items;
  ready : AllByRecursion IsReady l.task-iterator.rest.items;
}
