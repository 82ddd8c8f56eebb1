use Rattle.batch_workers.proofs.Spreading.{Taking}
use Rattle.batch_workers.proofs.workers.work_all.Given as goal

abbrev pub invariant-loop-result : goal.invariant-loop-result
invariant-loop-result g l = record {
  taking : Taking l.fn.spent l.fn.bundles.items l.worked.items l.result-iterator.rest.items;
}
