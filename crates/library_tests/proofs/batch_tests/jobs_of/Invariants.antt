use Rattle.std.proofs.Common.{◌≡◌, All}
use Rattle.batch_workers.specs.Batch.{IsFit}
use Rattle.library_tests.proofs.batch_tests.jobs_of.Given as goal

abbrev pub invariant-loop-number : goal.invariant-loop-number
invariant-loop-number l = record {
  heap : l.pass.heap ≡ l.fn.pass.heap;
  fit : All (IsFit l.fn.pass) l.jobs.items;
}
