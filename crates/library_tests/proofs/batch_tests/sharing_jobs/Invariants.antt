use Rattle.std.proofs.Common.{◌≡◌, All}
use Rattle.str_value.specs.Meaning.{OfHeap}
use Rattle.batch_workers.specs.Batch.{IsFit}
use Rattle.library_tests.proofs.batch_tests.sharing_jobs.Given as goal

abbrev pub invariant-loop-list : goal.invariant-loop-list
invariant-loop-list l = record {
  heap : l.pass.heap ≡ l.fn.pass.heap;
  text : OfHeap l.pass l.text.place;
  fit : All (IsFit l.fn.pass) l.jobs.items;
}
