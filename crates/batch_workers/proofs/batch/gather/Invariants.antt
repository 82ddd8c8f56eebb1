use Rattle.std.proofs.Common.{◌≡◌, ◌<◌, List, length}
use Rattle.batch_workers.specs.Sharing.{EachShareOf, IsSpread}
use Rattle.batch_workers.specs.declared.jobs.Finished.{Finished}
use Rattle.batch_workers.proofs.Gathering.{Gathering}
use Rattle.batch_workers.proofs.batch.gather.Given as goal

abbrev pub invariant-loop-left : goal.invariant-loop-left
invariant-loop-left l = record {
  gathering : (fs : List Finished) → length fs ≡ l.fn.count → IsSpread fs l.fn.worked.items → EachShareOf l.fn.pass fs → Gathering l.fn.pass l.pass fs l.workers l.left l.worked.items l.done.items;
  workers : length l.worked.items ≡ l.workers;
  some : 0 < l.workers;
  heap : l.pass.heap ≡ l.fn.pass.heap;
}

abbrev pub decreases-loop-left : goal.decreases-loop-left
decreases-loop-left l = l.left
