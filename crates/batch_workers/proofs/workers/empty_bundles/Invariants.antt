use Rattle.std.specs.Global.{Vec}
use Rattle.std.specs.List.{AllByRecursion}
use Rattle.std.proofs.Common.{◌≡◌, [], length}
use Rattle.batch_workers.specs.declared.jobs.Task.{Task}
use Rattle.batch_workers.proofs.workers.empty_bundles.Given as goal

abbrev pub invariant-loop : goal.invariant-loop
invariant-loop l = record {
  count : length l.bundles.items ≡ l.counter;
  empty : AllByRecursion (λ (b : Vec Task). b.items ≡ []) l.bundles.items;
}
