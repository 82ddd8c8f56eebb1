use Rattle.std.proofs.Common.{◌≡◌, All}
use Rattle.std.specs.List.{AllByRecursion}
use Rattle.query_lines.specs.Replies.{IsShownOp}
use Rattle.str_value.specs.Meaning.{OfHeap}
use Rattle.library_tests.proofs.batch_tests.all_told.Given as goal

abbrev pub invariant-loop-done : goal.invariant-loop-done
invariant-loop-done l = record {
  one_heap : l.pass.heap ≡ l.fn.pass.heap;
  heap : AllByRecursion (λ d. OfHeap l.fn.pass d.value.place) l.done-iterator.rest.items;
  shown : AllByRecursion (λ d. All IsShownOp d.replies) l.done-iterator.rest.items;
}
