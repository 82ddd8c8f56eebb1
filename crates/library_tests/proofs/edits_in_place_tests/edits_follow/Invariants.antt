use Rattle.std.proofs.Common.{◌≡◌}
use Rattle.str_value.specs.Meaning.{OfHeap}
use Rattle.library_tests.proofs.edits_in_place_tests.edits_follow.Given as goal

abbrev pub invariant-rows : goal.invariant-rows
invariant-rows g l = (l.pass.heap ≡ l.fn.pass.heap) × OfHeap l.pass l.value.place
