use Rattle.std.proofs.Common.{arith, ◌∙◌}
use Rattle.text_spec.proofs.Walk.{start-zero}
use Rattle.str_value.proofs.Between.{start-boundary}
use Rattle.library_tests.proofs.heaps.whole.Goals as goal

pub copy_utf8-requires-clause-low : goal.copy_utf8-requires-clause-low
copy_utf8-requires-clause-low c = start-boundary _ _ 0 _ (omega arith) c.low-low.ensures.value

pub copy_utf8-requires-clause-high : goal.copy_utf8-requires-clause-high
copy_utf8-requires-clause-high c = start-boundary _ _ _ _ (omega arith) c.high-high.ensures.value

pub copy_utf8-requires-clause-order : goal.copy_utf8-requires-clause-order
copy_utf8-requires-clause-order c = omega (arith, c.low-low.ensures.value ∙ start-zero _ _)
