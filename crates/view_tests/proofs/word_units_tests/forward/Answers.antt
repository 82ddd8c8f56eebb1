use Rattle.std.proofs.Common.{arith}
use Rattle.text_spec.specs.Views.{width_in}
use Rattle.text_spec.proofs.Downward.{start-down}
use Rattle.text_spec.proofs.Walk.{start-zero}
use Rattle.word_units.specs.Owned.{text_of}
use Rattle.view_tests.proofs.word_units_tests.forward.Goals as goal

pub fill_forward-size-requires-clause-boundary : goal.fill_forward-size-requires-clause-boundary
fill_forward-size-requires-clause-boundary g c = omega (arith, start-down (width_in (c.args.t.now.1)) (text_of c.args.t.now) 0)

pub fill_forward-size-requires-clause-low : goal.fill_forward-size-requires-clause-low
fill_forward-size-requires-clause-low g c = omega (arith, start-zero (width_in (c.args.t.now.1)) (text_of c.args.t.now))
