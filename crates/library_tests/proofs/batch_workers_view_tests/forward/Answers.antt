use Rattle.std.proofs.Common.{arith}
use Rattle.text_spec.specs.Views.{width_in}
use Rattle.text_spec.proofs.Downward.{start-down}
use Rattle.text_spec.proofs.Walk.{start-zero}
use Rattle.str_value.specs.Meaning.{storage_of}
use Rattle.library_tests.proofs.batch_workers_view_tests.forward.Goals as goal

pub fill_forward-size-requires-clause-boundary : goal.fill_forward-size-requires-clause-boundary
fill_forward-size-requires-clause-boundary g c = omega (arith, start-down (width_in (storage_of c.args.value.now.row)) c.args.value.now.text 0)

pub fill_forward-size-requires-clause-low : goal.fill_forward-size-requires-clause-low
fill_forward-size-requires-clause-low g c = omega (arith, start-zero (width_in (storage_of c.args.value.now.row)) c.args.value.now.text)
