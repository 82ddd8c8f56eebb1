use Rattle.std.proofs.Common.{length, arith}
use Rattle.text_spec.specs.Views.{width_in}
use Rattle.text_spec.proofs.Walk.{start-zero}
use Rattle.str_value.specs.Meaning.{storage_of}
use Rattle.batch_workers.proofs.Boundaries.{boundary-there}
use Rattle.library_tests.proofs.batch_workers_view_tests.backward.Goals as goal

pub fill_backward-size-requires-clause-boundary : goal.fill_backward-size-requires-clause-boundary
fill_backward-size-requires-clause-boundary g c =
    boundary-there (storage_of c.args.value.now.row) c.args.value.now.text (length c.args.value.now.text) _ (omega arith) c.high-high.ensures.value

pub fill_backward-size-requires-clause-low : goal.fill_backward-size-requires-clause-low
fill_backward-size-requires-clause-low g c = omega (arith, start-zero (width_in (storage_of c.args.value.now.row)) c.args.value.now.text)
