use Rattle.std.proofs.Common.{arith}
use Rattle.text_spec.specs.Views.{width_in}
use Rattle.text_spec.proofs.Downward.{start-down}
use Rattle.str_value.specs.Meaning.{storage_of}
use Rattle.library_tests.proofs.batch_workers_view_tests.first_char.Goals as goal

pub scalar_at-scalar-requires-clause-boundary : goal.scalar_at-scalar-requires-clause-boundary
scalar_at-scalar-requires-clause-boundary g c = omega (arith, start-down (width_in (storage_of c.args.value.now.row)) c.args.value.now.text 0)
