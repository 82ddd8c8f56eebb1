use Rattle.std.proofs.Common.{arith}
use Rattle.text_spec.specs.Views.{width_in}
use Rattle.text_spec.proofs.Downward.{start-down}
use Rattle.str_value.specs.Meaning.{storage_of}
use Rattle.library_tests.proofs.batch_workers_view_tests.second_place.Goals as goal

pub pass_scalar-next-requires-clause-boundary : goal.pass_scalar-next-requires-clause-boundary
pass_scalar-next-requires-clause-boundary g c = omega (arith, start-down (width_in (storage_of c.args.value.now.row)) c.args.value.now.text 0)
