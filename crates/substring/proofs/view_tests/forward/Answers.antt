use Rattle.std.proofs.Common.{arith}
use Rattle.text_spec.specs.Views.{width_in}
use Rattle.text_spec.proofs.Downward.{down-length}
use Rattle.text_spec.proofs.Walk.{start-mono}
use Rattle.str_value.specs.Meaning.{storage_of}
use Rattle.str_value.proofs.Between.{start-boundary}
use Rattle.substring.proofs.view_tests.forward.Goals as goal

pub fill_forward-size-requires-clause-high : goal.fill_forward-size-requires-clause-high
fill_forward-size-requires-clause-high g c =
    omega (arith, c.low-low.ensures.value, start-mono (width_in (storage_of c.args.sub.now.base.row)) c.args.sub.now.base.text _ _ c.low-low.ensures.order)

pub fill_forward-size-requires-clause-boundary : goal.fill_forward-size-requires-clause-boundary
fill_forward-size-requires-clause-boundary g c = start-boundary _ _ _ _ (down-length _ _ _) c.low-low.ensures.value
