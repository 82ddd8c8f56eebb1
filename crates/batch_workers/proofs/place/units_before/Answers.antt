use Rattle.std.proofs.Common.{arith}
use Rattle.text_spec.proofs.Downward.{start-down}
use Rattle.text_spec.specs.Views.{width_in}
use Rattle.str_value.specs.Meaning.{storage_of}
use Rattle.batch_workers.proofs.Boundaries.{walked-units}
use Rattle.batch_workers.proofs.place.units_before.Goals as goal

pub walk_on-at-requires-clause-begun : goal.walk_on-at-requires-clause-begun
walk_on-at-requires-clause-begun g c = omega (arith, start-down (width_in (storage_of c.args.text.now.row)) c.args.text.now.text 0)

pub returns-clause-units : goal.returns-clause-units
returns-clause-units g c =
    walked-units c.args.unit (storage_of c.args.text.now.row) c.args.text.now.text c.args.place _ _ c.walk_on-at.ensures.walked c.requires.inside
    (omega (arith, c.count-count.ensures.value, c.count-count.ensures.small))
