use Rattle.rounding.proofs.Places.{floor_index}
use Rattle.rounding.proofs.floors.scalar_floor.Goals as goal

pub returns-clause-floor : goal.returns-clause-floor
returns-clause-floor g c = floor_index _ _ _ _ _ _ _ 0 _ c.boundary_before-at.ensures.floor c.encoding-encoding.ensures c.index_from.ensures
