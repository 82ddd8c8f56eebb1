use Rattle.rounding.proofs.Places.{bounds_of}
use Rattle.rounding.proofs.place.bounds.Goals as goal

pub returns : goal.returns
returns g c = bounds_of _ _ _ _ _ _ _ c.count-count.ensures.value c.count-count.ensures.small c.low.ensures.value c.low.ensures.order c.high.ensures.value c.high.ensures.inside
